use Rattle.std.proofs.Common.{sym, subst}
use Rattle.addr_project.specs.Kept.{IsKept}
use Rattle.addr_project.specs.Model.{Project}
use Rattle.addr_update.specs.Laws.{EntriesSplit}
use Rattle.addr_update.proofs.ReasonLemmas.{numbers-split, reasons-tell}
use Rattle.addr_update.proofs.laws.entries_split.Goals as goal

split : (p : Project) → IsKept p → EntriesSplit p
split p kept u is = (reasons-tell u (subst IsKept (sym is) kept), numbers-split u (subst IsKept (sym is) kept))

pub returns : goal.returns
returns c = split c.args.project.now c.kept.ensures

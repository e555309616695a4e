use Rattle.std.proofs.Common.{sym, subst}
use Rattle.addr_project.specs.Kept.{IsKept}
use Rattle.addr_project.specs.Model.{Project}
use Rattle.addr_update.specs.Laws.{OneUpdated}
use Rattle.addr_update.proofs.OneLemmas.{one-updated}
use Rattle.addr_update.proofs.laws.one_updated_placement.Goals as goal

one : (p : Project) → IsKept p → OneUpdated p
one p kept u is plan other first second = one-updated u (subst IsKept (sym is) kept) plan other first second

pub returns : goal.returns
returns c = one c.args.project.now c.kept.ensures

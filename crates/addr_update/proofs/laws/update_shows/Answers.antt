use Rattle.std.proofs.Common.{sym, subst}
use Rattle.addr_project.specs.Kept.{IsKept}
use Rattle.addr_project.specs.Model.{Project}
use Rattle.addr_update.specs.Laws.{UpdateShows}
use Rattle.addr_update.proofs.ShowsLemmas.{all-shown}
use Rattle.addr_update.proofs.laws.update_shows.Goals as goal

shows : (p : Project) → IsKept p → UpdateShows p
shows p kept u is old new folder named r of after apart = all-shown u (subst IsKept (sym is) kept) old folder named r of new after apart

pub returns : goal.returns
returns c = shows c.args.project.now c.kept.ensures

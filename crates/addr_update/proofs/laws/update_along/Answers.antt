use Rattle.std.proofs.Common.{sym, subst}
use Rattle.addr_project.specs.Kept.{IsKept}
use Rattle.addr_project.specs.Model.{Project}
use Rattle.addr_update.specs.Laws.{UpdateAlong}
use Rattle.addr_update.proofs.AlongLemmas.{as-before}
use Rattle.addr_update.proofs.PutLemmas.{catalogue-there}
use Rattle.addr_update.proofs.ShowsLemmas.{leaves-shown}
use Rattle.addr_update.proofs.laws.update_along.Goals as goal

along : (p : Project) → IsKept p → UpdateAlong p
along p kept u is old now folder named r of k after =
    (λ near. as-before u old now folder named r of k near after, λ far. (catalogue-there u old folder named r of now k far after, λ apart. leaves-shown u (subst IsKept (sym is) kept) old folder named r of apart now k far after))

pub returns : goal.returns
returns c = along c.args.project.now c.kept.ensures

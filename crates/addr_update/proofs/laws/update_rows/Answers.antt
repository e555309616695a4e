use Rattle.std.proofs.Common.{sym, subst}
use Rattle.addr_project.specs.Kept.{IsKept}
use Rattle.addr_project.specs.Model.{Project}
use Rattle.addr_update.specs.Laws.{RowsTell}
use Rattle.addr_update.proofs.RowLemmas.{kept-row, moved-row}
use Rattle.addr_update.proofs.laws.update_rows.Goals as goal

tells : (p : Project) → IsKept p → RowsTell p
tells p kept u is old new folder named r of after bytes c there read x a here =
    let project = subst IsKept (sym is) kept in
    (λ m no. kept-row u project old new folder named r of after bytes c there read x m a here no, λ no. moved-row u project old new folder named r of after bytes c there read x a here no)

pub returns : goal.returns
returns c = tells c.args.project.now c.kept.ensures

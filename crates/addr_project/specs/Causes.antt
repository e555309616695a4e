-- Causes of an answer: the depot's count of faults rose exactly where the answer is a fault of the depot.
use Rattle.std.specs.Prelude.{ℕ, ◌≡◌, ◌≤◌, Result, Err, IfErr}
use Rattle.addr_base.specs.Faults.{Rose}
use Rattle.addr_project.specs.declared.error.ProjectErr.{ProjectErr}
use Rattle.addr_project.specs.declared.error.ProjectErr.TheVariants.{DepotFault}

-- the count rose where the answer is a fault of the depot, and else stayed
pub record FaultHasCause {T : Type 0} (before now : ℕ) (result : Result T ProjectErr) : Type 0 where
  pub later : before ≤ now
  pub failed : IfErr result (λ e. e ≡ DepotFault → Rose before now)
  pub kept : (result ≡ Err DepotFault → ⊥) → now ≡ before

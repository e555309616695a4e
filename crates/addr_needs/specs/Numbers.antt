-- The numbers of the state's bundles that a placement keeps.
use Rattle.std.specs.Prelude.{ℕ, ◌≡◌, ◌↔◌, List, Option, Some, true}
use Rattle.std.specs.List.{AllZip, slice_get}
use Rattle.addr_pack.specs.declared.bundles.Plan.{Plan}
use Rattle.addr_pack.specs.declared.bundles.PlanBundle.{PlanBundle}
use Rattle.addr_state.specs.declared.model.State.{State}
use Rattle.addr_state.specs.declared.model.StateBundle.{StateBundle}

-- the bundle of the state with a number has a name
abbrev pub IsNamedAt : List StateBundle → ℕ → List ℕ → Type 0
IsNamedAt olds m name = (old : StateBundle) × (slice_get olds m ≡ Some old) × (old.name ≡ name)

-- a kept bundle has the number of the state's bundle with its name, and any other bundle has none
abbrev pub IsNumberOf : List StateBundle → PlanBundle → Option ℕ → Type 0
IsNumberOf olds bundle number = (m : ℕ) → (number ≡ Some m) ↔ ((bundle.kept ≡ true) × IsNamedAt olds m bundle.name)

-- so for each bundle of a placement
abbrev pub AreNumbers : State → Plan → List (Option ℕ) → Type 0
AreNumbers s plan numbers = AllZip (IsNumberOf s.bundles) plan.bundles numbers

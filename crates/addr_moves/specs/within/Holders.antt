-- Bundles of the state by the GUIDs of their entries.
use Rattle.std.specs.Prelude.{ℕ, ◌≡◌, ◌<◌, ◌⊎◌, List, Option, Some, None}
use Rattle.std.specs.List.{Contains, slice_get}
use Rattle.addr_base.specs.declared.ids.Guid.{Guid}
use Rattle.addr_state.specs.declared.model.State.{State}
use Rattle.addr_state.specs.declared.model.StateBundle.{StateBundle}

-- a bundle of the state whose group is fixed there has the entry
abbrev pub HasFixed : State → Guid → ℕ → Type 0
HasFixed s a m = (old : StateBundle) × (slice_get s.bundles m ≡ Some old) × Contains old.entries a × Contains s.fixed old.group

-- such a bundle below a bound, if there is one
abbrev pub IsHolder : State → ℕ → Guid → Option ℕ → Type 0
IsHolder s k a None = (m : ℕ) → m < k → HasFixed s a m → ⊥
IsHolder s k a (Some m) = (m < k) × HasFixed s a m

abbrev pub AreHolders : State → ℕ → (List ℕ → Option ℕ) → Type 0
AreHolders s k find = (a : Guid) → IsHolder s k a (find a.0)

-- each of some GUIDs is found at a number, and all others as before
abbrev pub AddsEach : (List ℕ → Option ℕ) → List Guid → ℕ → (List ℕ → Option ℕ) → Type 0
AddsEach old guids m new = (a : Guid) → (Contains guids a × (new a.0 ≡ Some m)) ⊎ ((Contains guids a → ⊥) × (new a.0 ≡ old a.0))

-- so those of a bundle whose group is among some names, and else nothing changes
abbrev pub AddsIf : Option ℕ → (List ℕ → Option ℕ) → List Guid → ℕ → (List ℕ → Option ℕ) → Type 0
AddsIf None old guids m new = (a : Guid) → new a.0 ≡ old a.0
AddsIf (Some place) old guids m new = AddsEach old guids m new

abbrev pub AddsBundle : (List ℕ → Option ℕ) → (List ℕ → Option ℕ) → StateBundle → ℕ → (List ℕ → Option ℕ) → Type 0
AddsBundle fixed old bundle m new = AddsIf (fixed bundle.group) old bundle.entries m new

-- such a bundle with a group of that name
abbrev pub HasIn : State → Guid → List ℕ → ℕ → Type 0
HasIn s a name m = (old : StateBundle) × (slice_get s.bundles m ≡ Some old) × Contains old.entries a × Contains s.fixed old.group
    × (name ≡ old.group)

-- the first one, if there is one
abbrev pub IsOldIn : State → Guid → List ℕ → Option ℕ → Type 0
IsOldIn s a name None = (m : ℕ) → HasIn s a name m → ⊥
IsOldIn s a name (Some m) = HasIn s a name m × ((n : ℕ) → n < m → HasIn s a name n → ⊥)

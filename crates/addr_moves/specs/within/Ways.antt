-- Places by number that need no look: nothing is spoilt there, nothing leads away, and nothing is missed.
use Rattle.std.specs.Prelude.{ℕ, ◌≡◌, ◌<◌, Bool, true, false, List, [], ◌∷◌, ◌++◌, Option, Some, None}
use Rattle.std.specs.List.{Contains, slice_get}
use Rattle.addr_base.specs.declared.ids.Guid.{Guid}

abbrev pub IsGoodAt : List (List Guid) → List (Option Guid) → List (Option Guid) → ℕ → Type 0
IsGoodAt spoils away lost n = (slice_get spoils n ≡ Some []) × (slice_get away n ≡ Some None) × (slice_get lost n ≡ Some None)

-- of the numbers below a bound, all that are left out need no look
pub record AreBadBelow (spoils : List (List Guid)) (away lost : List (Option Guid)) (k : ℕ) (bad : List ℕ) : Type 0 where
  pub below : (n : ℕ) → Contains bad n → n < k
  pub good : (n : ℕ) → n < k → (Contains bad n → ⊥) → IsGoodAt spoils away lost n

-- numbers with one more, where the test fails
abbrev pub with_number : Bool → ℕ → List ℕ → List ℕ
with_number true n bad = bad
with_number false n bad = bad ++ n ∷ []

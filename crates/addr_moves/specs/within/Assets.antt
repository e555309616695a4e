-- Assets by number.
use Rattle.std.specs.Prelude.{ℕ, ◌≡◌, List, [], ◌∷◌, ◌++◌, Option, Some, None}
use Rattle.std.specs.List.{Contains}
use Rattle.addr_base.specs.declared.ids.Guid.{Guid}

-- numbers with one more, where it is found
abbrev pub with_found : Option ℕ → List ℕ → List ℕ
with_found None row = row
with_found (Some n) row = row ++ n ∷ []

-- the numbers that are found under some GUIDs
pub record AreFound (find : List ℕ → Option ℕ) (guids : List Guid) (row : List ℕ) : Type 0 where
  pub within : (n : ℕ) → Contains row n → (g : Guid) × Contains guids g × (find g.0 ≡ Some n)
  pub all : (g : Guid) (n : ℕ) → Contains guids g → find g.0 ≡ Some n → Contains row n

-- Rows of numbers turned round, one row after the other.
use Rattle.std.specs.Prelude.{ℕ, ◌≡◌, ◌⊎◌, List}
use Rattle.std.specs.List.{Contains}
use Rattle.addr_walks.specs.Rows.{Edge}

-- rows the other way round
abbrev pub IsTurned : List (List ℕ) → List (List ℕ) → Type 0
IsTurned rows back = (b c : ℕ) → (Edge rows b c → Edge back c b) × (Edge back c b → Edge rows b c)

-- each number of a row leads to b as well
abbrev pub Adds : List (List ℕ) → List ℕ → ℕ → List (List ℕ) → Type 0
Adds old row b new = (c x : ℕ) → (Edge new c x → Edge old c x ⊎ (Contains row c × (x ≡ b)))
    × (Edge old c x ⊎ (Contains row c × (x ≡ b)) → Edge new c x)

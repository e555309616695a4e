-- A pourer: what it took is a relation to bytes, since a digest that runs along doesn't give its message back.
use Rattle.std.specs.Prelude.{ℕ, List, ◌++◌}

-- whatever it had taken, it has now taken these bytes behind that
abbrev pub Pours : {P : Type 0} → (P → List ℕ → Type 0) → P → P → List ℕ → Type 0
Pours took old new bytes = (fed : List ℕ) → took old fed → took new (fed ++ bytes)

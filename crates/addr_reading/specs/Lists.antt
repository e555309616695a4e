-- Reading one after the other, each behind those that were read before it, up to the first fault: a list, or so many.
use Rattle.std.specs.Prelude.{ℕ, zero, suc, List, [], ◌∷◌, ◌++◌, Result, Ok}
use Rattle.addr_reading.specs.Steps.{◌>>=◌}

-- those before, and what each of a list is read as
unfoldable pub read_all : {A B E : Type 0} → (List B → A → Result B E) → List B → List A → Result (List B) E
read_all read before [] = Ok before
read_all read before (x ∷ xs) = do
  y ← read before x
  read_all read (before ++ y ∷ []) xs

-- so many, one after the other, behind those before: what they are read as, and what is left to be read
unfoldable pub read_times : {B T E : Type 0} → (List B → T → Result (B × T) E) → ℕ → List B → T → Result (List B × T) E
read_times read zero before rest = Ok (before, rest)
read_times read (suc n) before rest = do
  first ← read before rest
  read_times read n (before ++ first.0 ∷ []) first.1

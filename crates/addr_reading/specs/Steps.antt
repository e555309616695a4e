-- Reading step after step, up to the first fault, whatever the type of faults is.
use Rattle.std.specs.Prelude.{Option, Some, None, Result, Ok, Err}

-- one step after another, up to the first that fails
infixl 10 ◌>>=◌
abbrev pub ◌>>=◌ : {A B E : Type 0} → Result A E → (A → Result B E) → Result B E
(Ok x) >>= f = f x
(Err e) >>= f = Err e

-- what stands there, or else the fault
abbrev pub or_fault : {A E : Type 0} → E → Option A → Result A E
or_fault fault (Some x) = Ok x
or_fault fault None = Err fault

-- Walks of steps, and the ascending lists of sets: the words for everything that is reached from something.
use Rattle.std.specs.Prelude.{List}
use Rattle.std.specs.List.{Contains}
use Rattle.std.specs.List.Sorted.{IsStrictlySortedBy}
use Rattle.std.specs.declared.cmp.Ordering.{Ordering}

-- a walk of steps leads from one thing to another, or to itself
pub data Leads {X : Type 0} (step : X → X → Type 0) (start : X) : X → Type 0 where
  stays : Leads step start start
  goes : {x y : X} → Leads step start x → step x y → Leads step start y

-- the list of a set in ascending order, each once
pub record IsListOf {X : Type 0} (cmp : X → X → Ordering) (set : X → Type 0) (xs : List X) : Type 0 where
  pub rising : IsStrictlySortedBy cmp xs
  pub within : (x : X) → Contains xs x → set x
  pub all : (x : X) → set x → Contains xs x

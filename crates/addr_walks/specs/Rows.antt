-- Rows of numbers: a row's number is its place, and it leads to each number that stands in it.
use Rattle.std.specs.Prelude.{ℕ, ◌≡◌, ◌<◌, ◌↔◌, List, length, Some}
use Rattle.std.specs.List.{Contains, slice_get}
use Rattle.std.specs.Ordering.{nat_cmp}
use Rattle.addr_walks.specs.Walks.{Leads, IsListOf}

-- a row leads to each number that stands in it
abbrev pub Edge : List (List ℕ) → ℕ → ℕ → Type 0
Edge rows b c = (row : List ℕ) × (slice_get rows b ≡ Some row) × Contains row c

-- a walk leads from one of the seeds to a number
abbrev pub LedTo : List (List ℕ) → List ℕ → ℕ → Type 0
LedTo rows seeds c = (s : ℕ) × Contains seeds s × Leads (Edge rows) s c

-- it does, and the number is below a bound
abbrev pub LedBelow : List (List ℕ) → List ℕ → ℕ → ℕ → Type 0
LedBelow rows seeds bound c = (c < bound) × LedTo rows seeds c

-- each number in a row is below n
pub record AreBelow (rows : List (List ℕ)) (n : ℕ) : Type 0 where
  pub each : (b c : ℕ) → Edge rows b c → c < n

-- a list holds what a set holds, and nothing else
abbrev pub Holds : List ℕ → (ℕ → Type 0) → Type 0
Holds xs set = (c : ℕ) → Contains xs c ↔ set c

-- a set of numbers has so many elements
abbrev pub IsSizeOf : (ℕ → Type 0) → ℕ → Type 0
IsSizeOf set n = (xs : List ℕ) × IsListOf nat_cmp set xs × (n ≡ length xs)

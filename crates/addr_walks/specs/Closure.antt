-- Dependency lists: what a step leads to from each number, the number itself first.
use Rattle.std.specs.Prelude.{ℕ, ◌≡◌, ◌≢◌, ◌==◌, Bool, not, List, ◌∷◌, length, Some}
use Rattle.std.specs.List.{slice_get}
use Rattle.std.specs.Ordering.{nat_cmp}
use Rattle.addr_walks.specs.Once.{AreOnce}
use Rattle.addr_walks.specs.Places.{EachAt}
use Rattle.addr_walks.specs.Rows.{Edge}
use Rattle.addr_walks.specs.Walks.{Leads, IsListOf}

-- a number itself, and then, ascending, every other number to which a walk leads
abbrev pub IsDeps : (ℕ → ℕ → Type 0) → ℕ → List ℕ → Type 0
IsDeps step b deps = (rest : List ℕ) × (deps ≡ b ∷ rest) × IsListOf nat_cmp (λ c. (b ≢ c) × Leads step b c) rest

-- for each row its dependency list
pub record AreDeps (rows all : List (List ℕ)) : Type 0 where
  pub each_row : length all ≡ length rows
  pub deps : EachAt (IsDeps (Edge rows)) all

-- a dependency list begins with the number itself, and has no repeat
abbrev pub BeginsOnce : ℕ → List ℕ → Type 0
BeginsOnce b deps = (slice_get deps 0 ≡ Some b) × AreOnce deps

-- a number is another one than the first
abbrev pub is_other : ℕ → ℕ → Bool
is_other first c = not (c == first)

-- The state of a search: marks over all numbers, and the list of what is marked in the order in which it was found.
use Rattle.std.specs.Prelude.{ℕ, ◌≡◌, ◌↔◌, List, [], ◌∷◌, ◌++◌, Bool, true, false, if◌then◌else◌, nat_eq, slice_index_or}
use Rattle.std.specs.List.{Contains, IsDistinct}

-- the list holds what is marked, each number once
pub record Tracks (marks : List Bool) (queue : List ℕ) : Type 0 where
  pub once : IsDistinct nat_eq queue
  pub same : (c : ℕ) → (slice_index_or marks c false ≡ true) ↔ Contains queue c

-- what is still marked was marked before, and isn't listed
abbrev pub HasLeft : List Bool → List ℕ → List Bool → Type 0
HasLeft old listed new = (c : ℕ) → slice_index_or new c false ≡ true → (slice_index_or old c false ≡ true) × ¬ Contains listed c

-- a list after one more number is marked
abbrev pub with_mark : List Bool → List ℕ → ℕ → List ℕ
with_mark marks queue c = if slice_index_or marks c false then queue else queue ++ c ∷ []

-- a list after some numbers were marked: it goes on with some of them, and holds each
pub record Grows (cs old new : List ℕ) : Type 0 where
  pub added : List ℕ
  pub is : new ≡ old ++ added
  pub only : (c : ℕ) → Contains added c → Contains cs c
  pub each : (c : ℕ) → Contains cs c → Contains new c

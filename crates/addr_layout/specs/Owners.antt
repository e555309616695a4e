-- Rows of numbers turned round: which row a number stands in.
use Rattle.std.specs.Prelude.{ℕ, ◌≡◌, ◌⊎◌, List, true, Option, Some, None, is_some, slice_index_or}
use Rattle.std.specs.List.{Contains}
use Rattle.addr_walks.specs.Rows.{Edge}

-- beside each number stands a row that it is in, wherever there is one
pub record AreOwners (rows : List (List ℕ)) (owners : List (Option ℕ)) : Type 0 where
  pub sound : (r c : ℕ) → slice_index_or owners r None ≡ Some c → Edge rows c r
  pub all : (r c : ℕ) → Edge rows c r → is_some (slice_index_or owners r None) ≡ true

-- what was beside some numbers is replaced, and all else is as it was
pub record Replaces (old : List (Option ℕ)) (row : List ℕ) (b : ℕ) (new : List (Option ℕ)) : Type 0 where
  pub sound : (r c : ℕ) → slice_index_or new r None ≡ Some c → (slice_index_or old r None ≡ Some c) ⊎ ((b ≡ c) × Contains row r)
  pub kept : (r : ℕ) → is_some (slice_index_or old r None) ≡ true → is_some (slice_index_or new r None) ≡ true
  pub all : (r : ℕ) → Contains row r → is_some (slice_index_or new r None) ≡ true

-- Marks beside the assets of a project: which of them are entries.
use Rattle.std.specs.Prelude.{ℕ, ◌≡◌, ◌==◌, List, Bool, not, slice_index_or, false, length, filter, drop}
use Rattle.std.specs.List.{list_any}
use Rattle.addr_project.specs.declared.model.Entry.{Entry}
use Rattle.addr_pack.specs.declared.bundles.PlanBundle.{PlanBundle}
use Rattle.addr_texts.specs.PlanText.{Block}

-- an entry's asset has the number
abbrev pub is_of : ℕ → Entry → Bool
is_of n e = e.asset == n

-- a mark stands beside each asset, and is set exactly where some of the entries is of it
pub record AreMarks (count : ℕ) (entries : List Entry) (marks : List Bool) : Type 0 where
  pub as_many : length marks ≡ count
  pub set : (n : ℕ) → slice_index_or marks n false ≡ list_any (is_of n) entries

-- no mark is set beside the asset
abbrev pub is_unmarked : List Bool → ℕ → Bool
is_unmarked marks n = not (slice_index_or marks n false)

-- the block of a bundle whose members and dependencies are given
abbrev pub block_of : List Bool → PlanBundle → List ℕ → List ℕ → Block
block_of marks bundle members deps = record { name = bundle.name; entries = bundle.entries; copies = filter (is_unmarked marks) members; deps = drop 1 deps }

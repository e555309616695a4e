-- Files that are put one after the other: what each moment and the end are as.
use Rattle.std.specs.Prelude.{ℕ, ◌≡◌, ◌≤◌, ◌<◌, ◌+◌, ◌++◌, ◌⊎◌, List, [], ◌∷◌, length, take, Some}
use Rattle.std.specs.List.{Contains}
use Rattle.addr_base.specs.Files.{Store}
use Rattle.addr_base.specs.declared.files.MemFile.{MemFile}
use Rattle.addr_release.specs.Puts.{IsAfter}

-- the files are as after the first n puts, or as after one more
abbrev pub IsDuring : List MemFile → ℕ → List MemFile → List MemFile → Type 0
IsDuring puts n old files = IsAfter (take n puts) old files ⊎ IsAfter (take (n + 1) puts) old files

-- moments from the n-th put on: each comes during some put, none during an earlier put than the moment before it, and
-- the end is as after that many puts or more
abbrev pub Passes : List MemFile → List MemFile → ℕ → List (List MemFile) → List MemFile → Type 0
Passes puts old n [] end = (k : ℕ) × (n ≤ k) × (k ≤ length puts) × IsAfter (take k puts) old end
Passes puts old n (files ∷ later) end = (k : ℕ) × (n ≤ k) × (k < length puts)
    × IsDuring puts k old files × Passes puts old k later end

-- some of these files were put, in this order
pub record LaysSome (puts : List MemFile) (old new : Store) : Type 0 where
  pub passed : List (List MemFile)
  pub past : new.past ≡ old.past ++ passed
  pub told : (before : List MemFile) → old.files ≡ Some before
      → (after : List MemFile) × (new.files ≡ Some after) × Passes puts before 0 passed after

-- all of these files were put, in this order
pub record LaysAll (puts : List MemFile) (old new : Store) : Type 0 where
  pub some : LaysSome puts old new
  pub all : (before after : List MemFile) → old.files ≡ Some before → new.files ≡ Some after → IsAfter puts before after

-- no earlier moment changes, and at each moment that passed, and at the end, the files are so to those before
pub record AtEachMoment (holds : List MemFile → List MemFile → Type 0) (old new : Store) : Type 0 where
  pub passed : List (List MemFile)
  pub past : new.past ≡ old.past ++ passed
  pub each : (before files : List MemFile) → old.files ≡ Some before → Contains passed files → holds before files
  pub last : (before : List MemFile) → old.files ≡ Some before → (after : List MemFile) × (new.files ≡ Some after) × holds before after

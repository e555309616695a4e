-- How puts with tests of their names end: all are put, or a name is taken and those before it are put, or they stop.
use Rattle.std.specs.Prelude.{ℕ, ◌≡◌, ◌+◌, ◌<◌, ◌≤◌, false, true, List, [], ◌∷◌, ◌++◌, length, take, Some, None, Result, Ok, Err}
use Rattle.addr_base.specs.Faults.{Rose}
use Rattle.addr_base.specs.Files.{Store}
use Rattle.addr_base.specs.declared.files.MemFile.{MemFile}
use Rattle.addr_release.specs.Puts.{AreUntaken, Test, first_taken}
use Rattle.addr_state.specs.Files.{side_folder}
use Rattle.addr_build.specs.Moments.{LaysAll, LaysSome}
use Rattle.addr_build.specs.declared.error.PutErr.{PutErr}
use Rattle.addr_build.specs.declared.error.PutErr.TheVariants.{Taken, Fault, NoMemory}

-- the tests of a name on both sides, local before remote
abbrev pub key_tests : ℕ → List ℕ → List ℕ → List Test
key_tests n key bytes =
    record { number = n; name = side_folder false ++ key; bytes = bytes }
    ∷ record { number = n; name = side_folder true ++ key; bytes = bytes } ∷ []

-- the test of one name
abbrev pub name_tests : ℕ → List ℕ → List ℕ → List Test
name_tests n name bytes = record { number = n; name = name; bytes = bytes } ∷ []

-- the first name that is taken, as a refusal tells it, and the number of its put
abbrev pub IsTakenFirst : List MemFile → List ℕ → List Test → ℕ → List ℕ → Type 0
IsTakenFirst files folder tests n name = (test : Test) × (first_taken files folder tests ≡ Some test)
    × (test.number ≡ n) × (test.name ≡ name)

-- puts that were stopped, the first of them being the n-th: some of the first k were made, and no name is taken that is
-- tested for these
abbrev pub LaysUntaken : List ℕ → List MemFile → ℕ → List Test → Store → Store → Type 0
LaysUntaken folder puts n tests old new = (k : ℕ) × (k ≤ length puts) × LaysSome (take k puts) old new
    × ((files : List MemFile) → old.files ≡ Some files → AreUntaken files folder (n + k) tests)

-- what puts end with, the first of them being the n-th: all were put and no name is taken; or exactly those before the
-- first name that is taken were put; or, at a stop, some whose names aren't taken were
abbrev pub Ends : {T : Type 0} → List ℕ → List MemFile → ℕ → List Test → Store → Store → Result T PutErr → Type 0
Ends folder puts n tests old new (Ok done) = LaysAll puts old new
    × ((files : List MemFile) → old.files ≡ Some files → first_taken files folder tests ≡ None)
Ends folder puts n tests old new (Err (Taken name)) = (k : ℕ) × (k < length puts) × LaysAll (take k puts) old new
    × ((files : List MemFile) → old.files ≡ Some files → IsTakenFirst files folder tests (n + k) name)
    × ((files : List MemFile) → old.files ≡ Some files → AreUntaken files folder (n + k) tests)
Ends folder puts n tests old new (Err Fault) = LaysUntaken folder puts n tests old new
Ends folder puts n tests old new (Err NoMemory) = LaysUntaken folder puts n tests old new

-- the count of faults rose exactly where the answer is a fault
abbrev pub PutRose : {T : Type 0} → ℕ → ℕ → Result T PutErr → Type 0
PutRose before now (Ok done) = now ≡ before
PutRose before now (Err (Taken name)) = now ≡ before
PutRose before now (Err Fault) = (before ≤ now) × Rose before now
PutRose before now (Err NoMemory) = now ≡ before

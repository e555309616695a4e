-- What stands under a name, and what its test answers.
use Rattle.std.specs.Prelude.{ℕ, ◌≡◌, ◌⊎◌, Bool, false, true, List, Some, None, Result, Ok, Err, ◌≢◌, Option}
use Rattle.std.specs.Bool.{MatchBool}
use Rattle.addr_base.specs.Files.{file_at}
use Rattle.addr_base.specs.declared.files.MemFile.{MemFile}
use Rattle.addr_release.specs.Puts.{Test, first_taken}
use Rattle.addr_build.specs.declared.error.PutErr.{PutErr}
use Rattle.addr_build.specs.declared.error.PutErr.TheVariants.{Taken, Fault, NoMemory}
use Rattle.addr_build.specs.declared.putting.Spot.{Spot}
use Rattle.addr_build.specs.declared.putting.Spot.TheVariants.{Free, Same, Other}
use Rattle.addr_build.specs.Endings.{IsTakenFirst}

-- what stands under a name, beside some bytes
abbrev pub IsSpotOf : Option (List ℕ) → List ℕ → Spot → Type 0
IsSpotOf found bytes Free = found ≡ None
IsSpotOf found bytes Same = found ≡ Some bytes
IsSpotOf found bytes Other = (other : List ℕ) × (found ≡ Some other) × (other ≢ bytes)

-- what tests of names answer before a file is put: whether it has still to be put, or the first name that is taken
abbrev pub Tells : List MemFile → List ℕ → List Test → List ℕ → List ℕ → Result Bool PutErr → Type 0
Tells files folder tests own bytes (Ok owed) = (first_taken files folder tests ≡ None)
    × MatchBool owed (file_at own files ≡ None) (file_at own files ≡ Some bytes)
Tells files folder tests own bytes (Err (Taken name)) = IsTakenFirst files folder tests 0 name
Tells files folder tests own bytes (Err Fault) = Unit {0}
Tells files folder tests own bytes (Err NoMemory) = Unit {0}

-- whether a file has still to be put where this stands under its name, or the refusal that names it
abbrev pub Owes : Spot → List ℕ → Result Bool PutErr → Type 0
Owes Free name result = result ≡ Ok true
Owes Same name result = result ≡ Ok false
Owes Other name result = (result ≡ Err NoMemory) ⊎ (result ≡ Err (Taken name))

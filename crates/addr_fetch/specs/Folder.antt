-- How a file that is poured piece by piece ends; nothing is known of its bytes but how many were poured.
use Rattle.std.specs.Prelude.{ℕ, ◌≡◌, ◌≤◌, ◌<◌, List, length}
use Rattle.addr_fetch.specs.Gives.{IsWithin}
use Rattle.addr_fetch.specs.declared.fetch.Fetched.{Fetched}
use Rattle.addr_fetch.specs.declared.folder_fetch.Ended.{Ended}
use Rattle.addr_fetch.specs.declared.folder_fetch.Ended.TheVariants.{Whole, Missing, TooLong, Failed, NoMemory}

-- bytes were poured: the whole file, within the limit, or a part of it
abbrev pub EndsAs : (List ℕ → Type 0) → ℕ → Ended → Type 0
EndsAs Took limit (Whole n) = (bytes : List ℕ) × Took bytes × (length bytes ≡ n) × (n ≤ limit)
EndsAs Took limit (TooLong n) = (bytes : List ℕ) × Took bytes × (limit < n)
EndsAs Took limit Missing = (bytes : List ℕ) × Took bytes
EndsAs Took limit Failed = (bytes : List ℕ) × Took bytes
EndsAs Took limit NoMemory = (bytes : List ℕ) × Took bytes

-- a file that ended by an error
abbrev pub IsError : Ended → Type 0
IsError (Whole n) = ⊥
IsError (TooLong n) = ⊥
IsError Missing = Unit {0}
IsError Failed = Unit {0}
IsError NoMemory = Unit {0}

-- what a call gives: the rules alone
abbrev pub FolderGives : ℕ → ℕ → Fetched → ℕ → Type 0
FolderGives before limit answer after = IsWithin limit before answer after × (before ≤ after)

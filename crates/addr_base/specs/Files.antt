-- A depot's files: named byte strings, where the first of a name counts.
use Rattle.std.specs.Prelude.{ℕ, ◌≡◌, ◌≢◌, ◌≤◌, ◌++◌, List, Option, Some, Result, Ok, Err, find, All, IfSome, IsSomeAnd, IsNone, MatchOption, ◌⊎◌}
use Rattle.std.specs.Str.{bytes_eq}
use Rattle.std.specs.Option.{option_map}
use Rattle.addr_base.specs.Faults.{Rose}
use Rattle.addr_base.specs.declared.files.MemFile.{MemFile}
use Rattle.addr_base.specs.declared.depot.DepotErr.{DepotErr}
use Rattle.addr_base.specs.declared.depot.DepotErr.TheVariants.{Fault, NoMemory}

-- a depot as its callers see it: its files now, where it tells them; its files at each moment that has passed, oldest
-- first; and how often it has failed
pub record Store : Type 0 where
  pub files : Option (List MemFile)
  pub past : List (List MemFile)
  pub faults : ℕ

-- the bytes of the file with that name, if there is one
abbrev pub file_at : List ℕ → List MemFile → Option (List ℕ)
file_at name files = option_map (λ f. f.bytes) (find (λ f. bytes_eq f.name name) files)

-- each name leads to the same bytes as before
abbrev pub SameFiles : List MemFile → List MemFile → Type 0
SameFiles old new = (other : List ℕ) → file_at other new ≡ file_at other old

-- each name but the given one leads to the same bytes as before
abbrev pub SameElsewhere : List ℕ → List MemFile → List MemFile → Type 0
SameElsewhere name old new = (other : List ℕ) → other ≢ name → file_at other new ≡ file_at other old

-- the name leads to the bytes, and every other name to what it led to
abbrev pub IsPut : List ℕ → List ℕ → List MemFile → List MemFile → Type 0
IsPut name bytes old new = (file_at name new ≡ Some bytes) × SameElsewhere name old new

-- the file is put, or each file is as before
abbrev pub IsPutOrSame : List ℕ → List ℕ → List MemFile → List MemFile → Type 0
IsPutOrSame name bytes old new = IsPut name bytes old new ⊎ SameFiles old new

-- what a put leaves: after Ok the file is put, after an error it is put or each file is as before
abbrev pub Puts : {T : Type 0} → List ℕ → List ℕ → List MemFile → List MemFile → Result T DepotErr → Type 0
Puts name bytes old new (Ok done) = IsPut name bytes old new
Puts name bytes old new (Err _) = IsPutOrSame name bytes old new

-- the files stay as they were, and no moment passes
pub record SameStore (old new : Store) : Type 0 where
  pub files : new.files ≡ old.files
  pub past : new.past ≡ old.past

-- what a put leaves now, and at each moment that passed since its start: no earlier moment changes
pub record PutsAt {T : Type 0} (name bytes : List ℕ) (old new : Store) (result : Result T DepotErr) : Type 0 where
  pub files : MatchOption old.files (IsNone new.files) (λ before. IsSomeAnd new.files (λ after. Puts name bytes before after result))
  pub passed : List (List MemFile)
  pub past : new.past ≡ old.past ++ passed
  pub each : IfSome old.files (λ before. All (IsPutOrSame name bytes before) passed)

-- the count of faults rose exactly where the answer is a fault
abbrev pub FaultRose : {T : Type 0} → ℕ → ℕ → Result T DepotErr → Type 0
FaultRose before now (Ok done) = now ≡ before
FaultRose before now (Err Fault) = (before ≤ now) × Rose before now
FaultRose before now (Err NoMemory) = now ≡ before

-- What every fetcher keeps, whatever it is.
use Rattle.std.specs.Prelude.{ℕ, ◌≡◌, ◌<◌, ◌≤◌, List, Option, Some, None, length, IfSome}
use Rattle.addr_base.specs.Faults.{Rose}
use Rattle.addr_base.specs.Files.{file_at}
use Rattle.addr_base.specs.declared.files.MemFile.{MemFile}
use Rattle.addr_fetch.specs.declared.fetch.Fetched.{Fetched}
use Rattle.addr_fetch.specs.declared.fetch.Fetched.TheVariants.{Given, Missing, Refused, TooLong, Fault, NoMemory}
use Rattle.addr_fetch.specs.declared.fetch.Poured.{Poured}
use Rattle.addr_fetch.specs.declared.fetch.Poured.TheVariants as poured

-- a fetcher as its callers see it: its files by their internal ids, where it tells them, and how often it has failed
pub record Origin : Type 0 where
  pub files : Option (List MemFile)
  pub faults : ℕ

-- where the files are told: what is answered but for a fault and want of memory
abbrev pub AnswersFile : List MemFile → List ℕ → ℕ → Fetched → Type 0
AnswersFile files id limit (Given bytes) = file_at id files ≡ Some bytes
AnswersFile files id limit Missing = file_at id files ≡ None
AnswersFile files id limit (TooLong n) = (bytes : List ℕ) × (file_at id files ≡ Some bytes) × (length bytes ≡ n)
AnswersFile files id limit (Refused code) = ⊥
AnswersFile files id limit (Fault n) = Unit {0}
AnswersFile files id limit NoMemory = Unit {0}

-- what is given is within the limit, what is too long isn't, and a fault was counted
abbrev pub IsWithin : ℕ → ℕ → Fetched → ℕ → Type 0
IsWithin limit before (Given bytes) after = length bytes ≤ limit
IsWithin limit before (TooLong n) after = limit < n
IsWithin limit before (Fault n) after = Rose before after × (n ≡ after)
IsWithin limit before Missing after = Unit {0}
IsWithin limit before (Refused code) after = Unit {0}
IsWithin limit before NoMemory after = Unit {0}

-- the rules of a fetch: no file changes, and the count of faults never falls
pub record KeepsRules (before : Origin) (id : List ℕ) (limit : ℕ) (answer : Fetched) (after : Origin) : Type 0 where
  pub within : IsWithin limit before.faults answer after.faults
  pub later : before.faults ≤ after.faults
  pub same : after.files ≡ before.files
  pub told : IfSome before.files (λ files. AnswersFile files id limit answer)

-- whatever fetchers that are seen so give keeps the rules
abbrev pub AllKeepRules : {F : Type 0} → (F → Origin) → (F → List ℕ → ℕ → Fetched → F → Type 0) → Type 0
AllKeepRules {F} now gives =
    (before after : F) (id : List ℕ) (limit : ℕ) (answer : Fetched)
    → gives before id limit answer after → KeepsRules (now before) id limit answer (now after)

-- what a call that pours answers: with the whole file its length, and else what the fetch gives, after a part was poured
abbrev pub PouredAs : (List ℕ → Type 0) → (Fetched → Type 0) → Poured → Type 0
PouredAs Took Gives (poured.Whole n) = (bytes : List ℕ) × Took bytes × (length bytes ≡ n) × Gives (Given bytes)
PouredAs Took Gives poured.Missing = (bytes : List ℕ) × Took bytes × Gives Missing
PouredAs Took Gives (poured.Refused code) = (bytes : List ℕ) × Took bytes × Gives (Refused code)
PouredAs Took Gives (poured.TooLong n) = (bytes : List ℕ) × Took bytes × Gives (TooLong n)
PouredAs Took Gives (poured.Fault n) = (bytes : List ℕ) × Took bytes × Gives (Fault n)
PouredAs Took Gives poured.NoMemory = (bytes : List ℕ) × Took bytes × Gives NoMemory

-- The fetcher in memory: its files, which of its calls fail, and what each call gives.
use Rattle.std.specs.Prelude.{ℕ, ◌≡◌, ◌<◌, ◌≤◌, true, false, List, Some, length}
use Rattle.addr_base.specs.Faults.{one_more}
use Rattle.addr_base.specs.Plans.{IsCounted, fails_next}
use Rattle.addr_base.specs.declared.fail_plan.FailPlan.{FailPlan}
use Rattle.addr_base.specs.declared.files.MemFile.{MemFile}
use Rattle.addr_fetch.specs.Gives.{AnswersFile, Origin}
use Rattle.addr_fetch.specs.declared.fetch.Fetched.{Fetched}
use Rattle.addr_fetch.specs.declared.fetch.Fetched.TheVariants.{Given, Missing, Refused, TooLong, Fault, NoMemory}
use Rattle.addr_fetch.specs.declared.mem_fetch.MemFetch.{MemFetch}

-- the files, and how often the fetcher has failed
abbrev pub fetch_files : MemFetch → List MemFile
fetch_files fetch = fetch.files.items

abbrev pub fetch_origin : MemFetch → Origin
fetch_origin fetch = record { files = Some fetch.files.items; faults = fetch.faults }

-- which of its calls fail
abbrev pub fetch_plan : MemFetch → FailPlan
fetch_plan fetch = fetch.plan

-- one call was counted, and the files stay
pub record IsCalled (before after : MemFetch) : Type 0 where
  pub counted : IsCounted before.plan after.plan
  pub files : after.files ≡ before.files
  pub piece : after.piece ≡ before.piece

-- a call that is told to fail is a fault, and no other is; what is given has no more than the limit, what is too long has
abbrev pub MemAnswers : MemFetch → List ℕ → ℕ → Fetched → MemFetch → Type 0
MemAnswers before id limit (Fault n) after = (fails_next before.plan ≡ true) × (after.faults ≡ one_more before.faults) × (before.faults ≤ after.faults) × (n ≡ after.faults)
MemAnswers before id limit NoMemory after = (fails_next before.plan ≡ false) × (after.faults ≡ before.faults)
MemAnswers before id limit (Given bytes) after = (fails_next before.plan ≡ false) × (after.faults ≡ before.faults) × AnswersFile before.files.items id limit (Given bytes) × (length bytes ≤ limit)
MemAnswers before id limit (TooLong n) after = (fails_next before.plan ≡ false) × (after.faults ≡ before.faults) × AnswersFile before.files.items id limit (TooLong n) × (limit < n)
MemAnswers before id limit Missing after = (fails_next before.plan ≡ false) × (after.faults ≡ before.faults) × AnswersFile before.files.items id limit Missing
MemAnswers before id limit (Refused code) after = ⊥

-- what a call gives
abbrev pub MemGives : MemFetch → List ℕ → ℕ → Fetched → MemFetch → Type 0
MemGives before id limit answer after = IsCalled before after × MemAnswers before id limit answer after

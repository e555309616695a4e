-- The fakes in memory, as their callers see them: the files now and at each moment, what was written, and which calls are
-- told to fail.
use Rattle.std.specs.Prelude.{ℕ, ◌≡◌, ◌^◌, ◌≤◌, ◌==◌, ◌||◌, Bool, true, false, if◌then◌else◌, List, [], ◌∷◌, length, Some, Result, Ok, Err, IsSomeAnd, ◌⊎◌}
use Rattle.std.specs.List.{list_any}
use Rattle.addr_base.specs.Faults.{one_more}
use Rattle.addr_base.specs.Files.{Store, IsPut, file_at}
use Rattle.addr_base.specs.Plans.{fails_next}
use Rattle.addr_base.specs.declared.depot.DepotErr.{DepotErr}
use Rattle.addr_base.specs.declared.depot.DepotErr.TheVariants.{Fault, NoMemory}
use Rattle.addr_base.specs.declared.fail_plan.FailPlan.{FailPlan}
use Rattle.addr_base.specs.declared.files.MemFile.{MemFile}
use Rattle.addr_base.specs.declared.mem_depot.Fate.{Fate}
use Rattle.addr_base.specs.declared.mem_depot.Fate.TheVariants.{Runs, Fails, Acts}
use Rattle.addr_base.specs.declared.mem_depot.MemDepot.{MemDepot}
use Rattle.addr_base.specs.declared.mem_sink.MemSink.{MemSink}

-- the files after files were put, one after the other: what is put later counts first
abbrev pub laid : List MemFile → List MemFile → List MemFile
laid files [] = files
laid files (put ∷ puts) = laid (put ∷ files) puts

-- the files at the moment before each of these puts
abbrev pub before_each : List MemFile → List MemFile → List (List MemFile)
before_each files [] = []
before_each files (put ∷ puts) = files ∷ before_each (put ∷ files) puts

-- a store of files after files were put
abbrev pub store_of : List MemFile → List MemFile → ℕ → Store
store_of files puts faults = record { files = Some (laid files puts); past = before_each files puts; faults = faults }

-- a depot's files now and at each moment, which of its calls fail, and how often it has failed
abbrev pub depot_files : MemDepot → List MemFile
depot_files depot = laid depot.first.items depot.puts.items

abbrev pub depot_store : MemDepot → Store
depot_store depot = store_of depot.first.items depot.puts.items depot.faults

abbrev pub depot_plan : MemDepot → FailPlan
depot_plan depot = depot.plan

-- the calls that fail, with effect where they are puts
abbrev pub depot_effects : MemDepot → List ℕ
depot_effects depot = depot.effects.items

-- whether the next call is told to fail with effect, and whether it is told to fail at all
abbrev pub acts_next : MemDepot → Bool
acts_next depot = list_any (λ number. number == one_more depot.plan.calls) depot.effects.items

abbrev pub stops_next : MemDepot → Bool
stops_next depot = acts_next depot || fails_next depot.plan

-- what the next call is told to do
abbrev pub fate_next : MemDepot → Fate
fate_next depot = if acts_next depot then Acts else (if fails_next depot.plan then Fails else Runs)

abbrev pub is_fault : Fate → Bool
is_fault Runs = false
is_fault Fails = true
is_fault Acts = true

-- what a put leaves: the file is put after Ok and after a fault with effect, and else all is as before
abbrev pub PutLeaves : MemDepot → List ℕ → List ℕ → MemDepot → Result Unit DepotErr → Type 0
PutLeaves old name bytes new (Ok done) = IsPut name bytes (depot_files old) (depot_files new)
PutLeaves old name bytes new (Err Fault) = (acts_next old ≡ true → IsPut name bytes (depot_files old) (depot_files new)) × (acts_next old ≡ false → depot_store new ≡ record (depot_store old) { faults = new.faults })
PutLeaves old name bytes new (Err NoMemory) = depot_store new ≡ depot_store old

-- the count of faults after an answer: one more exactly after a fault
abbrev pub faults_after : {T : Type 0} → ℕ → Result T DepotErr → ℕ
faults_after faults (Ok done) = faults
faults_after faults (Err Fault) = one_more faults
faults_after faults (Err NoMemory) = faults

-- a read is a fault where it is told to fail, or where the file is too long to hold
abbrev pub ReadFails : MemDepot → List ℕ → Type 0
ReadFails depot name = (stops_next depot ≡ true) ⊎ IsSomeAnd (file_at name (depot_files depot)) (λ bytes. 2 ^ 32 ≤ length bytes)

-- what was put to a sink, by how many calls, which of its calls fail, and how often it has failed
abbrev pub sink_written : MemSink → List ℕ
sink_written sink = sink.output.items

abbrev pub sink_puts : MemSink → ℕ
sink_puts sink = sink.puts

abbrev pub sink_faults : MemSink → ℕ
sink_faults sink = sink.faults

abbrev pub sink_plan : MemSink → FailPlan
sink_plan sink = sink.plan

-- the count of faults of a sink after an answer: one more exactly after a refusal
abbrev pub sink_faults_after : {T E : Type 0} → ℕ → Result T E → ℕ
sink_faults_after faults (Ok done) = faults
sink_faults_after faults (Err _) = one_more faults

-- What a command line ends with: the text that it prints, or why it is refused.
use Rattle.std.specs.Prelude.{ℕ, ◌≡◌, ◌≢◌, ◌<◌, ◌≤◌, ◌++◌, List, [], Some, None, Result, Ok, Err, IfSome, IsNone, MatchOption, unwrap_or, take, ◌⊎◌}
use Rattle.addr_base.specs.Faults.{Rose}
use Rattle.addr_base.specs.Files.{Store, file_at}
use Rattle.addr_base.specs.Streams.{Stream}
use Rattle.addr_base.specs.Tokens.{token_of}
use Rattle.addr_base.specs.declared.files.MemFile.{MemFile}
use Rattle.addr_unityfs.specs.Faults.{bundle_read, fault_number}
use Rattle.addr_unityfs.specs.Format.{IsBundle}
use Rattle.addr_unityfs.specs.declared.bundle.Bundle.{Bundle}
use Rattle.addr_unityfs.specs.declared.error.FsErr.{FsErr}
use Rattle.addr_cab.specs.Lookup.{Held, CabRead}
use Rattle.addr_cab.specs.declared.error.CabErr.{CabErr}
use Rattle.addr_cab.specs.declared.error.CabErr.TheVariants.{NoMemory as CabNoMemory}
use Rattle.addr_texts.specs.InspectText.{inspect_text}
use Rattle.addr_texts.specs.PlanText.{PlanText}
use Rattle.addr_project.specs.Model.{Project}
use Rattle.addr_project.specs.Reading.{ProjectOf, ProjectFault}
use Rattle.addr_project.specs.declared.limit.Limit.TheVariants as limit
use Rattle.addr_pack.specs.LongNames.{NamesFit, IsFirstLong}
use Rattle.addr_pack.specs.Placement.{IsPlaced}
use Rattle.addr_pack.specs.declared.bundles.Plan.{Plan}
use Rattle.addr_layout.specs.Counts.{IsMembersCount, IsDepsCount}
use Rattle.addr_catalog.specs.Catalogue.{catalogue_read}
use Rattle.addr_catalog.specs.Numbers.{error_number}
use Rattle.addr_catalog.specs.declared.catalogue.Catalogue.{Catalogue}
use Rattle.addr_catalog.specs.declared.error.CatErr.{CatErr}
use Rattle.addr_locate.specs.PlainRows.{ReadsRows}
use Rattle.addr_locate.specs.PlainText.{plain_text}
use Rattle.addr_locate.specs.Rows.{Rows}
use Rattle.addr_locate.specs.declared.error.RowsErr.TheVariants.{Line as RowsLine}
use Rattle.addr_script.specs.Scripts.{ReadsScript, Script}
use Rattle.addr_script.specs.declared.command.Grammar.TheVariants.{Simulate}
use Rattle.addr_script.specs.declared.error.ScriptErr.TheVariants.{Line as ScriptLine}
use Rattle.addr_simulate.specs.SimText.{limit_of, SimText}
use Rattle.addr_cli.specs.Refusals.{ended_status, ended_text}
use Rattle.addr_cli.specs.Words.{Command, simulate, list_rows, inspect, plan, AsksFor, IsCommandLine, IsJsonName}
use Rattle.addr_cli.specs.declared.refusal.Refusal.{Refusal}
use Rattle.addr_cli.specs.declared.refusal.Refusal.TheVariants.{NoMemory, Usage, Depot, BadProject, NoFile, BadCatalogue, BadRows, BadBundle, BadScript, TooLarge}

-- the file with that name is there and is read as this catalogue; as these rows in the plain form; as this script
pub record HasCatalogue (files : List MemFile) (name : List ℕ) (catalogue : Catalogue) : Type 0 where
  pub bytes : List ℕ
  pub file : file_at name files ≡ Some bytes
  pub read : catalogue_read bytes ≡ Ok catalogue

pub record HasPlainRows (files : List MemFile) (name : List ℕ) (rows : Rows) : Type 0 where
  pub bytes : List ℕ
  pub file : file_at name files ≡ Some bytes
  pub read : ReadsRows bytes (Ok rows)

pub record HasScript (files : List MemFile) (name : List ℕ) (script : Script) : Type 0 where
  pub bytes : List ℕ
  pub file : file_at name files ≡ Some bytes
  pub read : ReadsScript Simulate bytes (Ok script)

-- a file of rows is a catalogue where its name ends so, and in the plain form otherwise
abbrev pub HasRows : List MemFile → List ℕ → Rows → Type 0
HasRows files name rows = (IsJsonName name × (c : Catalogue) × HasCatalogue files name c × (c.locator ≡ rows)) ⊎ ((¬ IsJsonName name) × HasPlainRows files name rows)

-- the file is there and is no catalogue, by a first fault with that number; isn't in the plain form, the first bad line being n
abbrev pub IsBadCatalogue : List MemFile → List ℕ → ℕ → Type 0
IsBadCatalogue files name n = (bytes : List ℕ) × (file_at name files ≡ Some bytes) × (fault : CatErr) × (catalogue_read bytes ≡ Err fault) × (n ≡ error_number fault)

abbrev pub IsBadPlain : List MemFile → List ℕ → ℕ → Type 0
IsBadPlain files name n = (bytes : List ℕ) × (file_at name files ≡ Some bytes) × ReadsRows bytes (Err (RowsLine n))

-- what `simulate` ends with over these files: the replies to the script over the rows, else the first fault, of the rows before the script
abbrev pub Simulates : List MemFile → List ℕ → List ℕ → Result (List ℕ) Refusal → Type 0
Simulates files rows script (Ok text) = (r : Rows) × (s : Script) × HasRows files rows r × HasScript files script s × SimText r (limit_of s) [] s.commands text
Simulates files rows script (Err (NoFile token)) = ((file_at rows files ≡ None) × (token ≡ token_of rows)) ⊎ ((r : Rows) × HasRows files rows r × (file_at script files ≡ None) × (token ≡ token_of script))
Simulates files rows script (Err (BadCatalogue n)) = IsJsonName rows × IsBadCatalogue files rows n
Simulates files rows script (Err (BadRows n)) = (¬ IsJsonName rows) × IsBadPlain files rows n
Simulates files rows script (Err (BadScript n)) = (r : Rows) × HasRows files rows r × (bytes : List ℕ) × (file_at script files ≡ Some bytes) × ReadsScript Simulate bytes (Err (ScriptLine n))
Simulates files rows script (Err _) = ⊥

-- what `rows` ends with over these files: the rows of the catalogue that the file is in the plain form, else its first fault
abbrev pub ShowsRows : List MemFile → List ℕ → Result (List ℕ) Refusal → Type 0
ShowsRows files file (Ok text) = (c : Catalogue) × HasCatalogue files file c × (text ≡ plain_text c.locator)
ShowsRows files file (Err (NoFile token)) = (file_at file files ≡ None) × (token ≡ token_of file)
ShowsRows files file (Err (BadCatalogue n)) = IsBadCatalogue files file n
ShowsRows files file (Err _) = ⊥

-- the bytes are the bundle, and so are read without a fault
pub record HoldsBundle (bytes : List ℕ) (bundle : Bundle) : Type 0 where
  pub is : IsBundle bytes bundle
  pub read : bundle_read bytes ≡ Ok bundle

-- what the bytes of a bundle file are read as besides its nodes: the table of its objects, or why they hold none
abbrev pub ReadsContents : List ℕ → Bundle → Result Held CabErr → Type 0
ReadsContents bytes bundle contents = (contents ≢ Err CabNoMemory) × CabRead bytes bundle contents

-- what `inspect` ends with over these files: the bundle that the file is, else the first fault of the file
abbrev pub Inspects : List MemFile → List ℕ → Result (List ℕ) Refusal → Type 0
Inspects files file (Ok text) = (bytes : List ℕ) × (file_at file files ≡ Some bytes) × (bundle : Bundle) × HoldsBundle bytes bundle × (contents : Result Held CabErr) × ReadsContents bytes bundle contents × (text ≡ inspect_text bundle contents)
Inspects files file (Err (NoFile token)) = (file_at file files ≡ None) × (token ≡ token_of file)
Inspects files file (Err (BadBundle token number)) = (bytes : List ℕ) × (file_at file files ≡ Some bytes) × (fault : FsErr) × (bundle_read bytes ≡ Err fault) × (fault_number fault ≡ Some number) × (token ≡ token_of file)
Inspects files file (Err _) = ⊥

-- the most members, and the most dependencies, of all bundles of a plan together
abbrev pub plan_limit : ℕ
plan_limit = 4000000

-- what a project is planned as: the text of its placement, or the first limit that is passed, with the whole count
abbrev pub Planned : Project → Result (List ℕ) Refusal → Type 0
Planned p (Ok text) = NamesFit p × (placement : Plan) × IsPlaced p placement × (m : ℕ) × IsMembersCount p placement m × (m ≤ plan_limit) × (d : ℕ) × IsDepsCount p placement d × (d ≤ plan_limit) × PlanText p placement text
Planned p (Err (TooLarge limit.BundleName n)) = (x : ℕ) × IsFirstLong p x n
Planned p (Err (TooLarge limit.Members n)) = NamesFit p × (placement : Plan) × IsPlaced p placement × IsMembersCount p placement n × (plan_limit < n)
Planned p (Err (TooLarge limit.Deps n)) = NamesFit p × (placement : Plan) × IsPlaced p placement × (m : ℕ) × IsMembersCount p placement m × (m ≤ plan_limit) × IsDepsCount p placement n × (plan_limit < n)
Planned p (Err NoMemory) = Unit {0}
Planned p (Err _) = ⊥

-- what `plan` ends with over these files: what the folder's project is planned as, or the first test that the folder breaks
abbrev pub Plans : List MemFile → List ℕ → Result (List ℕ) Refusal → Type 0
Plans files folder (Ok text) = (p : Project) × ProjectOf files folder p × Planned p (Ok text)
Plans files folder (Err (BadProject fault)) = ProjectFault files folder fault
Plans files folder (Err (TooLarge which n)) = (p : Project) × ProjectOf files folder p × Planned p (Err (TooLarge which n))
Plans files folder (Err _) = ⊥

-- the folder is a project, and no limit is passed
pub record IsPlannable (files : List MemFile) (folder : List ℕ) : Type 0 where
  pub project : Project
  pub read : ProjectOf files folder project
  pub names : NamesFit project
  pub members : (placement : Plan) (n : ℕ) → IsPlaced project placement → IsMembersCount project placement n → n ≤ plan_limit
  pub deps : (placement : Plan) (n : ℕ) → IsPlaced project placement → IsDepsCount project placement n → n ≤ plan_limit

-- what reading a file ends with, where its depot tells its files
abbrev pub IsRead : Store → Store → List ℕ → Result (List ℕ) Refusal → Type 0
IsRead old new name (Ok bytes) = IfSome old.files (λ files. file_at name files ≡ Some bytes)
IsRead old new name (Err (NoFile token)) = (token ≡ token_of name) × IfSome old.files (λ files. file_at name files ≡ None)
IsRead old new name (Err Depot) = Rose old.faults new.faults
IsRead old new name (Err NoMemory) = Unit {0}
IsRead old new name (Err _) = ⊥

-- what a command ends with over files that are told: its text, or why it is refused
abbrev pub Ends : Command → List MemFile → Result (List ℕ) Refusal → Type 0
Ends (simulate rows script) files ended = Simulates files rows script ended
Ends (list_rows file) files ended = ShowsRows files file ended
Ends (inspect file) files ended = Inspects files file ended
Ends (plan folder) files ended = Plans files folder ended

-- the depot's count of faults rose where the answer is a fault of the depot, and else stayed
abbrev pub CountsFault : {T : Type 0} → Store → Store → Result T Refusal → Type 0
CountsFault old new (Ok done) = new.faults ≡ old.faults
CountsFault old new (Err Depot) = Rose old.faults new.faults
CountsFault old new (Err _) = new.faults ≡ old.faults

-- what a command ends with: a fault of the depot only where its count rose, want of memory at any place
abbrev pub CommandEnds : Command → Store → Store → Result (List ℕ) Refusal → Type 0
CommandEnds c old new (Err NoMemory) = Unit {0}
CommandEnds c old new (Err Depot) = Rose old.faults new.faults
CommandEnds c old new (Err Usage) = ⊥
CommandEnds c old new ended = IfSome old.files (λ files. Ends c files ended)

-- what words end with: usage exactly where they are no command's; no fault is passed over
abbrev pub EndsWith : List (List ℕ) → Store → Store → Result (List ℕ) Refusal → Type 0
EndsWith words old new (Err NoMemory) = Unit {0}
EndsWith words old new (Err Usage) = (IsCommandLine words → ⊥) × (new.faults ≡ old.faults)
EndsWith words old new ended = (c : Command) × AsksFor words c × CommandEnds c old new ended × CountsFault old new ended

-- the whole text was written, no fault was counted, and the status is the text's
abbrev pub IsPrinted : ℕ → List ℕ → ℕ → Stream → Stream → Type 0
IsPrinted code text status old new = (status ≡ code) × (new.faults ≡ old.faults) × MatchOption old.written (IsNone new.written) (λ before. new.written ≡ Some (before ++ text))

-- the sink failed, and a prefix of the text was written
abbrev pub IsCutShort : List ℕ → ℕ → Stream → Stream → Type 0
IsCutShort text status old new = (status ≡ 13) × Rose old.faults new.faults × MatchOption old.written (IsNone new.written) (λ before. (n : ℕ) × (new.written ≡ Some (before ++ take n text)))

abbrev pub Prints : ℕ → List ℕ → ℕ → Stream → Stream → Type 0
Prints code text status old new = IsPrinted code text status old new ⊎ IsCutShort text status old new

-- how a run ends: with one text, and the status that is the text's
abbrev pub RunsTo : List (List ℕ) → Store → Store → Stream → Stream → ℕ → Type 0
RunsTo words depot depot_after out out_after status = (ended : Result (List ℕ) Refusal) × EndsWith words depot depot_after ended × Prints (ended_status ended) (ended_text ended) status out out_after

-- the causes of a status: 3 only where the depot's count of faults rose, 13 exactly where the sink's did. With another status
-- but 1 no fault of the depot was met.
pub record HasCauses (depot depot_after : Store) (out out_after : Stream) (status : ℕ) : Type 0 where
  pub depot_rose : status ≡ 3 → Rose depot.faults depot_after.faults
  pub depot_kept : status ≢ 1 → status ≢ 3 → status ≢ 13 → depot_after.faults ≡ depot.faults
  pub sink_rose : status ≡ 13 → Rose out.faults out_after.faults
  pub sink_kept : status ≢ 13 → out_after.faults ≡ out.faults

-- words of a command are never usage, and other words are nothing else but where the sink failed
abbrev pub IsUsage : List (List ℕ) → ℕ → Type 0
IsUsage words status = (IsCommandLine words → status ≢ 2) × ((IsCommandLine words → ⊥) → (status ≡ 2) ⊎ (status ≡ 13))

-- the files that a command needs are there, and are taken by their readers
abbrev pub IsReady : Command → List MemFile → Type 0
IsReady (simulate rows script) files = (r : Rows) × HasRows files rows r × (s : Script) × HasScript files script s
IsReady (list_rows file) files = (c : Catalogue) × HasCatalogue files file c
IsReady (plan folder) files = IsPlannable files folder
IsReady (inspect file) files = (bytes : List ℕ) × (file_at file files ≡ Some bytes) × (bundle : Bundle) × HoldsBundle bytes bundle

-- words of a command, over files that are all that it needs
pub record IsSound (words : List (List ℕ)) (files : List MemFile) : Type 0 where
  pub command : Command
  pub asked : AsksFor words command
  pub ready : IsReady command files

-- over such files a run ends with status 0, or for want of memory with 1, unless a count of faults rose
abbrev pub IsComplete : List (List ℕ) → Store → Store → Stream → Stream → ℕ → Type 0
IsComplete words depot depot_after out out_after status = IfSome depot.files (λ files. IsSound words files → (Rose depot.faults depot_after.faults → ⊥) → (Rose out.faults out_after.faults → ⊥) → (status ≡ 0) ⊎ (status ≡ 1))

-- What `isolate` ends with: which words ask for it, what it leaves of the folder, and what it prints.
use Rattle.std.specs.Prelude.{ℕ, ◌≡◌, ◌≢◌, ◌++◌, ◌⊎◌, List, [], ◌∷◌, codes, decimal, length, Option, None, Some, Result, Ok, Err}
use Rattle.addr_analyze.specs.Duplicates.{AreDuplicates}
use Rattle.addr_analyze.specs.declared.duplicate.Duplicate.{Duplicate}
use Rattle.addr_base.specs.Files.{SameFiles, Store}
use Rattle.addr_base.specs.Streams.{Stream}
use Rattle.addr_base.specs.Tokens.{token_of}
use Rattle.addr_base.specs.declared.files.MemFile.{MemFile}
use Rattle.addr_images.specs.Limits.{IsPlanWithin, PlanPasses}
use Rattle.addr_isolate.specs.Isolating.{PassesLimit}
use Rattle.addr_isolate.specs.Leaving.{IsIsolatedFolder, OfFiles}
use Rattle.addr_pack.specs.declared.bundles.Plan.{Plan}
use Rattle.addr_project.specs.Model.{Project as Contents}
use Rattle.addr_project.specs.Reading.{ProjectFault, ProjectOf}
use Rattle.addr_project.specs.declared.limit.Limit.{Limit}
use Rattle.addr_show.specs.Analyzing.{AnalyzeRose, TakesMemory, refused_line, refused_status}
use Rattle.addr_show.specs.Printing.{PrintsText}
use Rattle.addr_show.specs.declared.error.AnalyzeErr.{AnalyzeErr}
use Rattle.addr_show.specs.declared.error.AnalyzeErr.TheVariants.{Project, TooLarge, DepotFault, NoMemory}
use Rattle.addr_show.specs.declared.isolating.NewGroup.{NewGroup}

-- the words ask to isolate a folder
abbrev pub AsksToIsolate : List (List ℕ) → List ℕ → Type 0
AsksToIsolate words folder = words ≡ codes "isolate" ∷ folder ∷ []

abbrev pub IsIsolateLine : List (List ℕ) → Type 0
IsIsolateLine words = (folder : List ℕ) × AsksToIsolate words folder

-- the folder stands for the project, whose placement passes no limit and has these duplicates
pub record StandsFor (files : List MemFile) (folder : List ℕ) (p : Contents) (found : List Duplicate) : Type 0 where
  pub read : ProjectOf files folder p
  pub plan : Plan
  pub within : IsPlanWithin p plan
  pub are : AreDuplicates p plan found

-- the folder stood for a project with duplicates, which are so many entries of the group now; every other file is as it was
pub record GotGroup (before : List MemFile) (folder : List ℕ) (after : List MemFile) (count : ℕ) (name : List ℕ) : Type 0 where
  pub project : Contents
  pub found : List Duplicate
  pub stood : StandsFor before folder project found
  pub some : found ≢ []
  pub many : count ≡ length found
  pub isolated : IsIsolatedFolder project found folder before after name

-- the first limit of `plan` that the folder's project passes, or else that it would pass with the group and its entries
abbrev pub FolderPasses : List MemFile → List ℕ → Limit → ℕ → Type 0
FolderPasses files folder which n =
    ((p : Contents) × ProjectOf files folder p × PlanPasses p which n)
    ⊎ ((p : Contents) × (found : List Duplicate) × StandsFor files folder p found × (found ≢ []) × PassesLimit p found which n)

-- nothing was put, or the whole file was
abbrev pub IsOldOrGrouped : List MemFile → List ℕ → List MemFile → Type 0
IsOldOrGrouped before folder after = SameFiles before after ⊎ ((count : ℕ) × (name : List ℕ) × GotGroup before folder after count name)

-- what each end leaves of the files
abbrev pub LeavesFolder : List MemFile → List ℕ → List MemFile → Result (Option NewGroup) AnalyzeErr → Type 0
LeavesFolder before folder after (Ok None) = ((p : Contents) × StandsFor before folder p []) × SameFiles before after
LeavesFolder before folder after (Ok (Some made)) = GotGroup before folder after made.count made.name
LeavesFolder before folder after (Err (Project fault)) = ProjectFault before folder fault × SameFiles before after
LeavesFolder before folder after (Err (TooLarge which n)) = FolderPasses before folder which n × SameFiles before after
LeavesFolder before folder after (Err DepotFault) = IsOldOrGrouped before folder after
LeavesFolder before folder after (Err NoMemory) = IsOldOrGrouped before folder after

-- what is printed of a group: how many entries it has, and its name as a token; without one, none and a mark
abbrev pub isolated_line : Option NewGroup → List ℕ
isolated_line None = codes "isolated 0 %-"
isolated_line (Some made) = codes "isolated " ++ (decimal made.count ++ 32 ∷ token_of made.name)

-- the status of an end, and all that is printed of it
abbrev pub isolated_status : Result (Option NewGroup) AnalyzeErr → ℕ
isolated_status (Ok made) = 0
isolated_status (Err refusal) = refused_status refusal

abbrev pub isolated_text : Result (Option NewGroup) AnalyzeErr → List ℕ
isolated_text (Ok made) = isolated_line made ++ 10 ∷ []
isolated_text (Err refusal) = refused_line refusal ++ 10 ∷ []

-- the line has to be written before it is printed, and so takes memory
abbrev pub IsWrittenFirst : Result (Option NewGroup) AnalyzeErr → Type 0
IsWrittenFirst (Ok None) = ⊥
IsWrittenFirst (Ok (Some made)) = Unit {0}
IsWrittenFirst (Err refusal) = TakesMemory (Err refusal)

-- the end was printed; or its line takes memory and found none, and the one was printed that says so
abbrev pub PrintsIsolated : Result (Option NewGroup) AnalyzeErr → ℕ → Stream → Stream → Type 0
PrintsIsolated ended status out out_after = PrintsText (isolated_status ended) (isolated_text ended) status out out_after
    ⊎ (IsWrittenFirst ended × PrintsText 1 (codes "error 1 memory" ++ 10 ∷ []) status out out_after)

-- nothing but the line of usage was printed, and no depot was asked
pub record IsNotAsked (words : List (List ℕ)) (depot depot_after : Store) (out out_after : Stream) (status : ℕ) : Type 0 where
  pub other : IsIsolateLine words → ⊥
  pub same : depot_after ≡ depot
  pub prints : PrintsText 2 (codes "error 2 usage" ++ 10 ∷ []) status out out_after

-- the words were asked for, and their folder was isolated
pub record HasIsolated (words : List (List ℕ)) (depot depot_after : Store) (out out_after : Stream) (status : ℕ) : Type 0 where
  pub folder : List ℕ
  pub asks : AsksToIsolate words folder
  pub ended : Result (Option NewGroup) AnalyzeErr
  pub files : OfFiles depot.files depot_after.files (λ before after. LeavesFolder before folder after ended)
  pub cause : AnalyzeRose depot.faults depot_after.faults ended
  pub prints : PrintsIsolated ended status out out_after

-- how `isolate` ends: as its words ask, with that end's text and status, or as usage
abbrev pub IsolatesTo : List (List ℕ) → Store → Store → Stream → Stream → ℕ → Type 0
IsolatesTo words depot depot_after out out_after status =
    HasIsolated words depot depot_after out out_after status ⊎ IsNotAsked words depot depot_after out out_after status

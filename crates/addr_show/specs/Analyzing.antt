-- What `analyze` ends with: which words ask for it, the text that it prints, why it is refused, and the status of each end.
use Rattle.std.specs.Prelude.{ℕ, ◌≡◌, ◌≢◌, ◌≤◌, ◌++◌, ◌⊎◌, List, [], ◌∷◌, codes, decimal, Result, Ok, Err, IfSome}
use Rattle.addr_analyze.specs.Duplicates.{AreDuplicates}
use Rattle.addr_analyze.specs.declared.duplicate.Duplicate.{Duplicate}
use Rattle.addr_base.specs.Faults.{Rose}
use Rattle.addr_base.specs.Files.{Store}
use Rattle.addr_base.specs.Streams.{Stream}
use Rattle.addr_base.specs.declared.files.MemFile.{MemFile}
use Rattle.addr_images.specs.Limits.{IsPlanWithin, PlanPasses}
use Rattle.addr_pack.specs.declared.bundles.Plan.{Plan}
use Rattle.addr_project.specs.Model.{Project as Contents}
use Rattle.addr_project.specs.Printed.{fault_text, limit_text}
use Rattle.addr_project.specs.Reading.{ProjectFault, ProjectOf}
use Rattle.addr_show.specs.AnalyzeText.{analyze_text}
use Rattle.addr_show.specs.Printing.{PrintsText}
use Rattle.addr_show.specs.declared.error.AnalyzeErr.{AnalyzeErr}
use Rattle.addr_show.specs.declared.error.AnalyzeErr.TheVariants.{Project, TooLarge, DepotFault, NoMemory}

-- the words ask to analyze a folder
abbrev pub AsksToAnalyze : List (List ℕ) → List ℕ → Type 0
AsksToAnalyze words folder = words ≡ codes "analyze" ∷ folder ∷ []

abbrev pub IsAnalyzeLine : List (List ℕ) → Type 0
IsAnalyzeLine words = (folder : List ℕ) × AsksToAnalyze words folder

-- the text tells the duplicates of the project's placement, which passes no limit
pub record TellsDuplicates (p : Contents) (text : List ℕ) : Type 0 where
  pub plan : Plan
  pub within : IsPlanWithin p plan
  pub found : List Duplicate
  pub are : AreDuplicates p plan found
  pub is : text ≡ analyze_text found

-- what analyzing a project ends with: the text, or the first limit that is passed, with the whole count
abbrev pub IsAnalyzed : Contents → Result (List ℕ) AnalyzeErr → Type 0
IsAnalyzed p (Ok text) = TellsDuplicates p text
IsAnalyzed p (Err (TooLarge which n)) = PlanPasses p which n
IsAnalyzed p (Err (Project fault)) = ⊥
IsAnalyzed p (Err DepotFault) = ⊥
IsAnalyzed p (Err NoMemory) = Unit {0}

-- what analyzing a folder ends with over these files: the same of the folder's project, or the first test that the folder breaks
abbrev pub Analyzes : List MemFile → List ℕ → Result (List ℕ) AnalyzeErr → Type 0
Analyzes files folder (Ok text) = (p : Contents) × ProjectOf files folder p × TellsDuplicates p text
Analyzes files folder (Err (Project fault)) = ProjectFault files folder fault
Analyzes files folder (Err (TooLarge which n)) = (p : Contents) × ProjectOf files folder p × PlanPasses p which n
Analyzes files folder (Err DepotFault) = Unit {0}
Analyzes files folder (Err NoMemory) = Unit {0}

-- the count of faults rose exactly where the answer is a fault of the depot
abbrev pub AnalyzeRose : {T : Type 0} → ℕ → ℕ → Result T AnalyzeErr → Type 0
AnalyzeRose before now (Ok done) = now ≡ before
AnalyzeRose before now (Err (Project fault)) = now ≡ before
AnalyzeRose before now (Err (TooLarge which n)) = now ≡ before
AnalyzeRose before now (Err DepotFault) = (before ≤ now) × Rose before now
AnalyzeRose before now (Err NoMemory) = now ≡ before

-- the status of a refusal and the line that is printed of it
abbrev pub refused_status : AnalyzeErr → ℕ
refused_status NoMemory = 1
refused_status DepotFault = 3
refused_status (Project fault) = 4
refused_status (TooLarge which n) = 11

abbrev pub refused_line : AnalyzeErr → List ℕ
refused_line NoMemory = codes "error 1 memory"
refused_line DepotFault = codes "error 3 depot"
refused_line (Project fault) = codes "error 4 " ++ fault_text fault
refused_line (TooLarge which n) = codes "error 11 " ++ (limit_text which ++ 32 ∷ decimal n)

-- the status of an end, and all that is printed of it
abbrev pub ended_status : Result (List ℕ) AnalyzeErr → ℕ
ended_status (Ok text) = 0
ended_status (Err refusal) = refused_status refusal

abbrev pub ended_text : Result (List ℕ) AnalyzeErr → List ℕ
ended_text (Ok text) = text
ended_text (Err refusal) = refused_line refusal ++ 10 ∷ []

-- the line of a refusal has to be written before it is printed, and so takes memory
abbrev pub TakesMemory : Result (List ℕ) AnalyzeErr → Type 0
TakesMemory (Ok text) = ⊥
TakesMemory (Err NoMemory) = ⊥
TakesMemory (Err DepotFault) = ⊥
TakesMemory (Err (Project fault)) = Unit {0}
TakesMemory (Err (TooLarge which n)) = Unit {0}

-- the end was printed; or its line takes memory and found none, and the one was printed that says so
abbrev pub PrintsEnd : Result (List ℕ) AnalyzeErr → ℕ → Stream → Stream → Type 0
PrintsEnd ended status out out_after = PrintsText (ended_status ended) (ended_text ended) status out out_after
    ⊎ (TakesMemory ended × PrintsText 1 (codes "error 1 memory" ++ 10 ∷ []) status out out_after)

-- nothing but the line of usage was printed, and no depot was asked
pub record IsUnasked (words : List (List ℕ)) (depot depot_after : Store) (out out_after : Stream) (status : ℕ) : Type 0 where
  pub other : IsAnalyzeLine words → ⊥
  pub same : depot_after ≡ depot
  pub prints : PrintsText 2 (codes "error 2 usage" ++ 10 ∷ []) status out out_after

-- the words were asked for, and their folder was analyzed
pub record IsAsked (words : List (List ℕ)) (depot depot_after : Store) (out out_after : Stream) (status : ℕ) : Type 0 where
  pub folder : List ℕ
  pub asks : AsksToAnalyze words folder
  pub ended : Result (List ℕ) AnalyzeErr
  pub told : IfSome depot.files (λ files. Analyzes files folder ended)
  pub cause : AnalyzeRose depot.faults depot_after.faults ended
  pub prints : PrintsEnd ended status out out_after

-- how `analyze` ends: as its words ask, with that end's text and status, or as usage
abbrev pub AnalyzesTo : List (List ℕ) → Store → Store → Stream → Stream → ℕ → Type 0
AnalyzesTo words depot depot_after out out_after status =
    IsAsked words depot depot_after out out_after status ⊎ IsUnasked words depot depot_after out out_after status

-- the causes of a status: 3 only where the depot's count of faults rose, which it does under no other but 13, and 13 exactly
-- where the sink's rose
pub record HasCauses (depot depot_after : Store) (out out_after : Stream) (status : ℕ) : Type 0 where
  pub depot_rose : status ≡ 3 → Rose depot.faults depot_after.faults
  pub depot_kept : status ≢ 3 → status ≢ 13 → depot_after.faults ≡ depot.faults
  pub sink_rose : status ≡ 13 → Rose out.faults out_after.faults
  pub sink_kept : status ≢ 13 → out_after.faults ≡ out.faults

-- the words ask to analyze a folder that is a project, whose placement passes no limit
pub record IsPlannable (files : List MemFile) (words : List (List ℕ)) : Type 0 where
  pub folder : List ℕ
  pub asks : AsksToAnalyze words folder
  pub project : Contents
  pub read : ProjectOf files folder project
  pub plan : Plan
  pub within : IsPlanWithin project plan

-- over such files the text is printed, or memory is refused, unless a count of faults rose
abbrev pub IsComplete : List (List ℕ) → Store → Store → Stream → Stream → ℕ → Type 0
IsComplete words depot depot_after out out_after status = IfSome depot.files (λ files. IsPlannable files words
    → (Rose depot.faults depot_after.faults → ⊥) → (Rose out.faults out_after.faults → ⊥) → (status ≡ 0) ⊎ (status ≡ 1))

-- What `resolve` ends with: which words ask for it, the text that is printed of its end, and the status of that.
use Rattle.std.specs.Prelude.{ℕ, ◌≡◌, ◌++◌, ◌⊎◌, List, [], ◌∷◌, codes, decimal, unwrap_or, Result, Ok, Err, IfSome}
use Rattle.addr_base.specs.Files.{Store}
use Rattle.addr_base.specs.Ids.{hex_of}
use Rattle.addr_base.specs.Streams.{Stream}
use Rattle.addr_base.specs.Tokens.{token_of}
use Rattle.addr_base.specs.declared.files.MemFile.{MemFile}
use Rattle.addr_cab.specs.Numbers.{fault_number as table_fault_number}
use Rattle.addr_catalog.specs.Numbers.{error_number}
use Rattle.addr_project.specs.Reach.{Row}
use Rattle.addr_unityfs.specs.Faults.{fault_number}
use Rattle.addr_resolve.specs.Laws.{AreFiles, IsOfFiles, answer_view}
use Rattle.addr_resolve.specs.Resolving.{ResolveRose, Resolves}
use Rattle.addr_resolve.specs.declared.error.BundleFault.{BundleFault}
use Rattle.addr_resolve.specs.declared.error.BundleFault.TheVariants.{Missing, Fs, Cab, Lost}
use Rattle.addr_resolve.specs.declared.error.ResolveErr.{ResolveErr}
use Rattle.addr_resolve.specs.declared.error.ResolveErr.TheVariants.{NoRelease, BadCatalogue, NoKey, BadBundle, DepotFault, NoMemory}
use Rattle.addr_resolve.specs.declared.rows.Resolved.{Resolved}
use Rattle.addr_change.specs.Printing.{IsPrintedWhole, IsUnasked, PrintsOrWants}
use Rattle.addr_change.specs.ResolvedText.{rows_text}

-- the words ask what the release of a folder holds under a key
abbrev pub AsksToResolve : List (List ℕ) → List ℕ → List ℕ → Type 0
AsksToResolve words folder key = words ≡ codes "resolve" ∷ folder ∷ key ∷ []

abbrev pub IsResolveLine : List (List ℕ) → Type 0
IsResolveLine words = (folder : List ℕ) × (key : List ℕ) × AsksToResolve words folder key

-- the status that resolving ends with, where rows are shown or a refusal is answered
abbrev pub resolved_status : Result (List Row) ResolveErr → ℕ
resolved_status (Ok rows) = 0
resolved_status (Err NoMemory) = 1
resolved_status (Err DepotFault) = 3
resolved_status (Err (NoRelease name)) = 5
resolved_status (Err (BadCatalogue fault)) = 7
resolved_status (Err (BadBundle key why)) = 8
resolved_status (Err NoKey) = 12

-- what is wrong with a bundle; a fault that has no number is told with 0
abbrev pub why_text : BundleFault → List ℕ
why_text Missing = codes "missing"
why_text (Fs fault) = codes "unityfs " ++ decimal (unwrap_or (fault_number fault) 0)
why_text (Cab fault) = codes "cab " ++ decimal (unwrap_or (table_fault_number fault) 0)
why_text (Lost guid) = codes "lost " ++ hex_of guid.0

-- why a key isn't resolved, in a line; names and keys are told by their tokens
abbrev pub refused_line : List ℕ → ResolveErr → List ℕ
refused_line key NoMemory = codes "error 1 memory"
refused_line key DepotFault = codes "error 3 depot"
refused_line key (NoRelease name) = codes "error 5 " ++ token_of name
refused_line key (BadCatalogue fault) = codes "error 7 " ++ decimal (error_number fault)
refused_line key (BadBundle bundle why) = codes "error 8 " ++ (token_of bundle ++ 32 ∷ why_text why)
refused_line key NoKey = codes "error 12 " ++ token_of key

-- what is printed then: the rows that are shown under the key, or the line of the refusal
abbrev pub resolved_text : List ℕ → Result (List Row) ResolveErr → List ℕ
resolved_text key (Ok rows) = rows_text rows
resolved_text key (Err refusal) = refused_line key refusal ++ 10 ∷ []

-- the text of an end has to be written before it is printed, and so takes memory
abbrev pub TakesMemory : Result (List Row) ResolveErr → Type 0
TakesMemory (Ok rows) = Unit {0}
TakesMemory (Err NoMemory) = ⊥
TakesMemory (Err DepotFault) = ⊥
TakesMemory (Err (NoRelease name)) = Unit {0}
TakesMemory (Err (BadCatalogue fault)) = Unit {0}
TakesMemory (Err (BadBundle key why)) = Unit {0}
TakesMemory (Err NoKey) = Unit {0}

-- the end of resolving was printed; or its text takes memory and found none, and the one line was printed that says so
abbrev pub PrintsEnd : List ℕ → Result (List Row) ResolveErr → ℕ → Stream → Stream → Type 0
PrintsEnd key ended status out out_after = PrintsOrWants (TakesMemory ended) (resolved_status ended) (resolved_text key ended) status out out_after

-- the words were asked for, and this is what the depot's files show under the key, or why they don't
pub record IsAsked (words : List (List ℕ)) (depot depot_after : Store) (out out_after : Stream) (status : ℕ) : Type 0 where
  pub folder : List ℕ
  pub key : List ℕ
  pub asks : AsksToResolve words folder key
  pub ended : Result (List Resolved) ResolveErr
  pub answers : IfSome depot.files (λ files. Resolves files folder key ended)
  pub cause : ResolveRose depot.faults depot_after.faults ended
  pub prints : PrintsEnd key (answer_view ended) status out out_after

-- how `resolve` ends: as its words ask, with that end's text and status, or as usage
abbrev pub ResolvesTo : List (List ℕ) → Store → Store → Stream → Stream → ℕ → Type 0
ResolvesTo words depot depot_after out out_after status =
    IsAsked words depot depot_after out out_after status ⊎ IsUnasked (IsResolveLine words) depot depot_after out out_after status

-- the words ask for what files of bytes decide: the rows that they show under the key, or the first cause of a refusal
pub record IsDecided (words : List (List ℕ)) (files : List MemFile) (key : List ℕ) (answer : Result (List Resolved) ResolveErr) : Type 0 where
  pub folder : List ℕ
  pub asks : AsksToResolve words folder key
  pub bytes : AreFiles files
  pub decided : IsOfFiles answer
  pub answers : Resolves files folder key answer

-- memory was wanted, or the depot or the sink failed
abbrev pub IsStopped : ℕ → Type 0
IsStopped status = (status ≡ 1) ⊎ ((status ≡ 3) ⊎ (status ≡ 13))

-- whatever files of bytes decide is printed whole with its status, unless the command is stopped
abbrev pub IsComplete : List (List ℕ) → Store → Stream → Stream → ℕ → Type 0
IsComplete words depot out out_after status = IfSome depot.files (λ files. (key : List ℕ) (answer : Result (List Resolved) ResolveErr)
    → IsDecided words files key answer
    → IsPrintedWhole (resolved_status (answer_view answer)) (resolved_text key (answer_view answer)) status out out_after ⊎ IsStopped status)

-- What `build` ends with: which words ask for it, the line that is printed of its end, and the status of that.
use Rattle.std.specs.Prelude.{ℕ, ◌≡◌, ◌++◌, ◌⊎◌, List, [], ◌∷◌, codes, decimal, Result, Ok, Err, IfSome, IsSomeAnd}
use Rattle.addr_base.specs.Files.{SameStore, Store}
use Rattle.addr_base.specs.Streams.{Stream}
use Rattle.addr_base.specs.Tokens.{token_of}
use Rattle.addr_project.specs.Printed.{fault_text, limit_text}
use Rattle.addr_release.specs.Held.{IsHeld}
use Rattle.addr_release.specs.Laws.{Keeps}
use Rattle.addr_build.specs.After.{IsAgain, IsSoundFor, Leaves, Serves, Shows}
use Rattle.addr_build.specs.Moments.{AtEachMoment}
use Rattle.addr_build.specs.Outcomes.{Answers, BuildRose, Builds, IsEarly}
use Rattle.addr_build.specs.declared.error.BuildErr.{BuildErr}
use Rattle.addr_build.specs.declared.error.BuildErr.TheVariants.{Project, TooLarge, NameTaken, DepotFault, NoMemory}
use Rattle.addr_build.specs.declared.release.Summary.{Summary}
use Rattle.addr_change.specs.Printing.{IsUnasked, PrintsOrWants}

-- the words ask to build the release of a folder
abbrev pub AsksToBuild : List (List ℕ) → List ℕ → Type 0
AsksToBuild words folder = words ≡ codes "build" ∷ folder ∷ []

abbrev pub IsBuildLine : List (List ℕ) → Type 0
IsBuildLine words = (folder : List ℕ) × AsksToBuild words folder

-- the status that a build ends with
abbrev pub built_status : Result Summary BuildErr → ℕ
built_status (Ok summary) = 0
built_status (Err NoMemory) = 1
built_status (Err DepotFault) = 3
built_status (Err (Project fault)) = 4
built_status (Err (NameTaken name)) = 10
built_status (Err (TooLarge which count)) = 11

-- why a build is refused, in a line; a name is told by its token
abbrev pub refused_line : BuildErr → List ℕ
refused_line NoMemory = codes "error 1 memory"
refused_line DepotFault = codes "error 3 depot"
refused_line (Project fault) = codes "error 4 " ++ fault_text fault
refused_line (NameTaken name) = codes "error 10 " ++ token_of name
refused_line (TooLarge which count) = codes "error 11 " ++ (limit_text which ++ 32 ∷ decimal count)

-- the numbers of a release's bundles, of those that were put, and of its rows
abbrev pub summary_line : Summary → List ℕ
summary_line s = codes "built " ++ (decimal s.bundles ++ 32 ∷ (decimal s.put ++ 32 ∷ decimal s.rows))

-- the line that is printed of a build's end
abbrev pub built_line : Result Summary BuildErr → List ℕ
built_line (Ok summary) = summary_line summary
built_line (Err refusal) = refused_line refusal

-- a build of the folder's project ended so, and this is what stands in the depot and stood at each moment
pub record HasBuilt (folder : List ℕ) (depot depot_after : Store) (ended : Result Summary BuildErr) : Type 0 where
  pub answers : IfSome depot.files (λ old. IsSomeAnd depot_after.files (λ new. Answers folder old new ended))
  pub shows : Leaves (λ done. Shows folder) depot depot_after ended
  pub sound : Leaves (λ done. IsSoundFor folder) depot depot_after ended
  pub held : Leaves (λ done old new. IsHeld new folder) depot depot_after ended
  pub again : IsAgain folder depot depot_after ended
  pub serves : AtEachMoment (Serves folder) depot depot_after
  pub keeps : AtEachMoment (Keeps folder) depot depot_after
  pub moments : Builds folder depot depot_after
  pub early : IsEarly ended → SameStore depot depot_after
  pub cause : BuildRose depot.faults depot_after.faults ended

-- the line of an end has to be written before it is printed, and so takes memory
abbrev pub TakesMemory : Result Summary BuildErr → Type 0
TakesMemory (Ok summary) = Unit {0}
TakesMemory (Err NoMemory) = ⊥
TakesMemory (Err DepotFault) = ⊥
TakesMemory (Err (Project fault)) = Unit {0}
TakesMemory (Err (NameTaken name)) = Unit {0}
TakesMemory (Err (TooLarge which count)) = Unit {0}

-- the end of a build was printed; or its line takes memory and found none, and the one was printed that says so
abbrev pub PrintsEnd : Result Summary BuildErr → ℕ → Stream → Stream → Type 0
PrintsEnd ended status out out_after = PrintsOrWants (TakesMemory ended) (built_status ended) (built_line ended ++ 10 ∷ []) status out out_after

-- the words were asked for and their build has ended
pub record IsAsked (words : List (List ℕ)) (depot depot_after : Store) (out out_after : Stream) (status : ℕ) : Type 0 where
  pub folder : List ℕ
  pub asks : AsksToBuild words folder
  pub ended : Result Summary BuildErr
  pub built : HasBuilt folder depot depot_after ended
  pub prints : PrintsEnd ended status out out_after

-- how `build` ends: as its words ask, with that end's line and status, or as usage
abbrev pub BuildsTo : List (List ℕ) → Store → Store → Stream → Stream → ℕ → Type 0
BuildsTo words depot depot_after out out_after status =
    IsAsked words depot depot_after out out_after status ⊎ IsUnasked (IsBuildLine words) depot depot_after out out_after status

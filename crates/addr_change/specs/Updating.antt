-- What `update` ends with: which words ask for it, the line that is printed of its end, and the status of that.
use Rattle.std.specs.Prelude.{ℕ, ◌≡◌, ◌++◌, ◌⊎◌, List, [], ◌∷◌, codes, decimal, Result, Ok, Err, IfSome, IsSomeAnd}
use Rattle.addr_base.specs.Files.{SameStore, Store}
use Rattle.addr_base.specs.Streams.{Stream}
use Rattle.addr_build.specs.After.{Leaves}
use Rattle.addr_build.specs.Moments.{AtEachMoment}
use Rattle.addr_build.specs.declared.error.BuildErr.TheVariants as build
use Rattle.addr_build.specs.declared.release.Summary.{Summary}
use Rattle.addr_check.specs.declared.error.CheckErr.TheVariants as check
use Rattle.addr_patch.specs.After.{CountsMoves, HoldsStill, IsSoundFor, IsStep, Serves, Shows}
use Rattle.addr_patch.specs.Outcomes.{Answers, IsEarly, UpdateRose, Updates}
use Rattle.addr_patch.specs.declared.error.UpdateErr.{UpdateErr}
use Rattle.addr_patch.specs.declared.error.UpdateErr.TheVariants.{Project, NoRelease, BadCatalogue, BadRelease, TooLarge, NameTaken, DepotFault, NoMemory}
use Rattle.addr_release.specs.Laws.{Keeps}
use Rattle.addr_change.specs.Building as building
use Rattle.addr_change.specs.Checking as checking
use Rattle.addr_change.specs.Printing.{IsUnasked, PrintsOrWants}

-- the words ask to update the release of a folder
abbrev pub AsksToUpdate : List (List ℕ) → List ℕ → Type 0
AsksToUpdate words folder = words ≡ codes "update" ∷ folder ∷ []

abbrev pub IsUpdateLine : List (List ℕ) → Type 0
IsUpdateLine words = (folder : List ℕ) × AsksToUpdate words folder

-- the status that an update ends with
abbrev pub updated_status : Result Summary UpdateErr → ℕ
updated_status (Ok summary) = 0
updated_status (Err NoMemory) = 1
updated_status (Err DepotFault) = 3
updated_status (Err (Project fault)) = 4
updated_status (Err (NoRelease name)) = 5
updated_status (Err (BadRelease name why)) = 6
updated_status (Err (BadCatalogue fault)) = 7
updated_status (Err (NameTaken name)) = 10
updated_status (Err (TooLarge which count)) = 11

-- why a release isn't updated, in a line: as `check` says it, and a taken name as `build` does
abbrev pub refused_line : UpdateErr → List ℕ
refused_line NoMemory = checking.refused_line check.NoMemory
refused_line DepotFault = checking.refused_line check.DepotFault
refused_line (Project fault) = checking.refused_line (check.Project fault)
refused_line (NoRelease name) = checking.refused_line (check.NoRelease name)
refused_line (BadRelease name why) = checking.refused_line (check.BadRelease name why)
refused_line (BadCatalogue fault) = checking.refused_line (check.BadCatalogue fault)
refused_line (NameTaken name) = building.refused_line (build.NameTaken name)
refused_line (TooLarge which count) = checking.refused_line (check.TooLarge which count)

-- the numbers of entries that moved, of the release's bundles, of those that were put, and of its rows
abbrev pub summary_line : Summary → List ℕ
summary_line s = codes "updated " ++ (decimal s.moved ++ 32 ∷ (decimal s.bundles ++ 32 ∷ (decimal s.put ++ 32 ∷ decimal s.rows)))

-- the line that is printed of an update's end
abbrev pub updated_line : Result Summary UpdateErr → List ℕ
updated_line (Ok summary) = summary_line summary
updated_line (Err refusal) = refused_line refusal

-- an update of the folder's release ended so, and this is what stands in the depot and stood at each moment
pub record HasUpdated (folder : List ℕ) (depot depot_after : Store) (ended : Result Summary UpdateErr) : Type 0 where
  pub answers : IfSome depot.files (λ old. IsSomeAnd depot_after.files (λ new. Answers folder old new ended))
  pub shows : Leaves (λ done. Shows folder) depot depot_after ended
  pub sound : Leaves (λ done. IsSoundFor folder) depot depot_after ended
  pub held : Leaves (λ done. HoldsStill folder) depot depot_after ended
  pub step : Leaves (λ done. IsStep folder) depot depot_after ended
  pub counts : Leaves (λ done old new. CountsMoves folder done old) depot depot_after ended
  pub serves : AtEachMoment (Serves folder) depot depot_after
  pub keeps : AtEachMoment (Keeps folder) depot depot_after
  pub moments : Updates folder depot depot_after
  pub early : IsEarly ended → SameStore depot depot_after
  pub cause : UpdateRose depot.faults depot_after.faults ended

-- the line of an end has to be written before it is printed, and so takes memory
abbrev pub TakesMemory : Result Summary UpdateErr → Type 0
TakesMemory (Ok summary) = Unit {0}
TakesMemory (Err NoMemory) = ⊥
TakesMemory (Err DepotFault) = ⊥
TakesMemory (Err (Project fault)) = Unit {0}
TakesMemory (Err (NoRelease name)) = Unit {0}
TakesMemory (Err (BadRelease name why)) = Unit {0}
TakesMemory (Err (BadCatalogue fault)) = Unit {0}
TakesMemory (Err (NameTaken name)) = Unit {0}
TakesMemory (Err (TooLarge which count)) = Unit {0}

-- the end of an update was printed; or its line takes memory and found none, and the one was printed that says so
abbrev pub PrintsEnd : Result Summary UpdateErr → ℕ → Stream → Stream → Type 0
PrintsEnd ended status out out_after = PrintsOrWants (TakesMemory ended) (updated_status ended) (updated_line ended ++ 10 ∷ []) status out out_after

-- the words were asked for and their update has ended
pub record IsAsked (words : List (List ℕ)) (depot depot_after : Store) (out out_after : Stream) (status : ℕ) : Type 0 where
  pub folder : List ℕ
  pub asks : AsksToUpdate words folder
  pub ended : Result Summary UpdateErr
  pub updated : HasUpdated folder depot depot_after ended
  pub prints : PrintsEnd ended status out out_after

-- how `update` ends: as its words ask, with that end's line and status, or as usage
abbrev pub UpdatesTo : List (List ℕ) → Store → Store → Stream → Stream → ℕ → Type 0
UpdatesTo words depot depot_after out out_after status =
    IsAsked words depot depot_after out out_after status ⊎ IsUnasked (IsUpdateLine words) depot depot_after out out_after status

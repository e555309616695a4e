-- What an update answers, why it refuses, and what stands in the depot at each moment.
use Rattle.std.specs.Prelude.{ℕ, ◌≡◌, ◌≤◌, ◌<◌, ◌++◌, ◌⊎◌, List, [], length, map, take, Option, Some, Result, Ok, Err}
use Rattle.addr_base.specs.Faults.{Rose}
use Rattle.addr_base.specs.Files.{Store}
use Rattle.addr_base.specs.declared.files.MemFile.{MemFile}
use Rattle.addr_base.specs.declared.ids.Digest.{Digest}
use Rattle.addr_build.specs.Endings.{IsTakenFirst}
use Rattle.addr_build.specs.Moments.{Passes}
use Rattle.addr_build.specs.Release.{count_owed}
use Rattle.addr_build.specs.declared.release.Summary.{Summary}
use Rattle.addr_catalog.specs.declared.catalogue.Catalogue.{Catalogue}
use Rattle.addr_check.specs.Checking.{IsCompared}
use Rattle.addr_held.specs.Opening.{HasBadCatalogue, IsWrong, LacksFile}
use Rattle.addr_pack.specs.declared.bundles.Plan.{Plan}
use Rattle.addr_project.specs.Model.{Project as Contents}
use Rattle.addr_project.specs.Reading.{ProjectFault, ProjectOf}
use Rattle.addr_release.specs.Built.{ReleaseBundle}
use Rattle.addr_release.specs.Puts.{AreUntaken, IsAfter, Test, all_bundle_tests, bundle_put}
use Rattle.addr_resolve.specs.Resolving.{HasCatalogue}
use Rattle.addr_update.specs.After.{IsBundleAfter, IsReleaseAfter, UpdatedRelease, update_puts}
use Rattle.addr_update.specs.Laws.{IsUpdateOf}
use Rattle.addr_update.specs.Moved.{Update}
use Rattle.addr_walks.specs.Places.{EachAt}
use Rattle.addr_patch.specs.Limits.{IsTooLarge, IsWithin}
use Rattle.addr_patch.specs.declared.error.UpdateErr.{UpdateErr}
use Rattle.addr_patch.specs.declared.error.UpdateErr.TheVariants.{Project, NoRelease, BadCatalogue, BadRelease, TooLarge, NameTaken, DepotFault, NoMemory}

-- ---- what was updated

-- the numbers of an update: entries that moved, the bundles of its release, those of their files that were put, rows of entries
pub record Sums (folder : List ℕ) (old : List MemFile) (entries : List ℕ) (r : UpdatedRelease) (summary : Summary) : Type 0 where
  pub moved : summary.moved ≡ length entries
  pub bundles : summary.bundles ≡ length r.bundles
  pub put : summary.put ≡ count_owed old (map (bundle_put folder) r.bundles)
  pub rows : summary.rows ≡ length r.assets

-- an update: the folder held a release that is intact, the update of it to the folder's project passes no limit, no name of its
-- bundles was taken, the files are as after its puts, and the numbers are its own
pub record IsPatched (folder : List ℕ) (old new : List MemFile) (summary : Summary) : Type 0 where
  pub u : Update
  pub compared : IsCompared old folder u
  pub release : UpdatedRelease
  pub of : IsUpdateOf u old folder compared.catalogue.state release
  pub within : IsWithin u of.plan
  pub after : IsAfter (update_puts folder release) old new
  pub sums : Sums folder old of.moved release summary

-- ---- on the way

-- how far an update has come: it has made the first bundles of its release, or all of the release; the puts of what was made, and
-- the tests of their names
abbrev pub IsBegunIn : Update → Plan → List MemFile → List ℕ → Option Digest → List MemFile → List Test → Type 0
IsBegunIn u plan old folder named puts tests =
    ((bundles : List ReleaseBundle) × EachAt (IsBundleAfter u plan old folder) bundles
    × (puts ≡ map (bundle_put folder) bundles) × (tests ≡ all_bundle_tests bundles))
    ⊎ ((r : UpdatedRelease) × IsReleaseAfter u plan old folder named r
    × (puts ≡ update_puts folder r) × (tests ≡ all_bundle_tests r.bundles))

-- of the folder, whose update passes no limit
abbrev pub IsBegun : List MemFile → List ℕ → List MemFile → List Test → Type 0
IsBegun old folder puts tests = (u : Update) × (compared : IsCompared old folder u) × (plan : Plan) × IsWithin u plan
    × IsBegunIn u plan old folder compared.catalogue.state puts tests

-- moments that passed in an update, and the files at its end: none passed and nothing changed, or each is as after some first puts
-- of its release, for which no name that is tested is taken
abbrev pub IsUpdating : List ℕ → List MemFile → List (List MemFile) → List MemFile → Type 0
IsUpdating folder old passed new = ((passed ≡ []) × (new ≡ old))
    ⊎ ((puts : List MemFile) × (tests : List Test) × IsBegun old folder puts tests
    × (k : ℕ) × AreUntaken old folder k tests × Passes (take k puts) old 0 passed new)

-- what stands at each moment of an update: no earlier moment changes, and those that passed are moments of an update
pub record Updates (folder : List ℕ) (old new : Store) : Type 0 where
  pub passed : List (List MemFile)
  pub past : new.past ≡ old.past ++ passed
  pub told : (files : List MemFile) → old.files ≡ Some files
      → (after : List MemFile) × (new.files ≡ Some after) × IsUpdating folder files passed after

-- ---- answers

-- what an update answers where files are told: each refusal has its cause, the first in the order of the tests, and a taken name is
-- the first, with exactly the puts before it made
abbrev pub Answers : List ℕ → List MemFile → List MemFile → Result Summary UpdateErr → Type 0
Answers folder old new (Ok summary) = IsPatched folder old new summary
Answers folder old new (Err (Project fault)) = ProjectFault old folder fault
Answers folder old new (Err (NoRelease name)) = (p : Contents) × ProjectOf old folder p × LacksFile old folder name
Answers folder old new (Err (BadCatalogue fault)) = (p : Contents) × ProjectOf old folder p × HasBadCatalogue old folder fault
Answers folder old new (Err (BadRelease name why)) = (p : Contents) × ProjectOf old folder p
    × (c : Catalogue) × HasCatalogue old folder c × IsWrong old folder c.state name why
Answers folder old new (Err (TooLarge which n)) = IsTooLarge old folder which n
Answers folder old new (Err (NameTaken name)) = (puts : List MemFile) × (tests : List Test) × IsBegun old folder puts tests
    × (k : ℕ) × (k < length puts) × IsAfter (take k puts) old new × IsTakenFirst old folder tests k name
Answers folder old new (Err DepotFault) = Unit {0}
Answers folder old new (Err NoMemory) = Unit {0}

-- a refusal that comes before the first put
abbrev pub IsEarly : Result Summary UpdateErr → Type 0
IsEarly (Ok summary) = ⊥
IsEarly (Err (Project fault)) = Unit {0}
IsEarly (Err (NoRelease name)) = Unit {0}
IsEarly (Err (BadCatalogue fault)) = Unit {0}
IsEarly (Err (BadRelease name why)) = Unit {0}
IsEarly (Err (TooLarge which n)) = Unit {0}
IsEarly (Err (NameTaken name)) = ⊥
IsEarly (Err DepotFault) = ⊥
IsEarly (Err NoMemory) = ⊥

-- the count of faults rose exactly where the answer is a fault of the depot
abbrev pub UpdateRose : {T : Type 0} → ℕ → ℕ → Result T UpdateErr → Type 0
UpdateRose before now (Ok done) = now ≡ before
UpdateRose before now (Err (Project fault)) = now ≡ before
UpdateRose before now (Err (NoRelease name)) = now ≡ before
UpdateRose before now (Err (BadCatalogue fault)) = now ≡ before
UpdateRose before now (Err (BadRelease name why)) = now ≡ before
UpdateRose before now (Err (TooLarge which n)) = now ≡ before
UpdateRose before now (Err (NameTaken name)) = now ≡ before
UpdateRose before now (Err DepotFault) = (before ≤ now) × Rose before now
UpdateRose before now (Err NoMemory) = now ≡ before

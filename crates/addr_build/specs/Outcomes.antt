-- What a build answers, why it refuses, and what stands in the depot at each moment.
use Rattle.std.specs.Prelude.{ℕ, ◌≡◌, ◌≤◌, ◌<◌, ◌++◌, ◌⊎◌, List, [], length, take, Some, Result, Ok, Err}
use Rattle.addr_base.specs.Faults.{Rose}
use Rattle.addr_base.specs.Files.{Store}
use Rattle.addr_base.specs.declared.files.MemFile.{MemFile}
use Rattle.addr_images.specs.Limits.{BytesPass, Fits, IsPlanWithin, PlanPasses}
use Rattle.addr_images.specs.Sizes.{IsBytesCount}
use Rattle.addr_pack.specs.declared.bundles.Plan.{Plan}
use Rattle.addr_project.specs.Model.{Project as Contents}
use Rattle.addr_project.specs.Reading.{ProjectFault, ProjectOf}
use Rattle.addr_project.specs.declared.limit.Limit.{Limit}
use Rattle.addr_project.specs.declared.limit.Limit.TheVariants as limit
use Rattle.addr_release.specs.Built.{IsReleaseOf, Release}
use Rattle.addr_release.specs.Puts.{AreUntaken, IsAfter, NoneTaken, Test, puts_of}
use Rattle.addr_build.specs.Moments.{Passes}
use Rattle.addr_build.specs.declared.error.BuildErr.{BuildErr}
use Rattle.addr_build.specs.declared.error.BuildErr.TheVariants.{Project, TooLarge, NameTaken, DepotFault, NoMemory}
use Rattle.addr_build.specs.declared.release.Summary.{Summary}
use Rattle.addr_build.specs.Release.{IsBegunIn, Sums}
use Rattle.addr_build.specs.Endings.{IsTakenFirst}

-- the first limit that a project passes, and the whole count
abbrev pub IsTooLarge : Contents → Limit → ℕ → Type 0
IsTooLarge p which n = PlanPasses p which n ⊎ ((plan : Plan) × IsPlanWithin p plan × BytesPass p plan which n)

-- a placement that passes no limit, nor do its files
pub record IsWithin (p : Contents) (plan : Plan) : Type 0 where
  pub placed : IsPlanWithin p plan
  pub bytes : Fits (IsBytesCount p plan) limit.BundleBytes

-- how far a build of the project has come; no limit is passed
abbrev pub IsBegun : Contents → List ℕ → List MemFile → List Test → Type 0
IsBegun p folder puts tests = (plan : Plan) × IsWithin p plan × IsBegunIn p plan folder puts tests

-- a build: the folder stood for a project that passes no limit, no name of its release was taken, the files are as after the
-- release's puts, and the numbers are those of the release
pub record IsBuilt (folder : List ℕ) (old new : List MemFile) (summary : Summary) : Type 0 where
  pub project : Contents
  pub read : ProjectOf old folder project
  pub plan : Plan
  pub within : IsWithin project plan
  pub release : Release
  pub is : IsReleaseOf project release
  pub free : NoneTaken old folder release
  pub after : IsAfter (puts_of folder release) old new
  pub sums : Sums folder old release summary

-- moments that passed in a build, and the files at its end: none passed and nothing changed, or the folder stood for a
-- project, and each is as after some first puts of its release, for which no name that is tested is taken
abbrev pub IsBuilding : List ℕ → List MemFile → List (List MemFile) → List MemFile → Type 0
IsBuilding folder old passed new = ((passed ≡ []) × (new ≡ old))
    ⊎ ((p : Contents) × ProjectOf old folder p
    × (puts : List MemFile) × (tests : List Test) × IsBegun p folder puts tests
    × (k : ℕ) × AreUntaken old folder k tests × Passes (take k puts) old 0 passed new)

-- what stands at each moment of a build: no earlier moment changes, and those that passed are moments of a build
pub record Builds (folder : List ℕ) (old new : Store) : Type 0 where
  pub passed : List (List MemFile)
  pub past : new.past ≡ old.past ++ passed
  pub told : (files : List MemFile) → old.files ≡ Some files
      → (after : List MemFile) × (new.files ≡ Some after) × IsBuilding folder files passed after

-- what a build answers where files are told: each refusal has its cause, and a taken name is the first, with exactly the
-- puts before it made
abbrev pub Answers : List ℕ → List MemFile → List MemFile → Result Summary BuildErr → Type 0
Answers folder old new (Ok summary) = IsBuilt folder old new summary
Answers folder old new (Err (Project fault)) = ProjectFault old folder fault
Answers folder old new (Err (TooLarge which n)) = (p : Contents) × ProjectOf old folder p × IsTooLarge p which n
Answers folder old new (Err (NameTaken name)) = (p : Contents) × ProjectOf old folder p
    × (puts : List MemFile) × (tests : List Test) × IsBegun p folder puts tests
    × ((k : ℕ) × (k < length puts) × IsAfter (take k puts) old new × IsTakenFirst old folder tests k name)
Answers folder old new (Err DepotFault) = Unit {0}
Answers folder old new (Err NoMemory) = Unit {0}

-- a refusal that comes before the first put
abbrev pub IsEarly : Result Summary BuildErr → Type 0
IsEarly (Ok summary) = ⊥
IsEarly (Err (Project fault)) = Unit {0}
IsEarly (Err (TooLarge which n)) = Unit {0}
IsEarly (Err (NameTaken name)) = ⊥
IsEarly (Err DepotFault) = ⊥
IsEarly (Err NoMemory) = ⊥

-- the count of faults rose exactly where the answer is a fault of the depot
abbrev pub BuildRose : {T : Type 0} → ℕ → ℕ → Result T BuildErr → Type 0
BuildRose before now (Ok done) = now ≡ before
BuildRose before now (Err (Project fault)) = now ≡ before
BuildRose before now (Err (TooLarge which n)) = now ≡ before
BuildRose before now (Err (NameTaken name)) = now ≡ before
BuildRose before now (Err DepotFault) = (before ≤ now) × Rose before now
BuildRose before now (Err NoMemory) = now ≡ before

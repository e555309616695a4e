-- The isolation of a folder: what it leaves of a folder that stands for the project, and when the depot's count of faults rises.
use Rattle.std.specs.Prelude.{ℕ, ◌≡◌, ◌≤◌, ◌⊎◌, List, Option, None, Result, Ok, Err, IsNone, IsSomeAnd, MatchOption}
use Rattle.addr_analyze.specs.declared.duplicate.Duplicate.{Duplicate}
use Rattle.addr_analyze.specs.Isolation.{IsFreeName, isolated_in}
use Rattle.addr_base.specs.Faults.{Rose}
use Rattle.addr_base.specs.Files.{IsPut, IsPutOrSame, SameElsewhere, SameFiles, file_at}
use Rattle.addr_base.specs.declared.files.MemFile.{MemFile}
use Rattle.addr_project.specs.Model.{Project}
use Rattle.addr_project.specs.Reading.{ProjectOf}
use Rattle.addr_isolate.specs.Isolating.{PassesLimit, project_path}
use Rattle.addr_isolate.specs.declared.error.IsolateErr.{IsolateErr}
use Rattle.addr_isolate.specs.declared.error.IsolateErr.TheVariants.{TooLarge, Broken, DepotFault, NoMemory}
use Rattle.addr_isolate.specs.declared.isolating.Isolation.{Isolation}

-- the folder stands for the project in which each duplicate is an entry of the group with this name, and every file but the
-- project file is as it was
pub record IsIsolatedFolder (p : Project) (found : List Duplicate) (folder : List ℕ) (before after : List MemFile) (group : List ℕ) : Type 0 where
  pub named : IsFreeName p.groups group
  pub stands : ProjectOf after folder (isolated_in p group found)
  pub others : SameElsewhere (project_path folder) before after

-- nothing was put, or the whole file was
abbrev pub IsOldOrIsolated : Project → List Duplicate → List ℕ → List MemFile → List MemFile → Type 0
IsOldOrIsolated p found folder before after = SameFiles before after ⊎ ((group : List ℕ) × IsIsolatedFolder p found folder before after group)

-- what each answer leaves of a folder that stands for the project
abbrev pub Leaves : Project → List Duplicate → List ℕ → List MemFile → List MemFile → Result (List ℕ) IsolateErr → Type 0
Leaves p found folder before after (Ok group) = IsIsolatedFolder p found folder before after group
Leaves p found folder before after (Err (TooLarge which n)) = PassesLimit p found which n × SameFiles before after
Leaves p found folder before after (Err Broken) = ⊥
Leaves p found folder before after (Err DepotFault) = IsOldOrIsolated p found folder before after
Leaves p found folder before after (Err NoMemory) = IsOldOrIsolated p found folder before after

-- what is said of a depot's files before and after a call, where the depot tells them
abbrev pub OfFiles : Option (List MemFile) → Option (List MemFile) → (List MemFile → List MemFile → Type 0) → Type 0
OfFiles old new Says = MatchOption old (IsNone new) (λ before. IsSomeAnd new (Says before))

-- the count of faults rose exactly where the answer is a fault of the depot
abbrev pub FolderRose : {T : Type 0} → ℕ → ℕ → Result T IsolateErr → Type 0
FolderRose before now (Ok done) = now ≡ before
FolderRose before now (Err DepotFault) = (before ≤ now) × Rose before now
FolderRose before now (Err (TooLarge which n)) = now ≡ before
FolderRose before now (Err Broken) = now ≡ before
FolderRose before now (Err NoMemory) = now ≡ before

-- why a file wasn't read
abbrev pub IsUnread : List ℕ → List MemFile → IsolateErr → Type 0
IsUnread name files (TooLarge which n) = ⊥
IsUnread name files Broken = file_at name files ≡ None
IsUnread name files DepotFault = Unit {0}
IsUnread name files NoMemory = Unit {0}

-- what putting the made file leaves
abbrev pub PutsMade : List ℕ → Isolation → List MemFile → List MemFile → Result (List ℕ) IsolateErr → Type 0
PutsMade name made before after (Ok group) = (group ≡ made.group) × IsPut name made.file before after
PutsMade name made before after (Err (TooLarge which n)) = ⊥
PutsMade name made before after (Err Broken) = ⊥
PutsMade name made before after (Err DepotFault) = IsPutOrSame name made.file before after
PutsMade name made before after (Err NoMemory) = IsPutOrSame name made.file before after

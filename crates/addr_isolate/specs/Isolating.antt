-- Isolation as the text of a project file: what is made of the file that a folder has, and when nothing is.
use Rattle.std.specs.Prelude.{codes, ℕ, ◌≡◌, ◌+◌, ◌<◌, ◌≤◌, ◌⊎◌, List, false, length, map, Some, Result, Ok, Err}
use Rattle.toml.specs.Data.{Members}
use Rattle.toml.specs.Text.{IsDocumentText}
use Rattle.addr_analyze.specs.declared.duplicate.Duplicate.{Duplicate}
use Rattle.addr_analyze.specs.Isolation.{IsFreeName, isolated_in}
use Rattle.addr_base.specs.Files.{IsPut, file_at}
use Rattle.addr_base.specs.declared.files.MemFile.{MemFile}
use Rattle.addr_base.specs.declared.ids.Guid.{Guid}
use Rattle.addr_project.specs.declared.limit.Limit.{Limit}
use Rattle.addr_project.specs.declared.limit.Limit.TheVariants as limit
use Rattle.addr_project.specs.Limits.{most}
use Rattle.addr_project.specs.Model.{Project}
use Rattle.addr_project.specs.Reading.{ProjectOf, path, tree_of}
use Rattle.addr_isolate.specs.Document.{IsWithEntries}
use Rattle.addr_isolate.specs.Shallow.{IsPlain}
use Rattle.addr_isolate.specs.declared.error.IsolateErr.{IsolateErr}
use Rattle.addr_isolate.specs.declared.error.IsolateErr.TheVariants.{TooLarge, Broken, DepotFault, NoMemory}
use Rattle.addr_isolate.specs.declared.isolating.Isolation.{Isolation}

-- the name of a folder's project file
abbrev pub project_path : List ℕ → List ℕ
project_path folder = path folder (codes "project.toml")

-- with the group of the duplicates there is one group too many, or with their entries there are too many entries, first the
-- former; the number is that of all
abbrev pub PassesLimit : Project → List Duplicate → Limit → ℕ → Type 0
PassesLimit p found which n =
    ((which ≡ limit.Groups) × (n ≡ length p.groups + 1) × (most limit.Groups < n))
    ⊎ ((which ≡ limit.Entries) × (length p.groups + 1 ≤ most limit.Groups) × (n ≡ length p.entries + length found) × (most limit.Entries < n))

abbrev pub guids_of : List Duplicate → List Guid
guids_of found = map (λ d. d.guid) found

-- the group's name and the file's text, made of the project file of a folder that stands for the project
pub record IsIsolation (p : Project) (found : List Duplicate) (file : List ℕ) (made : Isolation) : Type 0 where
  pub named : IsFreeName p.groups made.group
  -- where the text is put in the file's place, the folder stands for the isolated project
  pub stands : (files after : List MemFile) (folder : List ℕ) → ProjectOf files folder p → file_at (project_path folder) files ≡ Some file → IsPut (project_path folder) made.file files after
      → ProjectOf after folder (isolated_in p made.group found)
  -- the text is that of the file's document with the group and its entries
  pub written : (tree : Members) → tree_of file ≡ Some tree → (new : Members) × IsWithEntries tree made.group (guids_of found) new × IsDocumentText false new made.file

-- what isolation answers: a limit where it is passed, and that the bytes are no project file of the project only where no folder
-- that stands for it has them
abbrev pub Isolates : Project → List Duplicate → List ℕ → Result Isolation IsolateErr → Type 0
Isolates p found file (Ok made) = IsIsolation p found file made
Isolates p found file (Err (TooLarge which n)) = PassesLimit p found which n
Isolates p found file (Err Broken) = (files : List MemFile) (folder : List ℕ) → ProjectOf files folder p → file_at (project_path folder) files ≡ Some file → ⊥
Isolates p found file (Err DepotFault) = ⊥
Isolates p found file (Err NoMemory) = Unit {0}

-- the text of the document with the group and its entries; where the file's members are plain it is read as that document
pub record IsWritten (file group : List ℕ) (guids : List Guid) (text : List ℕ) : Type 0 where
  pub tree : Members
  pub is : tree_of file ≡ Some tree
  pub new : Members
  pub entries : IsWithEntries tree group guids new
  pub printed : IsDocumentText false new text
  pub reads : IsPlain tree → tree_of text ≡ Some new

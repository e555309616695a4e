-- What a folder of a depot stands for: a project, or the first fault. Exactly one of the two is defined.
use Rattle.std.specs.Prelude.{codes, ℕ, ◌≡◌, ◌⊎◌, ◌+◌, List, [], ◌++◌, length, map, if◌then◌else◌, Option, Some, None, is_none, unwrap_or, Result, Ok, Err}
use Rattle.std.specs.List.{sum}
use Rattle.std.specs.Option.{option_map, option_or}
use Rattle.std.specs.Str.{is_utf8}
use Rattle.toml.specs.Data.{Members}
use Rattle.toml.specs.Parse.{parse_document}
use Rattle.addr_base.specs.Files.{file_at}
use Rattle.addr_base.specs.declared.files.MemFile.{MemFile}
use Rattle.addr_expansion.specs.declared.error.ExpandErr.{ExpandErr}
use Rattle.addr_project.specs.declared.error.ProjectErr.{ProjectErr}
use Rattle.addr_project.specs.declared.error.ProjectErr.TheVariants.{NoProject, BadToml, MissingFile, DepotFault, NoMemory}
use Rattle.addr_project.specs.declared.limit.Limit.TheVariants as limit
use Rattle.addr_project.specs.declared.model.Asset.{Asset}
use Rattle.addr_project.specs.declared.model.Entry.{Entry}
use Rattle.addr_project.specs.declared.rows.AssetRow.{AssetRow}
use Rattle.addr_project.specs.declared.rows.EntryRow.{EntryRow}
use Rattle.addr_project.specs.declared.rows.ProjectFile.{ProjectFile}
use Rattle.addr_expansion.specs.Expansion.{expanded}
use Rattle.addr_project.specs.Faults.{passes, guids_of, names_of, tree_fault}
use Rattle.addr_project_rows.specs.Firsts.{first_from, first_where, place_of}
use Rattle.addr_project.specs.Model.{Project}
use Rattle.addr_project.specs.Rows.{file_of}

-- the depot's name of a file below the folder
abbrev pub path : List ℕ → List ℕ → List ℕ
path folder name = folder ++ (codes "/" ++ name)

-- the bytes of an asset's file
abbrev pub bytes_of : List MemFile → List ℕ → AssetRow → Option (List ℕ)
bytes_of files folder row = file_at (path folder row.file) files

-- a file's length is above its limit, or with the total of the files before it above theirs
abbrev pub over_after : ℕ → ℕ → Option ProjectErr
over_after total n = option_or (passes limit.AssetBytes n) (passes limit.AllBytes (total + n))

-- the same after the lengths of the files before it
abbrev pub size_answer : List ℕ → ℕ → Option ProjectErr
size_answer before n = over_after (sum before) n

-- the first length that passes a limit
abbrev pub size_fault : List ℕ → Option ProjectErr
size_fault lengths = first_from size_answer [] lengths

-- the length of a file, and 0 where there is none
abbrev pub length_of : Option (List ℕ) → ℕ
length_of bytes = length (unwrap_or bytes [])

-- the first asset whose file isn't there, and else the first size that passes a limit
unfoldable pub asset_fault : List (Option (List ℕ)) → Option ProjectErr
asset_fault contents = option_or (option_map MissingFile (first_where (λ before bytes. is_none bytes) contents)) (size_fault (map length_of contents))

-- the place of a key that is among the keys
abbrev pub place : List (List ℕ) → List ℕ → ℕ
place keys key = unwrap_or (place_of keys key) 0

-- a row's asset, with the bytes of its file
abbrev pub asset_from : AssetRow → Option (List ℕ) → Asset
asset_from row bytes = record { guid = row.guid; kind = row.kind; bytes = unwrap_or bytes []; refs = row.refs }

-- a row's entry, with places among those GUIDs and names in place of its own
abbrev pub entry_from : List (List ℕ) → List (List ℕ) → EntryRow → Entry
entry_from guids names row = record { asset = place guids row.guid.0; group = place names row.group; address = row.address; labels = row.labels }

-- the text of an expansion that gave one
abbrev pub text_given : Result (List ℕ) ExpandErr → List ℕ
text_given (Ok text) = text
text_given (Err _) = []

-- the project of a good file whose asset files have these bytes
unfoldable pub project_of : ProjectFile → List MemFile → List ℕ → Project
project_of f files folder = record {
  version = f.version;
  local = text_given (expanded f.variables f.local);
  remote = text_given (expanded f.variables f.remote);
  variables = f.variables;
  groups = f.groups;
  assets = map (λ row. asset_from row (bytes_of files folder row)) f.assets;
  entries = map (entry_from (guids_of f.assets) (names_of f.groups)) f.entries;
}

-- the document that the bytes of a file are
abbrev pub tree_of : List ℕ → Option Members
tree_of bytes = if is_utf8 bytes then parse_document bytes else None

-- a value, unless there is a fault
abbrev pub unless_fault : {A : Type 0} → Option ProjectErr → A → Result A ProjectErr
unless_fault None value = Ok value
unless_fault (Some fault) value = Err fault

-- what a good project file stands for beside the files of its assets
unfoldable pub reply_of_file : List MemFile → List ℕ → ProjectFile → Result Project ProjectErr
reply_of_file files folder f = unless_fault (asset_fault (map (bytes_of files folder) f.assets)) (project_of f files folder)

-- an answer, unless a fault comes before it
abbrev pub reply_after : Option ProjectErr → Result Project ProjectErr → Result Project ProjectErr
reply_after None reply = reply
reply_after (Some fault) reply = Err fault

-- what a document stands for, where there is one
abbrev pub reply_of_tree : List MemFile → List ℕ → Option Members → Result Project ProjectErr
reply_of_tree files folder None = Err BadToml
reply_of_tree files folder (Some tree) = reply_after (tree_fault tree) (reply_of_file files folder (file_of tree))

-- what the project file's bytes stand for, where there is one
abbrev pub reply_of_bytes : List MemFile → List ℕ → Option (List ℕ) → Result Project ProjectErr
reply_of_bytes files folder None = Err NoProject
reply_of_bytes files folder (Some bytes) = reply_of_tree files folder (tree_of bytes)

-- what a folder stands for: a project, or the first test that it breaks
unfoldable pub reply_of_folder : List MemFile → List ℕ → Result Project ProjectErr
reply_of_folder files folder = reply_of_bytes files folder (file_at (path folder (codes "project.toml")) files)

-- the folder stands for this project
abbrev pub ProjectOf : List MemFile → List ℕ → Project → Type 0
ProjectOf files folder p = reply_of_folder files folder ≡ Ok p

-- this is the first test that the folder breaks
abbrev pub ProjectFault : List MemFile → List ℕ → ProjectErr → Type 0
ProjectFault files folder fault = reply_of_folder files folder ≡ Err fault

-- an answer of reading: the project, or the first fault; want of memory and a fault of the depot are free here
abbrev pub Reads : List MemFile → List ℕ → Result Project ProjectErr → Type 0
Reads files folder answer = (answer ≡ Err NoMemory) ⊎ ((answer ≡ Err DepotFault) ⊎ (reply_of_folder files folder ≡ answer))

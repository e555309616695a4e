-- Reading the document of a project file: what is left to read of the folder's answer.
use Rattle.std.specs.Prelude.{ℕ, ◌≡◌, ◌⊎◌, List, Some, Result, Ok, Err}
use Rattle.std.specs.BTreeMap.{BTreeMap}
use Rattle.std.specs.Global.{Global}
use Rattle.std.specs.Prelude.{String}
use Rattle.toml.specs.View.{table_view}
use Rattle.toml.specs.declared.value.Value.{Value}
use Rattle.addr_base.specs.declared.files.MemFile.{MemFile}
use Rattle.addr_project.specs.declared.error.ProjectErr.{ProjectErr}
use Rattle.addr_project.specs.declared.error.ProjectErr.TheVariants.{NoMemory, DepotFault}
use Rattle.addr_project.specs.Reading.{reply_of_folder, reply_of_tree}

-- the folder's answer is that of its tree; want of memory and a fault of the depot are free here
abbrev pub ReadsTree : List MemFile → List ℕ → Result (BTreeMap (String Global) Value) ProjectErr → Type 0
ReadsTree files folder (Ok tree) = reply_of_folder files folder ≡ reply_of_tree files folder (Some (table_view tree))
ReadsTree files folder (Err e) = (e ≡ NoMemory) ⊎ ((e ≡ DepotFault) ⊎ (reply_of_folder files folder ≡ Err e))

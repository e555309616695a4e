-- Reading and measuring a project before its release is put.
use Rattle.std.specs.Prelude.{ℕ, List, Result, Ok, Err}
use Rattle.addr_base.specs.declared.files.MemFile.{MemFile}
use Rattle.addr_project.specs.Model.{Project as Contents}
use Rattle.addr_project.specs.Reading.{ProjectFault, ProjectOf}
use Rattle.addr_build.specs.declared.error.BuildErr.{BuildErr}
use Rattle.addr_build.specs.declared.error.BuildErr.TheVariants.{Project, TooLarge, NameTaken, DepotFault, NoMemory}
use Rattle.addr_build.specs.Outcomes.{IsTooLarge}

-- what preparing a build answers: a project within its limits, or why there is none
abbrev pub Prepares : {T : Type 0} → (T → Contents) → List ℕ → List MemFile → Result T BuildErr → Type 0
Prepares project folder files (Ok made) = ProjectOf files folder (project made)
Prepares project folder files (Err (Project fault)) = ProjectFault files folder fault
Prepares project folder files (Err (TooLarge which n)) = (p : Contents) × ProjectOf files folder p × IsTooLarge p which n
Prepares project folder files (Err (NameTaken name)) = ⊥
Prepares project folder files (Err DepotFault) = Unit {0}
Prepares project folder files (Err NoMemory) = Unit {0}

-- why a project isn't within its limits
abbrev pub IsUnfit : {T : Type 0} → Contents → Result T BuildErr → Type 0
IsUnfit p (Ok made) = Unit {0}
IsUnfit p (Err (Project fault)) = ⊥
IsUnfit p (Err (TooLarge which n)) = IsTooLarge p which n
IsUnfit p (Err (NameTaken name)) = ⊥
IsUnfit p (Err DepotFault) = ⊥
IsUnfit p (Err NoMemory) = Unit {0}

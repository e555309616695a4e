-- The steps of `plan`: reading a folder's project.
use Rattle.std.specs.Prelude.{ℕ, List, Result, Ok, Err, IfSome}
use Rattle.addr_base.specs.Faults.{Rose}
use Rattle.addr_project.specs.Model.{Project}
use Rattle.addr_project.specs.Reading.{ProjectOf, ProjectFault}
use Rattle.addr_base.specs.Files.{Store}
use Rattle.addr_cli.specs.declared.refusal.Refusal.{Refusal}
use Rattle.addr_cli.specs.declared.refusal.Refusal.TheVariants.{NoMemory, Depot, BadProject}

-- what reading a folder ends with, where its depot tells its files
abbrev pub ReadsProject : List ℕ → Store → Store → Result Project Refusal → Type 0
ReadsProject folder old new (Ok p) = IfSome old.files (λ files. ProjectOf files folder p)
ReadsProject folder old new (Err (BadProject fault)) = IfSome old.files (λ files. ProjectFault files folder fault)
ReadsProject folder old new (Err Depot) = Rose old.faults new.faults
ReadsProject folder old new (Err NoMemory) = Unit {0}
ReadsProject folder old new (Err _) = ⊥

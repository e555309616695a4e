-- The refusal that a cause is.
use Rattle.addr_build.specs.declared.error.BuildErr.{BuildErr}
use Rattle.addr_build.specs.declared.error.BuildErr.TheVariants.{Project, TooLarge, NameTaken, DepotFault, NoMemory}
use Rattle.addr_build.specs.declared.error.PutErr.{PutErr}
use Rattle.addr_build.specs.declared.error.PutErr.TheVariants as put
use Rattle.addr_images.specs.declared.limits.LimitErr.{LimitErr}
use Rattle.addr_images.specs.declared.limits.LimitErr.TheVariants as limits
use Rattle.addr_project.specs.declared.error.ProjectErr.{ProjectErr}
use Rattle.addr_project.specs.declared.error.ProjectErr.TheVariants as project

-- want of memory and a fault of the depot are no faults of a project
abbrev pub of_project : ProjectErr → BuildErr
of_project project.NoMemory = NoMemory
of_project project.DepotFault = DepotFault
of_project fault = Project fault

abbrev pub of_limit : LimitErr → BuildErr
of_limit (limits.TooLarge limit count) = TooLarge limit count
of_limit limits.NoMemory = NoMemory

abbrev pub of_put : PutErr → BuildErr
of_put (put.Taken name) = NameTaken name
of_put put.Fault = DepotFault
of_put put.NoMemory = NoMemory

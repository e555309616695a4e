-- The fault of a project that a depot's error is.
use Rattle.addr_base.specs.declared.depot.DepotErr.{DepotErr}
use Rattle.addr_base.specs.declared.depot.DepotErr.TheVariants as depot
use Rattle.addr_project.specs.declared.error.ProjectErr.{ProjectErr}
use Rattle.addr_project.specs.declared.error.ProjectErr.TheVariants.{DepotFault, NoMemory}

-- the fault of each error
abbrev pub of_depot : DepotErr → ProjectErr
of_depot depot.Fault = DepotFault
of_depot depot.NoMemory = NoMemory

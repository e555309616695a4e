-- The refusal that a depot's error is.
use Rattle.addr_base.specs.declared.depot.DepotErr.{DepotErr}
use Rattle.addr_base.specs.declared.depot.DepotErr.TheVariants as depot
use Rattle.addr_build.specs.declared.error.PutErr.{PutErr}
use Rattle.addr_build.specs.declared.error.PutErr.TheVariants.{Fault, NoMemory}

abbrev pub of_depot : DepotErr → PutErr
of_depot depot.Fault = Fault
of_depot depot.NoMemory = NoMemory

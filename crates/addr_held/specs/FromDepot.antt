-- The refusals that the errors of a depot are.
use Rattle.addr_base.specs.declared.depot.DepotErr.{DepotErr}
use Rattle.addr_base.specs.declared.depot.DepotErr.TheVariants as depot
use Rattle.addr_held.specs.declared.error.HeldErr.{HeldErr}
use Rattle.addr_held.specs.declared.error.HeldErr.TheVariants as held

abbrev pub of_read : DepotErr → HeldErr
of_read depot.Fault = held.DepotFault
of_read depot.NoMemory = held.NoMemory

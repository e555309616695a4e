-- The refusals that the errors of a depot and of opening are.
use Rattle.addr_base.specs.declared.depot.DepotErr.{DepotErr}
use Rattle.addr_base.specs.declared.depot.DepotErr.TheVariants as depot
use Rattle.addr_resolve.specs.declared.error.OpenErr.{OpenErr}
use Rattle.addr_resolve.specs.declared.error.OpenErr.TheVariants as errors
use Rattle.addr_resolve.specs.declared.error.ResolveErr.{ResolveErr}
use Rattle.addr_resolve.specs.declared.error.ResolveErr.TheVariants as resolve

abbrev pub of_depot : DepotErr → OpenErr
of_depot depot.Fault = errors.DepotFault
of_depot depot.NoMemory = errors.NoMemory

abbrev pub of_read : DepotErr → ResolveErr
of_read depot.Fault = resolve.DepotFault
of_read depot.NoMemory = resolve.NoMemory

abbrev pub of_open : OpenErr → ResolveErr
of_open (errors.Bad key why) = resolve.BadBundle key why
of_open errors.DepotFault = resolve.DepotFault
of_open errors.NoMemory = resolve.NoMemory

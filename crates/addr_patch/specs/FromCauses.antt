-- The refusals that the errors of the steps are.
use Rattle.addr_build.specs.declared.error.PutErr.{PutErr}
use Rattle.addr_build.specs.declared.error.PutErr.TheVariants as put
use Rattle.addr_check.specs.declared.error.CheckErr.{CheckErr}
use Rattle.addr_check.specs.declared.error.CheckErr.TheVariants as check
use Rattle.addr_images.specs.declared.limits.LimitErr.{LimitErr}
use Rattle.addr_images.specs.declared.limits.LimitErr.TheVariants as limits
use Rattle.addr_patch.specs.declared.error.UpdateErr.{UpdateErr}
use Rattle.addr_patch.specs.declared.error.UpdateErr.TheVariants as update

abbrev pub of_check : CheckErr → UpdateErr
of_check (check.Project fault) = update.Project fault
of_check (check.NoRelease name) = update.NoRelease name
of_check (check.BadCatalogue fault) = update.BadCatalogue fault
of_check (check.BadRelease file why) = update.BadRelease file why
of_check (check.TooLarge which n) = update.TooLarge which n
of_check check.DepotFault = update.DepotFault
of_check check.NoMemory = update.NoMemory

abbrev pub of_limit : LimitErr → UpdateErr
of_limit (limits.TooLarge which n) = update.TooLarge which n
of_limit limits.NoMemory = update.NoMemory

abbrev pub of_put : PutErr → UpdateErr
of_put (put.Taken name) = update.NameTaken name
of_put put.Fault = update.DepotFault
of_put put.NoMemory = update.NoMemory

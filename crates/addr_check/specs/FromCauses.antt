-- The refusals that the errors of the steps are.
use Rattle.addr_check.specs.declared.error.CheckErr.{CheckErr}
use Rattle.addr_check.specs.declared.error.CheckErr.TheVariants as checks
use Rattle.addr_held.specs.declared.error.HeldErr.{HeldErr}
use Rattle.addr_held.specs.declared.error.HeldErr.TheVariants as held
use Rattle.addr_pack.specs.declared.error.PlanErr.{PlanErr}
use Rattle.addr_pack.specs.declared.error.PlanErr.TheVariants as plan
use Rattle.addr_project.specs.declared.error.ProjectErr.{ProjectErr}
use Rattle.addr_project.specs.declared.error.ProjectErr.TheVariants as project
use Rattle.addr_project.specs.declared.limit.Limit.TheVariants as limit

-- want of memory and a fault of the depot are no faults of a project
abbrev pub of_project : ProjectErr → CheckErr
of_project project.NoMemory = checks.NoMemory
of_project project.DepotFault = checks.DepotFault
of_project fault = checks.Project fault

abbrev pub of_held : HeldErr → CheckErr
of_held (held.NoRelease name) = checks.NoRelease name
of_held (held.BadCatalogue fault) = checks.BadCatalogue fault
of_held (held.BadRelease file why) = checks.BadRelease file why
of_held held.DepotFault = checks.DepotFault
of_held held.NoMemory = checks.NoMemory

abbrev pub of_plan : PlanErr → CheckErr
of_plan (plan.NameTooLong row length) = checks.TooLarge limit.BundleName length
of_plan plan.NoMemory = checks.NoMemory

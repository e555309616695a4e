-- The refusal that a cause is.
use Rattle.addr_images.specs.declared.limits.LimitErr.{LimitErr}
use Rattle.addr_images.specs.declared.limits.LimitErr.TheVariants as limits
use Rattle.addr_isolate.specs.declared.error.IsolateErr.{IsolateErr}
use Rattle.addr_isolate.specs.declared.error.IsolateErr.TheVariants as isolation
use Rattle.addr_project.specs.declared.error.ProjectErr.{ProjectErr}
use Rattle.addr_project.specs.declared.error.ProjectErr.TheVariants as project
use Rattle.addr_show.specs.declared.error.AnalyzeErr.{AnalyzeErr}
use Rattle.addr_show.specs.declared.error.AnalyzeErr.TheVariants.{Project, TooLarge, DepotFault, NoMemory}

-- want of memory and a fault of the depot are no faults of a project
abbrev pub of_project : ProjectErr → AnalyzeErr
of_project project.NoMemory = NoMemory
of_project project.DepotFault = DepotFault
of_project fault = Project fault

abbrev pub of_limit : LimitErr → AnalyzeErr
of_limit (limits.TooLarge limit count) = TooLarge limit count
of_limit limits.NoMemory = NoMemory

-- a file that changed since it was read is no project; over files that are told this doesn't come
abbrev pub of_isolation : IsolateErr → AnalyzeErr
of_isolation (isolation.TooLarge limit count) = TooLarge limit count
of_isolation isolation.Broken = Project project.NoProject
of_isolation isolation.DepotFault = DepotFault
of_isolation isolation.NoMemory = NoMemory

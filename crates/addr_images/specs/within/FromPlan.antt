-- A refusal of planning as a limit that is passed.
use Rattle.addr_pack.specs.declared.error.PlanErr.{PlanErr}
use Rattle.addr_pack.specs.declared.error.PlanErr.TheVariants as planning
use Rattle.addr_project.specs.declared.limit.Limit.TheVariants as limit
use Rattle.addr_images.specs.declared.limits.LimitErr.{LimitErr}
use Rattle.addr_images.specs.declared.limits.LimitErr.TheVariants.{TooLarge, NoMemory}

abbrev pub from_plan : PlanErr → LimitErr
from_plan (planning.NameTooLong row length) = TooLarge limit.BundleName length
from_plan planning.NoMemory = NoMemory

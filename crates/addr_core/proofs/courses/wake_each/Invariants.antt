use Rattle.std.proofs.Common.{◌≡◌, drop}
use Rattle.addr_queue.specs.Changes.{change_each}
use Rattle.addr_core.specs.within.Courses.{woken}
use Rattle.addr_core.proofs.courses.wake_each.Given as goal

abbrev pub invariant-loop-op : goal.invariant-loop-op
invariant-loop-op l = change_each woken (drop l.op-index l.ops) l.courses ≡ change_each woken l.ops l.initial.courses

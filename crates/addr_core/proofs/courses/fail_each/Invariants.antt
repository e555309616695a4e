use Rattle.std.proofs.Common.{◌≡◌, drop}
use Rattle.addr_queue.specs.Changes.{change_each}
use Rattle.addr_core.specs.within.Courses.{failed_by}
use Rattle.addr_core.proofs.courses.fail_each.Given as goal

abbrev pub invariant-loop-op : goal.invariant-loop-op
invariant-loop-op l = change_each (failed_by l.status) (drop l.op-index l.ops) l.courses ≡ change_each (failed_by l.status) l.ops l.initial.courses

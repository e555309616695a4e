use Rattle.std.proofs.Common.{◌≡◌, drop, []}
use Rattle.addr_queue.specs.Changes.{cleared_each}
use Rattle.addr_core.specs.within.Courses.{waiting_lists}
use Rattle.addr_queue.specs.Slots.{passes, is_idle}
use Rattle.addr_core.proofs.waiters.forget_each.Given as goal

abbrev pub invariant-loop-b : goal.invariant-loop-b
invariant-loop-b l = cleared_each [] (passes is_idle l.slots) (drop l.b-index l.needs) (waiting_lists l.waits) ≡ cleared_each [] (passes is_idle l.slots) l.needs (waiting_lists l.initial.waits)

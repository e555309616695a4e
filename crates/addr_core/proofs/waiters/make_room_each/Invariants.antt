use Rattle.std.proofs.Common.{◌≡◌, take}
use Rattle.addr_core.specs.within.Courses.{HasRoom, waiting_lists}
use Rattle.addr_queue.specs.Slots.{passes, is_missing}
use Rattle.addr_core.proofs.waiters.make_room_each.Given as goal

abbrev pub invariant-loop-b : goal.invariant-loop-b
invariant-loop-b l = record {
  lists : waiting_lists l.waits ≡ waiting_lists l.initial.waits;
  room : HasRoom (passes is_missing l.slots) (take l.b-index l.needs) l.waits;
}

use Rattle.std.proofs.Common.{◌≡◌, drop, true}
use Rattle.addr_locate.specs.Rows.{no_repeats}
use Rattle.addr_core.specs.within.Courses.{HasRoom, waiting_lists, waited_each}
use Rattle.addr_queue.specs.Slots.{passes, is_missing}
use Rattle.addr_core.proofs.waiters.wait_each.Given as goal

abbrev pub invariant-loop-b : goal.invariant-loop-b
invariant-loop-b l = record {
  once : no_repeats (drop l.b-index l.needs) ≡ true;
  room : HasRoom (passes is_missing l.slots) (drop l.b-index l.needs) l.waits;
  lists : waited_each (passes is_missing l.slots) l.op (drop l.b-index l.needs) (waiting_lists l.waits) ≡ waited_each (passes is_missing l.slots) l.op l.needs (waiting_lists l.initial.waits);
}

use Rattle.std.proofs.Common.{◌≡◌, drop, true}
use Rattle.addr_history.specs.Events.{is_in}
use Rattle.addr_locate.specs.Rows.{no_repeats}
use Rattle.addr_base.specs.declared.ids.BundleNo.{BundleNo}
use Rattle.addr_queue.specs.Slots.{left_each, passes, leaves}
use Rattle.addr_queue.proofs.queueing.leave_each.Given as goal

abbrev pub invariant-loop-b : goal.invariant-loop-b
invariant-loop-b l = record {
  room : l.queue.room ≡ l.initial.queue.room;
  once : no_repeats (drop l.b-index l.needs) ≡ true;
  there : (b : BundleNo) → is_in b (drop l.b-index l.needs) ≡ true → passes leaves l.slots b ≡ true → is_in b l.queue.bundles ≡ true;
  left : left_each (passes leaves l.slots) (drop l.b-index l.needs) l.queue.bundles ≡ left_each (passes leaves l.slots) l.needs l.initial.queue.bundles;
}

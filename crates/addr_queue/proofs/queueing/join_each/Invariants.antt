use Rattle.std.proofs.Common.{◌≡◌, ◌<◌, drop, true, false}
use Rattle.addr_history.specs.Events.{is_in}
use Rattle.addr_locate.specs.Rows.{no_repeats}
use Rattle.addr_base.specs.declared.ids.BundleNo.{BundleNo}
use Rattle.addr_queue.specs.Slots.{joined_each, passes, is_out}
use Rattle.addr_queue.proofs.queueing.join_each.Given as goal

abbrev pub invariant-loop-b : goal.invariant-loop-b
invariant-loop-b l = record {
  room : l.queue.room ≡ l.initial.queue.room;
  once : no_repeats (drop l.b-index l.needs) ≡ true;
  below : (b : BundleNo) → is_in b (drop l.b-index l.needs) ≡ true → b.0 < l.queue.room;
  new : (b : BundleNo) → is_in b (drop l.b-index l.needs) ≡ true → passes is_out l.slots b ≡ true → is_in b l.queue.bundles ≡ false;
  joined : joined_each (passes is_out l.slots) (drop l.b-index l.needs) l.queue.bundles ≡ joined_each (passes is_out l.slots) l.needs l.initial.queue.bundles;
}

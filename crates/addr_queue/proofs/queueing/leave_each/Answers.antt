use Rattle.std.proofs.Common.{◌≡◌, ◌∙◌, ap, sym, drop, get_or, filter, not, eqb, if◌then◌else◌}
use Rattle.addr_base.specs.declared.ids.BundleNo.{BundleNo}
use Rattle.addr_history.specs.Events.{is_in}
use Rattle.addr_queue.specs.Queue.{Ordered}
use Rattle.addr_queue.specs.Slots.{passes, leaves, left_each}
use Rattle.addr_queue.proofs.Leaving.{leave_step, leave_head}
use Rattle.addr_queue.proofs.queueing.leave_each.Goals as goal

pub leave-requires : goal.leave-requires
leave-requires c = λ is. leave_head (passes leaves c.args.slots.now) c.args.needs.now c.loop-b.b-index (record { 0 = 0 }) c.loop-b.queue.bundles c.loop-b-test.true c.loop-b.invariant.there (sym c.leaves.ensures ∙ is)

pub loop-b-preserved : goal.loop-b-preserved
loop-b-preserved c =
    let step = leave_step (passes leaves c.args.slots.now) c.args.needs.now c.loop-b.b-index (record { 0 = 0 }) c.loop-b.queue.bundles c.loop-b-test.true c.loop-b.invariant.once c.loop-b.invariant.there in
    let new : c.leave.new.queue.bundles ≡ (if passes leaves c.args.slots.now (get_or c.args.needs.now c.loop-b.b-index (record { 0 = 0 })) then filter (λ (d : BundleNo). not (eqb d.0 (get_or c.args.needs.now c.loop-b.b-index (record { 0 = 0 })).0)) c.loop-b.queue.bundles else c.loop-b.queue.bundles) =
    ap (λ (l : Ordered). l.bundles) c.leave.ensures ∙ ap (λ t. if t then filter (λ (d : BundleNo). not (eqb d.0 (get_or c.args.needs.now c.loop-b.b-index (record { 0 = 0 })).0)) c.loop-b.queue.bundles else c.loop-b.queue.bundles) c.leaves.ensures in
    record {
      room = ap (λ (l : Ordered). l.room) c.leave.ensures ∙ c.loop-b.invariant.room;
      once = step.0;
      there = λ b in_rest passed. ap (is_in b) new ∙ step.1 b in_rest passed;
      left = ap (left_each (passes leaves c.args.slots.now) (drop _ c.args.needs.now)) new ∙ step.2 ∙ c.loop-b.invariant.left;
    }

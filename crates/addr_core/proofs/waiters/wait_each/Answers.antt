use Rattle.std.proofs.Common.{◌∙◌, ap, sym, List, ℕ, [], ◌∷◌, ◌++◌, get_or, if◌then◌else◌}
use Rattle.addr_base.specs.declared.ids.BundleNo.{BundleNo}
use Rattle.addr_queue.specs.Changes.{change}
use Rattle.addr_core.specs.within.Courses.{waiting_lists}
use Rattle.addr_queue.specs.Slots.{passes, is_missing}
use Rattle.addr_core.proofs.WaitPlaces.{wait_head, wait_step}
use Rattle.addr_core.proofs.waiters.wait_each.Goals as goal

pub wait-requires : goal.wait-requires
wait-requires c = λ is. wait_head (passes is_missing c.args.slots.now) c.args.needs.now c.loop-b.b-index (record { 0 = 0 }) c.loop-b.waits c.loop-b-test.true c.loop-b.invariant.room (sym c.is_missing.ensures ∙ is)

pub loop-b-preserved : goal.loop-b-preserved
loop-b-preserved c =
    let b0 : BundleNo = get_or c.args.needs.now c.loop-b.b-index (record { 0 = 0 }) in
    let step = wait_step (passes is_missing c.args.slots.now) c.args.op c.args.needs.now c.loop-b.b-index (record { 0 = 0 }) c.loop-b.waits c.wait.new.waits c.loop-b-test.true c.loop-b.invariant.once c.loop-b.invariant.room
    (c.wait.ensures.lists ∙ ap (λ t. if t then change (λ (ops : List ℕ). ops ++ c.args.op ∷ []) b0.0 (waiting_lists c.loop-b.waits) else waiting_lists c.loop-b.waits) c.is_missing.ensures) c.wait.ensures.others in
    record {
      once = step.0;
      room = step.1;
      lists = step.2 ∙ c.loop-b.invariant.lists;
    }

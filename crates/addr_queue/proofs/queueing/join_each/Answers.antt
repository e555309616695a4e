use Rattle.std.proofs.Common.{◌≡◌, ◌<◌, ◌∙◌, ap, sym, subst, true, false, drop, get_or, [], ◌∷◌, ◌++◌, if◌then◌else◌}
use Rattle.addr_base.specs.declared.ids.BundleNo.{BundleNo}
use Rattle.addr_history.specs.Events.{is_in}
use Rattle.addr_queue.specs.Queue.{Ordered}
use Rattle.addr_queue.specs.Slots.{passes, is_out, joined_each}
use Rattle.addr_queue.proofs.Leaving.{join_step, head_within, rest_within}
use Rattle.addr_queue.proofs.queueing.join_each.Goals as goal

pub join-requires-clause-below : goal.join-requires-clause-below
join-requires-clause-below c = head_within (passes is_out c.args.slots.now) (λ b. b.0 < c.loop-b.queue.room) c.args.needs.now c.loop-b.b-index (record { 0 = 0 }) c.loop-b-test.true c.loop-b.invariant.below

pub join-requires-clause-new : goal.join-requires-clause-new
join-requires-clause-new c = λ is. head_within (passes is_out c.args.slots.now) (λ b. passes is_out c.args.slots.now b ≡ true → is_in b c.loop-b.queue.bundles ≡ false) c.args.needs.now c.loop-b.b-index (record { 0 = 0 }) c.loop-b-test.true c.loop-b.invariant.new (sym c.is_out.ensures ∙ is)

pub loop-b-preserved : goal.loop-b-preserved
loop-b-preserved c =
    let step = join_step (passes is_out c.args.slots.now) c.args.needs.now c.loop-b.b-index (record { 0 = 0 }) c.loop-b.queue.bundles c.loop-b-test.true c.loop-b.invariant.once c.loop-b.invariant.new in
    let b0 : BundleNo = get_or c.args.needs.now c.loop-b.b-index (record { 0 = 0 }) in
    let room : c.join.new.queue.room ≡ c.loop-b.queue.room = ap (λ (l : Ordered). l.room) c.join.ensures in
    let new : c.join.new.queue.bundles ≡ (if passes is_out c.args.slots.now b0 then c.loop-b.queue.bundles ++ b0 ∷ [] else c.loop-b.queue.bundles) =
    ap (λ (l : Ordered). l.bundles) c.join.ensures ∙ ap (λ t. if t then c.loop-b.queue.bundles ++ b0 ∷ [] else c.loop-b.queue.bundles) c.is_out.ensures in
    record {
      room = room ∙ c.loop-b.invariant.room;
      once = step.0;
      below = λ b in_rest. subst (λ n. b.0 < n) (sym room) (rest_within (passes is_out c.args.slots.now) (λ b. b.0 < c.loop-b.queue.room) c.args.needs.now c.loop-b.b-index (record { 0 = 0 }) c.loop-b-test.true c.loop-b.invariant.below b in_rest);
      new = λ b in_rest passed. ap (is_in b) new ∙ step.1 b in_rest passed;
      joined = ap (joined_each (passes is_out c.args.slots.now) (drop _ c.args.needs.now)) new ∙ step.2 ∙ c.loop-b.invariant.joined;
    }

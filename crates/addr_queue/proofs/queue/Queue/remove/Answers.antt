use Rattle.std.proofs.Common.{◌≡◌, ◌∙◌, ap, filter, not, eqb, List, true}
use Rattle.addr_base.specs.declared.ids.BundleNo.{BundleNo}
use Rattle.addr_queue.specs.Queue.{Ordered, is_among}
use Rattle.addr_queue.proofs.Queues.{place_next, place_prev, before_within, after_within, remove_queue, nonzero}
use Rattle.addr_queue.proofs.queue.Queue.remove.Goals as goal

there : (l : Ordered) (b : BundleNo) (k : Ordered) → k ≡ l → is_among b l.bundles ≡ true → is_among b k.bundles ≡ true
there l b k same is = ap (λ (x : Ordered). is_among b x.bundles) same ∙ is

pub index-before-requires : goal.index-before-requires
index-before-requires c = place_prev c.self.inside.room c.self.inside.len c.self.inside.next c.self.inside.prev c.self.invariant c.args.b (there c.args.self.now c.args.b _ c.self.view_is c.requires)

pub index-after-requires : goal.index-after-requires
index-after-requires c = place_next c.self.inside.room c.self.inside.len c.self.inside.next c.self.inside.prev c.self.invariant c.args.b (there c.args.self.now c.args.b _ c.self.view_is c.requires)

pub index_mut-requires : goal.index_mut-requires
index_mut-requires c = before_within c.self.inside.room c.self.inside.len c.self.inside.next c.self.inside.prev c.self.invariant c.args.b (there c.args.self.now c.args.b _ c.self.view_is c.requires) c.index-before.result.now c.index-before.ensures

pub index_mut-requires-2 : goal.index_mut-requires-2
index_mut-requires-2 c = after_within c.self.inside.room c.self.inside.len c.self.inside.next c.self.inside.prev c.self.invariant c.args.b (there c.args.self.now c.args.b _ c.self.view_is c.requires) c.index-after.result.now c.index-after.ensures

pub invariant_of-self : goal.invariant_of-self
invariant_of-self c =
    (remove_queue c.self.inside.room c.self.inside.len c.self.inside.next c.self.inside.prev c.self.invariant c.args.b (there c.args.self.now c.args.b _ c.self.view_is c.requires) c.index-before.result.now c.index-after.result.now c.index-before.ensures c.index-after.ensures).0

pub returns : goal.returns
returns c =
    ap (λ (l : List BundleNo). let k : Ordered = record { room = c.self.inside.room; bundles = l } in k)
    (remove_queue c.self.inside.room c.self.inside.len c.self.inside.next c.self.inside.prev c.self.invariant c.args.b (there c.args.self.now c.args.b _ c.self.view_is c.requires) c.index-before.result.now c.index-after.result.now c.index-before.ensures c.index-after.ensures).1
    ∙ ap (λ (l : Ordered). let k : Ordered = record { room = l.room; bundles = filter (λ (d : BundleNo). not (eqb d.0 c.args.b.0)) l.bundles } in k) c.self.view_is

pub overflow_sub-self : goal.overflow_sub-self
overflow_sub-self c = nonzero c.self.inside.room c.self.inside.len c.self.inside.next c.self.inside.prev c.self.invariant c.args.b (there c.args.self.now c.args.b _ c.self.view_is c.requires)

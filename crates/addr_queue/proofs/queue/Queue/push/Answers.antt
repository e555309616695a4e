use Rattle.std.proofs.Common.{◌≡◌, ◌<◌, ◌∙◌, sym, ap, subst, List, [], ◌∷◌, ◌++◌, false, arith}
use Rattle.addr_base.specs.declared.ids.BundleNo.{BundleNo}
use Rattle.addr_queue.specs.Queue.{Ordered, is_among}
use Rattle.addr_queue.proofs.Queues.{last_within, push_queue, fits_push}
use Rattle.addr_queue.proofs.queue.Queue.push.Goals as goal

absent : (l : Ordered) (b : BundleNo) (k : Ordered) → k ≡ l → is_among b l.bundles ≡ false → is_among b k.bundles ≡ false
absent l b k same is = ap (λ (x : Ordered). is_among b x.bundles) same ∙ is

below : (l : Ordered) (b : BundleNo) (k : Ordered) → k ≡ l → b.0 < l.room → b.0 < k.room
below l b k same is = subst (λ (x : Ordered). b.0 < x.room) (sym same) is

pub index_mut-requires : goal.index_mut-requires
index_mut-requires c = last_within c.self.inside.room c.self.inside.len c.self.inside.next c.self.inside.prev c.self.invariant c.index-last.result.now c.index-last.ensures

pub invariant_of-self : goal.invariant_of-self
invariant_of-self c =
    (push_queue c.self.inside.room c.self.inside.len c.self.inside.next c.self.inside.prev c.self.invariant c.args.b c.index-last.result.now (below c.args.self.now c.args.b _ c.self.view_is c.requires.below) (absent c.args.self.now c.args.b _ c.self.view_is c.requires.new) c.index-last.ensures).0

pub returns : goal.returns
returns c =
    ap (λ (l : List BundleNo). let k : Ordered = record { room = c.self.inside.room; bundles = l } in k)
    (push_queue c.self.inside.room c.self.inside.len c.self.inside.next c.self.inside.prev c.self.invariant c.args.b c.index-last.result.now (below c.args.self.now c.args.b _ c.self.view_is c.requires.below) (absent c.args.self.now c.args.b _ c.self.view_is c.requires.new) c.index-last.ensures).1
    ∙ ap (λ (l : Ordered). let k : Ordered = record { room = l.room; bundles = l.bundles ++ c.args.b ∷ [] } in k) c.self.view_is

pub overflow_add-self : goal.overflow_add-self
overflow_add-self c = omega (arith, fits_push c.self.inside.room c.self.inside.len c.self.inside.next c.self.inside.prev c.self.invariant c.args.b (below c.args.self.now c.args.b _ c.self.view_is c.requires.below) (absent c.args.self.now c.args.b _ c.self.view_is c.requires.new))

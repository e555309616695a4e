use Rattle.std.proofs.Common.{ap, List}
use Rattle.addr_base.specs.declared.ids.BundleNo.{BundleNo}
use Rattle.addr_queue.specs.Queue.{Ordered}
use Rattle.addr_queue.proofs.Queues.{new_queue}
use Rattle.addr_queue.proofs.queue.Queue.new.Goals as goal

pub invariant_of-result : goal.invariant_of-result
invariant_of-result c = (new_queue c.args.room c.in_ok-next.next c.in_ok-prev.prev c.in_ok-next.ensures.len c.in_ok-prev.ensures.len c.in_ok-next.ensures.items c.in_ok-prev.ensures.items).0

pub returns : goal.returns
returns c =
    ap (λ (l : List BundleNo). let k : Ordered = record { room = c.args.room; bundles = l } in k)
    (new_queue c.args.room c.in_ok-next.next c.in_ok-prev.prev c.in_ok-next.ensures.len c.in_ok-prev.ensures.len c.in_ok-next.ensures.items c.in_ok-prev.ensures.items).1

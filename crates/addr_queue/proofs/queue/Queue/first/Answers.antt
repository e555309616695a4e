use Rattle.std.proofs.Common.{◌∙◌, ap, slice_get}
use Rattle.addr_queue.specs.Queue.{Ordered}
use Rattle.addr_queue.proofs.Queues.{first_none, first_some}
use Rattle.addr_queue.proofs.queue.Queue.first.Goals as goal

pub returns-then-first-eq0 : goal.returns-then-first-eq0
returns-then-first-eq0 c =
    first_none c.self.inside.room c.self.inside.len c.self.inside.next c.self.inside.prev c.self.invariant c.index-first.result.now c.index-first.ensures c.if-first-eq0.true ∙ ap (λ (l : Ordered). slice_get l.bundles 0) c.self.view_is

pub returns-else-first-eq0 : goal.returns-else-first-eq0
returns-else-first-eq0 c =
    first_some c.self.inside.room c.self.inside.len c.self.inside.next c.self.inside.prev c.self.invariant c.index-first.result.now c.index-first.ensures c.if-first-eq0.false ∙ ap (λ (l : Ordered). slice_get l.bundles 0) c.self.view_is

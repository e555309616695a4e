use Rattle.std.proofs.Common.{◌∙◌, ap, sym, slice_get}
use Rattle.addr_core.specs.within.Courses.{waiting_lists}
use Rattle.addr_core.proofs.Answering.{references_some, references_past}
use Rattle.addr_core.proofs.machine.Core.references.Goals as goal

pub returns-in-Some : goal.returns-in-Some
returns-in-Some g c = rw (← c.self.view_is) (references_some c.self.inside.locator c.self.inside.limit c.self.inside.events.items c.self.inside.wanted.items c.self.inside.slots.items c.self.inside.courses.items (waiting_lists c.self.inside.waits.items) c.self.inside.queue c.self.inside.fetched c.self.inside.opened c.self.inside.closed c.self.invariant.holds c.args.op c.in-Some.course (sym (c.in-Some.ensures ∙ ap (λ l. slice_get l c.args.op.0) c.as_slice.ensures.value)))

pub returns-in-None : goal.returns-in-None
returns-in-None g c = rw (← c.self.view_is) (references_past c.self.inside.locator c.self.inside.limit c.self.inside.events.items c.self.inside.wanted.items c.self.inside.slots.items c.self.inside.courses.items (waiting_lists c.self.inside.waits.items) c.self.inside.queue c.self.inside.fetched c.self.inside.opened c.self.inside.closed c.self.invariant.holds c.self.invariant.journal.known.legal c.args.op (sym (c.in-None.ensures ∙ ap (λ l. slice_get l c.args.op.0) c.as_slice.ensures.value)))

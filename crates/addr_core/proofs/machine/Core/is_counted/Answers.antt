use Rattle.std.proofs.Common.{◌∙◌, ap, nat_lt}
use Rattle.addr_queue.specs.declared.slots.Slot.{Slot}
use Rattle.addr_core.specs.within.Courses.{waiting_lists}
use Rattle.addr_queue.specs.Slots.{passes}
use Rattle.addr_core.proofs.Machines.{counted_at}
use Rattle.addr_core.proofs.machine.Core.is_counted.Goals as goal

pub returns : goal.returns
returns g c =
    let by = rw (← c.self.view_is) at c.requires in
    rw (← c.self.view_is) (c.is_counted.ensures ∙ ap (λ l. passes (λ (s : Slot). nat_lt 0 s.count) l c.args.b) c.as_slice.ensures.value ∙ counted_at c.self.inside.locator c.self.inside.limit c.self.inside.events.items c.self.inside.wanted.items c.self.inside.slots.items c.self.inside.courses.items (waiting_lists c.self.inside.waits.items) c.self.inside.queue c.self.inside.fetched c.self.inside.opened c.self.inside.closed c.self.invariant.holds c.self.invariant.journal.known.sound c.self.invariant.journal.known.legal c.args.b c.args.worker by)

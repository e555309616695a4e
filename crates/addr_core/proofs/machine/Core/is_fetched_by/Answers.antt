use Rattle.std.proofs.Common.{◌∙◌, ap}
use Rattle.addr_queue.specs.declared.slots.Slot.{Slot}
use Rattle.addr_core.specs.within.Courses.{waiting_lists}
use Rattle.addr_queue.specs.Slots.{passes, is_by}
use Rattle.addr_core.proofs.Machines.{fetched_by_at}
use Rattle.addr_core.proofs.machine.Core.is_fetched_by.Goals as goal

pub returns : goal.returns
returns g c = rw (← c.self.view_is) (c.is_taken_by.ensures ∙ ap (λ l. passes (λ (s : Slot). is_by c.args.worker s.fetcher) l c.args.b) c.as_slice.ensures.value ∙ fetched_by_at c.self.inside.locator c.self.inside.limit c.self.inside.events.items c.self.inside.wanted.items c.self.inside.slots.items c.self.inside.courses.items (waiting_lists c.self.inside.waits.items) c.self.inside.queue c.self.inside.fetched c.self.inside.opened c.self.inside.closed c.self.invariant.holds c.self.invariant.journal.known.sound c.self.invariant.journal.known.legal c.args.b c.args.worker)

use Rattle.addr_core.specs.within.Courses.{waiting_lists}
use Rattle.std.proofs.Common.{true, false}
use Rattle.addr_core.proofs.Answering.{next_some, next_none}
use Rattle.addr_core.proofs.machine.Core.next.Goals as goal

pub returns-in-Some : goal.returns-in-Some
returns-in-Some g c = rw (← c.self.view_is) (next_some c.self.inside.locator c.self.inside.limit c.self.inside.events.items c.self.inside.wanted.items c.self.inside.slots.items c.self.inside.courses.items (waiting_lists c.self.inside.waits.items) c.self.inside.queue c.self.inside.fetched c.self.inside.opened c.self.inside.closed c.self.invariant.holds c.in-Some.b c.in-Some.ensures)

pub returns-then-self : goal.returns-then-self
returns-then-self g c = rw (← c.self.view_is) (next_none c.self.inside.locator c.self.inside.limit c.self.inside.events.items c.self.inside.wanted.items c.self.inside.slots.items c.self.inside.courses.items (waiting_lists c.self.inside.waits.items) c.self.inside.queue c.self.inside.fetched c.self.inside.opened c.self.inside.closed c.self.invariant.holds true c.if-self.true c.in-None.ensures)

pub returns-else-self : goal.returns-else-self
returns-else-self g c = rw (← c.self.view_is) (next_none c.self.inside.locator c.self.inside.limit c.self.inside.events.items c.self.inside.wanted.items c.self.inside.slots.items c.self.inside.courses.items (waiting_lists c.self.inside.waits.items) c.self.inside.queue c.self.inside.fetched c.self.inside.opened c.self.inside.closed c.self.invariant.holds false c.if-self.false c.in-None.ensures)

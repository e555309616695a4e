use Rattle.std.proofs.Common.{◌∙◌, ap, sym, ℕ, Option, Some, slice_get}
use Rattle.addr_history.specs.declared.answers.BundleState.{BundleState}
use Rattle.addr_core.specs.within.Courses.{waiting_lists}
use Rattle.addr_core.proofs.Answering.{count_some, count_none}
use Rattle.addr_core.proofs.machine.Core.count.Goals as goal

pub returns-in-Some : goal.returns-in-Some
returns-in-Some g c =
    rw (← c.self.view_is)
    (ap (λ (s : BundleState). let o : Option (ℕ × BundleState) = Some (c.in-Some.slot.count, s) in o) c.state.ensures
    ∙ count_some c.self.inside.locator c.self.inside.limit c.self.inside.events.items c.self.inside.wanted.items c.self.inside.slots.items c.self.inside.courses.items (waiting_lists c.self.inside.waits.items) c.self.inside.queue c.self.inside.fetched c.self.inside.opened c.self.inside.closed c.self.invariant.holds c.args.b c.in-Some.slot (sym (c.in-Some.ensures ∙ ap (λ l. slice_get l c.args.b.0) c.as_slice.ensures.value)))

pub returns-in-None : goal.returns-in-None
returns-in-None g c = rw (← c.self.view_is) (count_none c.self.inside.locator c.self.inside.limit c.self.inside.events.items c.self.inside.wanted.items c.self.inside.slots.items c.self.inside.courses.items (waiting_lists c.self.inside.waits.items) c.self.inside.queue c.self.inside.fetched c.self.inside.opened c.self.inside.closed c.self.invariant.holds c.args.b (sym (c.in-None.ensures ∙ ap (λ l. slice_get l c.args.b.0) c.as_slice.ensures.value)))

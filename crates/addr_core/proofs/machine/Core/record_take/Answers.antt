use Rattle.std.proofs.Common.{◌∙◌, ap, sym, arith, [], ◌∷◌, ◌++◌}
use Rattle.std.proofs.lemmas.List.{with_items_is}
use Rattle.std.specs.Vec.{with_items}
use Rattle.addr_history.specs.declared.event.Event.TheVariants.{Take}
use Rattle.addr_core.proofs.Advance.{journal_has_room, same_machine, same_images, quiet_stays}
use Rattle.addr_queue.specs.Changes.{change}
use Rattle.addr_core.specs.within.Courses.{waiting_lists}
use Rattle.addr_queue.specs.Slots.{taken}
use Rattle.addr_core.proofs.Machines.{first_there, fetched_fits, core_take}
use Rattle.addr_core.proofs.machine.Core.record_take.Goals as goal

pub push_within-requires : goal.push_within-requires
push_within-requires g c =
    let answer = rw (← c.self.view_is) at c.requires in
    journal_has_room g.I.Image.fits c.self.inside.locator c.self.inside.limit c.self.inside.events c.self.inside.images c.self.invariant.journal (Take c.args.b c.args.worker) answer

pub remove-requires : goal.remove-requires
remove-requires g c =
    let answer = rw (← c.self.view_is) at c.requires in
    first_there c.self.inside.locator c.self.inside.limit c.self.inside.events.items c.self.inside.wanted.items c.self.inside.slots.items c.self.inside.courses.items (waiting_lists c.self.inside.waits.items) c.self.inside.queue c.self.inside.fetched c.self.inside.opened c.self.inside.closed c.self.invariant.holds c.args.b c.args.worker answer

pub overflow_add-self : goal.overflow_add-self
overflow_add-self g c = omega (arith, fetched_fits c.self.inside.locator c.self.inside.limit c.self.inside.events.items c.self.inside.wanted.items c.self.inside.slots.items c.self.inside.courses.items (waiting_lists c.self.inside.waits.items) c.self.inside.queue c.self.inside.fetched c.self.inside.opened c.self.inside.closed c.self.invariant.holds c.self.invariant.journal.known)

pub invariant_of-self : goal.invariant_of-self
invariant_of-self g c =
    let answer = rw (← c.self.view_is) at c.requires in
    core_take g.I.Image.fits c.self.inside.locator c.self.inside.limit c.self.inside.events c.self.inside.wanted c.self.inside.images c.self.inside.slots c.self.inside.courses c.self.inside.waits c.self.inside.queue c.self.inside.fetched c.self.inside.opened c.self.inside.closed c.self.invariant c.args.b c.args.worker answer
    c.push_within.new.items c.push_within.ensures.items c.push_within.ensures.len c.push_within.ensures.room (with_items c.self.inside.slots c.take_slot.new.slots)
    (with_items_is c.self.inside.slots c.take_slot.new.slots (c.take_slot.auto.slots ∙ c.as_mut_slice.ensures.len) ∙ c.take_slot.ensures ∙ ap (change (taken c.args.worker) c.args.b.0) c.as_mut_slice.ensures.value)
    c.remove.new.self c.remove.ensures

pub returns : goal.returns
returns g c =
    let answer = rw (← c.self.view_is) at c.requires in
    rw (← c.self.view_is)
    (same_machine g.I.Image.fits c.self.inside.locator c.self.inside.limit c.push_within.new.items.items (c.self.inside.events.items ++ Take c.args.b c.args.worker ∷ []) c.self.inside.images.items _ c.push_within.ensures.items
    (sym (same_images g.I.Image.fits c.self.inside.locator c.self.inside.limit c.self.inside.events.items (c.self.inside.events.items ++ Take c.args.b c.args.worker ∷ []) c.self.inside.images.items c.self.invariant.journal.held (quiet_stays c.self.inside.locator c.self.inside.limit c.self.inside.events.items c.self.invariant.journal.known.legal (Take c.args.b c.args.worker) answer tt))))

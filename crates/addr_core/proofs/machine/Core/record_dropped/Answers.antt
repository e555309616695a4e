use Rattle.std.proofs.Common.{◌≡◌, ◌-◌, ◌∙◌, ap, sym, refl, false, [], ◌∷◌, ◌++◌}
use Rattle.std.proofs.lemmas.List.{with_items_is}
use Rattle.std.specs.Vec.{with_items}
use Rattle.addr_history.specs.declared.event.Event.TheVariants.{Done}
use Rattle.addr_history.proofs.Legality.{extend}
use Rattle.addr_core.proofs.Advance.{journal_has_room, journal_record, same_machine, same_images, quiet_stays, done_answer}
use Rattle.addr_queue.specs.Changes.{change}
use Rattle.addr_core.specs.within.Courses.{waiting_lists}
use Rattle.addr_queue.specs.Slots.{ended}
use Rattle.addr_core.proofs.Machines.{make_core, fetched_pos}
use Rattle.addr_core.proofs.Holding.{holds_dropped}
use Rattle.addr_core.proofs.machine.Core.record_dropped.Goals as goal

pub push_within-requires : goal.push_within-requires
push_within-requires g c =
    let by = rw (← c.self.view_is) at c.requires.fetched in let none = rw (← c.self.view_is) at c.requires.counted in
    journal_has_room g.I.Image.fits c.self.inside.locator c.self.inside.limit c.self.inside.events c.self.inside.images c.self.invariant.journal (Done c.args.b c.args.worker) (done_answer c.self.inside.locator c.self.inside.limit c.self.inside.events.items c.args.b c.args.worker by)

pub overflow_sub-self : goal.overflow_sub-self
overflow_sub-self g c =
    let by = rw (← c.self.view_is) at c.requires.fetched in let none = rw (← c.self.view_is) at c.requires.counted in
    fetched_pos c.self.inside.locator c.self.inside.limit c.self.inside.events.items c.self.inside.wanted.items c.self.inside.slots.items c.self.inside.courses.items (waiting_lists c.self.inside.waits.items) c.self.inside.queue c.self.inside.fetched c.self.inside.opened c.self.inside.closed c.self.invariant.holds c.self.invariant.journal.known.sound c.self.invariant.journal.known.legal c.args.b c.args.worker by

pub invariant_of-self : goal.invariant_of-self
invariant_of-self g c =
    let by = rw (← c.self.view_is) at c.requires.fetched in let none = rw (← c.self.view_is) at c.requires.counted in
    let answer = done_answer c.self.inside.locator c.self.inside.limit c.self.inside.events.items c.args.b c.args.worker by in
    let legal = extend c.self.inside.locator c.self.inside.limit c.self.inside.events.items (Done c.args.b c.args.worker) c.self.invariant.journal.known.legal answer in
    let slots : (with_items c.self.inside.slots c.end_slot.new.slots).items ≡ change (ended false) c.args.b.0 c.self.inside.slots.items =
    with_items_is c.self.inside.slots c.end_slot.new.slots (c.end_slot.auto.slots ∙ c.as_mut_slice.ensures.len) ∙ c.end_slot.ensures ∙ ap (change (ended false) c.args.b.0) c.as_mut_slice.ensures.value in
    make_core g.I.Image.fits c.self.inside.locator c.self.inside.limit c.push_within.new.items c.self.inside.wanted c.self.inside.images (with_items c.self.inside.slots c.end_slot.new.slots) c.self.inside.courses c.self.inside.waits c.self.inside.queue (c.self.inside.fetched - 1) c.self.inside.opened c.self.inside.closed
    (journal_record g.I.Image.fits c.self.inside.locator c.self.inside.limit c.self.inside.events c.self.inside.images c.self.invariant.journal (Done c.args.b c.args.worker) answer none c.push_within.new.items c.push_within.ensures.items c.push_within.ensures.len c.push_within.ensures.room)
    (c.self.inside.events.items ++ Done c.args.b c.args.worker ∷ []) c.push_within.ensures.items c.self.inside.wanted.items refl
    (change (ended false) c.args.b.0 c.self.inside.slots.items) slots c.self.inside.courses.items refl (waiting_lists c.self.inside.waits.items) refl c.self.inside.queue refl
    (holds_dropped c.self.inside.locator c.self.inside.limit c.self.inside.events.items c.self.inside.wanted.items c.self.inside.slots.items c.self.inside.courses.items (waiting_lists c.self.inside.waits.items) c.self.inside.queue c.self.inside.fetched c.self.inside.opened c.self.inside.closed c.self.invariant.holds c.self.invariant.journal.known.sound c.args.b c.args.worker legal none)
    c.self.invariant.rooms

pub returns : goal.returns
returns g c =
    let by = rw (← c.self.view_is) at c.requires.fetched in let none = rw (← c.self.view_is) at c.requires.counted in
    let answer = done_answer c.self.inside.locator c.self.inside.limit c.self.inside.events.items c.args.b c.args.worker by in
    rw (← c.self.view_is)
    (same_machine g.I.Image.fits c.self.inside.locator c.self.inside.limit c.push_within.new.items.items (c.self.inside.events.items ++ Done c.args.b c.args.worker ∷ []) c.self.inside.images.items _ c.push_within.ensures.items
    (sym (same_images g.I.Image.fits c.self.inside.locator c.self.inside.limit c.self.inside.events.items (c.self.inside.events.items ++ Done c.args.b c.args.worker ∷ []) c.self.inside.images.items c.self.invariant.journal.held (quiet_stays c.self.inside.locator c.self.inside.limit c.self.inside.events.items c.self.invariant.journal.known.legal (Done c.args.b c.args.worker) answer none))))

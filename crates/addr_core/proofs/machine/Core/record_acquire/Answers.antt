use Rattle.std.proofs.Common.{◌≡◌, ℕ, ◌+◌, ◌-◌, ◌∙◌, ap, sym, refl, true, Ok, [], ◌∷◌, ◌++◌, arith}
use Rattle.std.proofs.lemmas.List.{with_items_is}
use Rattle.std.specs.Vec.{with_items}
use Rattle.addr_history.specs.declared.event.Event.TheVariants.{Acquire}
use Rattle.addr_history.proofs.Legality.{extend}
use Rattle.addr_core.proofs.Advance.{journal_has_room, journal_record, same_machine, same_images, quiet_stays, acquire_answer}
use Rattle.addr_queue.specs.Changes.{change}
use Rattle.addr_core.specs.within.Courses.{waiting_lists, acquired}
use Rattle.addr_core.proofs.Machines.{make_core, opens_fits}
use Rattle.addr_core.proofs.Holding.{holds_acquire}
use Rattle.addr_core.proofs.machine.Core.record_acquire.Goals as goal

pub push_within-requires : goal.push_within-requires
push_within-requires g c =
    let is = rw (← c.self.view_is) at c.requires in
    journal_has_room g.I.Image.fits c.self.inside.locator c.self.inside.limit c.self.inside.events c.self.inside.images c.self.invariant.journal (Acquire c.args.op c.args.caller) (acquire_answer c.self.inside.locator c.self.inside.limit c.self.inside.events.items c.args.op c.args.caller is)

pub overflow_add-self : goal.overflow_add-self
overflow_add-self g c =
    let is = rw (← c.self.view_is) at c.requires in
    omega (arith, opens_fits c.self.inside.locator c.self.inside.limit c.self.inside.events.items c.self.inside.wanted.items c.self.inside.slots.items c.self.inside.courses.items (waiting_lists c.self.inside.waits.items) c.self.inside.queue c.self.inside.fetched c.self.inside.opened c.self.inside.closed c.self.invariant.holds c.self.invariant.journal.known)

pub invariant_of-self : goal.invariant_of-self
invariant_of-self g c =
    let is = rw (← c.self.view_is) at c.requires in
    let answer = acquire_answer c.self.inside.locator c.self.inside.limit c.self.inside.events.items c.args.op c.args.caller is in
    let e = Acquire c.args.op c.args.caller in
    let courses : (with_items c.self.inside.courses c.acquire.new.courses).items ≡ change acquired c.args.op.0 c.self.inside.courses.items =
    with_items_is c.self.inside.courses c.acquire.new.courses (c.acquire.auto.courses ∙ c.as_mut_slice.ensures.len) ∙ c.acquire.ensures ∙ ap (change acquired c.args.op.0) c.as_mut_slice.ensures.value in
    make_core g.I.Image.fits c.self.inside.locator c.self.inside.limit c.push_within.new.items c.self.inside.wanted c.self.inside.images c.self.inside.slots (with_items c.self.inside.courses c.acquire.new.courses) c.self.inside.waits c.self.inside.queue c.self.inside.fetched (c.self.inside.opened + 1) c.self.inside.closed
    (journal_record g.I.Image.fits c.self.inside.locator c.self.inside.limit c.self.inside.events c.self.inside.images c.self.invariant.journal e answer tt c.push_within.new.items c.push_within.ensures.items c.push_within.ensures.len c.push_within.ensures.room)
    (c.self.inside.events.items ++ e ∷ []) c.push_within.ensures.items c.self.inside.wanted.items refl
    c.self.inside.slots.items refl (change acquired c.args.op.0 c.self.inside.courses.items) courses (waiting_lists c.self.inside.waits.items) refl c.self.inside.queue refl
    (holds_acquire c.self.inside.locator c.self.inside.limit c.self.inside.events.items c.self.inside.wanted.items c.self.inside.slots.items c.self.inside.courses.items (waiting_lists c.self.inside.waits.items) c.self.inside.queue c.self.inside.fetched c.self.inside.opened c.self.inside.closed c.self.invariant.holds c.args.op c.args.caller c.self.invariant.journal.known.short (extend c.self.inside.locator c.self.inside.limit c.self.inside.events.items e c.self.invariant.journal.known.legal answer))
    c.self.invariant.rooms

pub returns : goal.returns
returns g c =
    let is = rw (← c.self.view_is) at c.requires in
    let answer = acquire_answer c.self.inside.locator c.self.inside.limit c.self.inside.events.items c.args.op c.args.caller is in
    let e = Acquire c.args.op c.args.caller in
    rw (← c.self.view_is)
    (same_machine g.I.Image.fits c.self.inside.locator c.self.inside.limit c.push_within.new.items.items (c.self.inside.events.items ++ e ∷ []) c.self.inside.images.items _ c.push_within.ensures.items
    (sym (same_images g.I.Image.fits c.self.inside.locator c.self.inside.limit c.self.inside.events.items (c.self.inside.events.items ++ e ∷ []) c.self.inside.images.items c.self.invariant.journal.held (quiet_stays c.self.inside.locator c.self.inside.limit c.self.inside.events.items c.self.invariant.journal.known.legal e answer tt))))

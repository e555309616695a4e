use Rattle.std.proofs.Common.{sym, refl, true, [], ◌∷◌, ◌++◌}
use Rattle.addr_history.specs.declared.event.Event.TheVariants.{Close}
use Rattle.addr_history.proofs.Legality.{extend}
use Rattle.addr_core.proofs.Advance.{journal_has_room, journal_record, same_machine, same_images, quiet_stays}
use Rattle.addr_core.specs.within.Courses.{waiting_lists}
use Rattle.addr_core.proofs.Machines.{make_core, close_answer}
use Rattle.addr_core.proofs.Holding.{holds_close}
use Rattle.addr_core.proofs.machine.Core.record_close.Goals as goal

pub push_within-requires : goal.push_within-requires
push_within-requires g c =
    let is = rw (← c.self.view_is) at c.requires in
    journal_has_room g.I.Image.fits c.self.inside.locator c.self.inside.limit c.self.inside.events c.self.inside.images c.self.invariant.journal Close (close_answer c.self.inside.locator c.self.inside.limit c.self.inside.events.items is)

pub invariant_of-self : goal.invariant_of-self
invariant_of-self g c =
    let is = rw (← c.self.view_is) at c.requires in
    let answer = close_answer c.self.inside.locator c.self.inside.limit c.self.inside.events.items is in
    make_core g.I.Image.fits c.self.inside.locator c.self.inside.limit c.push_within.new.items c.self.inside.wanted c.self.inside.images c.self.inside.slots c.self.inside.courses c.self.inside.waits c.self.inside.queue c.self.inside.fetched c.self.inside.opened true
    (journal_record g.I.Image.fits c.self.inside.locator c.self.inside.limit c.self.inside.events c.self.inside.images c.self.invariant.journal Close answer tt c.push_within.new.items c.push_within.ensures.items c.push_within.ensures.len c.push_within.ensures.room)
    (c.self.inside.events.items ++ Close ∷ []) c.push_within.ensures.items c.self.inside.wanted.items refl
    c.self.inside.slots.items refl c.self.inside.courses.items refl (waiting_lists c.self.inside.waits.items) refl c.self.inside.queue refl
    (holds_close c.self.inside.locator c.self.inside.limit c.self.inside.events.items c.self.inside.wanted.items c.self.inside.slots.items c.self.inside.courses.items (waiting_lists c.self.inside.waits.items) c.self.inside.queue c.self.inside.fetched c.self.inside.opened c.self.inside.closed c.self.invariant.holds (extend c.self.inside.locator c.self.inside.limit c.self.inside.events.items Close c.self.invariant.journal.known.legal answer))
    c.self.invariant.rooms

pub returns : goal.returns
returns g c =
    let is = rw (← c.self.view_is) at c.requires in
    let answer = close_answer c.self.inside.locator c.self.inside.limit c.self.inside.events.items is in
    rw (← c.self.view_is)
    (same_machine g.I.Image.fits c.self.inside.locator c.self.inside.limit c.push_within.new.items.items (c.self.inside.events.items ++ Close ∷ []) c.self.inside.images.items _ c.push_within.ensures.items
    (sym (same_images g.I.Image.fits c.self.inside.locator c.self.inside.limit c.self.inside.events.items (c.self.inside.events.items ++ Close ∷ []) c.self.inside.images.items c.self.invariant.journal.held (quiet_stays c.self.inside.locator c.self.inside.limit c.self.inside.events.items c.self.invariant.journal.known.legal Close answer tt))))

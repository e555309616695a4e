use Rattle.std.proofs.Common.{◌≡◌, ℕ, ◌+◌, ◌-◌, ◌∙◌, ap, sym, refl, true, Ok, [], ◌∷◌, ◌++◌, arith}
use Rattle.std.proofs.lemmas.List.{with_items_is}
use Rattle.std.specs.Vec.{with_items}
use Rattle.addr_history.specs.declared.event.Event.TheVariants.{Release}
use Rattle.addr_history.proofs.Legality.{extend}
use Rattle.addr_core.proofs.Advance.{journal_has_room, journal_record, same_machine, same_images, quiet_stays, release_answer}
use Rattle.addr_queue.specs.Changes.{change}
use Rattle.addr_core.specs.within.Courses.{waiting_lists, given_back}
use Rattle.addr_core.proofs.Machines.{make_core, opens_pos}
use Rattle.addr_core.proofs.Holding.{holds_given}
use Rattle.addr_core.proofs.Answering.{open_more}
use Rattle.addr_core.proofs.machine.Core.record_release.Goals as goal

pub push_within-requires : goal.push_within-requires
push_within-requires g c =
    let is = rw (← c.self.view_is) at c.requires in
    journal_has_room g.I.Image.fits c.self.inside.locator c.self.inside.limit c.self.inside.events c.self.inside.images c.self.invariant.journal (Release c.args.op c.args.caller) (release_answer c.self.inside.locator c.self.inside.limit c.self.inside.events.items c.args.op c.args.caller (open_more c.self.inside.events.items c.args.op is))

pub overflow_sub-self : goal.overflow_sub-self
overflow_sub-self g c =
    let is = rw (← c.self.view_is) at c.requires in
    opens_pos c.self.inside.locator c.self.inside.limit c.self.inside.events.items c.self.inside.wanted.items c.self.inside.slots.items c.self.inside.courses.items (waiting_lists c.self.inside.waits.items) c.self.inside.queue c.self.inside.fetched c.self.inside.opened c.self.inside.closed c.self.invariant.holds c.self.invariant.journal.known.sound c.self.invariant.journal.known.legal c.args.op c.args.caller (open_more c.self.inside.events.items c.args.op is)

pub invariant_of-self : goal.invariant_of-self
invariant_of-self g c =
    let is = rw (← c.self.view_is) at c.requires in
    let answer = release_answer c.self.inside.locator c.self.inside.limit c.self.inside.events.items c.args.op c.args.caller (open_more c.self.inside.events.items c.args.op is) in
    let e = Release c.args.op c.args.caller in
    let courses : (with_items c.self.inside.courses c.give_back.new.courses).items ≡ change given_back c.args.op.0 c.self.inside.courses.items =
    with_items_is c.self.inside.courses c.give_back.new.courses (c.give_back.auto.courses ∙ c.as_mut_slice.ensures.len) ∙ c.give_back.ensures ∙ ap (change given_back c.args.op.0) c.as_mut_slice.ensures.value in
    make_core g.I.Image.fits c.self.inside.locator c.self.inside.limit c.push_within.new.items c.self.inside.wanted c.self.inside.images c.self.inside.slots (with_items c.self.inside.courses c.give_back.new.courses) c.self.inside.waits c.self.inside.queue c.self.inside.fetched (c.self.inside.opened - 1) c.self.inside.closed
    (journal_record g.I.Image.fits c.self.inside.locator c.self.inside.limit c.self.inside.events c.self.inside.images c.self.invariant.journal e answer is c.push_within.new.items c.push_within.ensures.items c.push_within.ensures.len c.push_within.ensures.room)
    (c.self.inside.events.items ++ e ∷ []) c.push_within.ensures.items c.self.inside.wanted.items refl
    c.self.inside.slots.items refl (change given_back c.args.op.0 c.self.inside.courses.items) courses (waiting_lists c.self.inside.waits.items) refl c.self.inside.queue refl
    (holds_given c.self.inside.locator c.self.inside.limit c.self.inside.events.items c.self.inside.wanted.items c.self.inside.slots.items c.self.inside.courses.items (waiting_lists c.self.inside.waits.items) c.self.inside.queue c.self.inside.fetched c.self.inside.opened c.self.inside.closed c.self.invariant.holds c.args.op c.args.caller (extend c.self.inside.locator c.self.inside.limit c.self.inside.events.items e c.self.invariant.journal.known.legal answer) is)
    c.self.invariant.rooms

pub returns : goal.returns
returns g c =
    let is = rw (← c.self.view_is) at c.requires in
    let answer = release_answer c.self.inside.locator c.self.inside.limit c.self.inside.events.items c.args.op c.args.caller (open_more c.self.inside.events.items c.args.op is) in
    let e = Release c.args.op c.args.caller in
    rw (← c.self.view_is)
    (same_machine g.I.Image.fits c.self.inside.locator c.self.inside.limit c.push_within.new.items.items (c.self.inside.events.items ++ e ∷ []) c.self.inside.images.items _ c.push_within.ensures.items
    (sym (same_images g.I.Image.fits c.self.inside.locator c.self.inside.limit c.self.inside.events.items (c.self.inside.events.items ++ e ∷ []) c.self.inside.images.items c.self.invariant.journal.held (quiet_stays c.self.inside.locator c.self.inside.limit c.self.inside.events.items c.self.invariant.journal.known.legal e answer is))))

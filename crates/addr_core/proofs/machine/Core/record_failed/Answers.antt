use Rattle.std.proofs.Common.{◌≡◌, ◌-◌, ◌∙◌, ap, sym, refl, false, ℕ, List, [], ◌∷◌, ◌++◌, set, slice_get}
use Rattle.std.proofs.lemmas.List.{with_items_is}
use Rattle.std.specs.Vec.{with_items}
use Rattle.addr_history.specs.declared.answers.OpStatus.TheVariants.{Failed}
use Rattle.addr_history.specs.declared.event.Event.TheVariants.{Fail}
use Rattle.addr_history.proofs.Legality.{extend}
use Rattle.addr_core.proofs.Advance.{journal_has_room, journal_record, same_machine, same_images, quiet_stays}
use Rattle.addr_queue.specs.Changes.{change, change_each}
use Rattle.addr_core.specs.within.Courses.{Waiting, waiting_lists, failed_by}
use Rattle.addr_queue.specs.Slots.{ended}
use Rattle.addr_core.proofs.Machines.{make_core, fail_answer, fetched_pos, list_there}
use Rattle.addr_core.proofs.Holding.{holds_fail}
use Rattle.addr_core.proofs.machine.Core.record_failed.Goals as goal

pub push_within-requires : goal.push_within-requires
push_within-requires g c =
    let by = rw (← c.self.view_is) at c.requires in
    journal_has_room g.I.Image.fits c.self.inside.locator c.self.inside.limit c.self.inside.events c.self.inside.images c.self.invariant.journal (Fail c.args.b c.args.worker c.args.cause) (fail_answer c.self.inside.locator c.self.inside.limit c.self.inside.events.items c.args.b c.args.worker c.args.cause by)

pub overflow_sub-self : goal.overflow_sub-self
overflow_sub-self g c =
    let by = rw (← c.self.view_is) at c.requires in
    fetched_pos c.self.inside.locator c.self.inside.limit c.self.inside.events.items c.self.inside.wanted.items c.self.inside.slots.items c.self.inside.courses.items (waiting_lists c.self.inside.waits.items) c.self.inside.queue c.self.inside.fetched c.self.inside.opened c.self.inside.closed c.self.invariant.holds c.self.invariant.journal.known.sound c.self.invariant.journal.known.legal c.args.b c.args.worker by

pub invariant_of-self : goal.invariant_of-self
invariant_of-self g c =
    let by = rw (← c.self.view_is) at c.requires in
    let answer = fail_answer c.self.inside.locator c.self.inside.limit c.self.inside.events.items c.args.b c.args.worker c.args.cause by in
    let legal = extend c.self.inside.locator c.self.inside.limit c.self.inside.events.items (Fail c.args.b c.args.worker c.args.cause) c.self.invariant.journal.known.legal answer in
    let slots : (with_items c.self.inside.slots c.end_slot.new.slots).items ≡ change (ended false) c.args.b.0 c.self.inside.slots.items =
    with_items_is c.self.inside.slots c.end_slot.new.slots (c.end_slot.auto.slots ∙ c.as_mut_slice.ensures.len) ∙ c.end_slot.ensures ∙ ap (change (ended false) c.args.b.0) c.as_mut_slice.ensures.value in
    let there = list_there c.self.inside.locator c.self.inside.limit c.self.inside.events.items c.self.inside.wanted.items c.self.inside.slots.items c.self.inside.courses.items (waiting_lists c.self.inside.waits.items) c.self.inside.queue c.self.inside.fetched c.self.inside.opened c.self.inside.closed c.self.invariant.holds c.self.invariant.journal.known.sound c.self.invariant.journal.known.legal c.args.b c.args.worker by in
    let ops : c.waiting.result.now ≡ there.0 = c.waiting.ensures there.0 (ap (λ (l : List Waiting). slice_get (waiting_lists l) c.args.b.0) c.as_slice.ensures.value ∙ there.1) in
    let courses : (with_items c.self.inside.courses c.fail_each.new.courses).items ≡ change_each (failed_by (Failed c.args.b c.args.cause)) there.0 c.self.inside.courses.items =
    with_items_is c.self.inside.courses c.fail_each.new.courses (c.fail_each.auto.courses ∙ c.as_mut_slice-2.ensures.len) ∙ c.fail_each.ensures ∙ ap (change_each (failed_by (Failed c.args.b c.args.cause)) c.waiting.result.now) c.as_mut_slice-2.ensures.value ∙ ap (λ (l : List ℕ). change_each (failed_by (Failed c.args.b c.args.cause)) l c.self.inside.courses.items) ops in
    let lists : waiting_lists (with_items c.self.inside.waits c.clear_waiters.new.waits).items ≡ set (waiting_lists c.self.inside.waits.items) c.args.b.0 [] =
    ap waiting_lists (with_items_is c.self.inside.waits c.clear_waiters.new.waits (c.clear_waiters.auto.waits ∙ c.as_mut_slice-3.ensures.len)) ∙ c.clear_waiters.ensures ∙ ap (λ (l : List Waiting). set (waiting_lists l) c.args.b.0 []) c.as_mut_slice-3.ensures.value in
    make_core g.I.Image.fits c.self.inside.locator c.self.inside.limit c.push_within.new.items c.self.inside.wanted c.self.inside.images (with_items c.self.inside.slots c.end_slot.new.slots) (with_items c.self.inside.courses c.fail_each.new.courses) (with_items c.self.inside.waits c.clear_waiters.new.waits) c.self.inside.queue (c.self.inside.fetched - 1) c.self.inside.opened c.self.inside.closed
    (journal_record g.I.Image.fits c.self.inside.locator c.self.inside.limit c.self.inside.events c.self.inside.images c.self.invariant.journal (Fail c.args.b c.args.worker c.args.cause) answer tt c.push_within.new.items c.push_within.ensures.items c.push_within.ensures.len c.push_within.ensures.room)
    (c.self.inside.events.items ++ Fail c.args.b c.args.worker c.args.cause ∷ []) c.push_within.ensures.items c.self.inside.wanted.items refl
    (change (ended false) c.args.b.0 c.self.inside.slots.items) slots (change_each (failed_by (Failed c.args.b c.args.cause)) there.0 c.self.inside.courses.items) courses (set (waiting_lists c.self.inside.waits.items) c.args.b.0 []) lists c.self.inside.queue refl
    (holds_fail c.self.inside.locator c.self.inside.limit c.self.inside.events.items c.self.inside.wanted.items c.self.inside.slots.items c.self.inside.courses.items (waiting_lists c.self.inside.waits.items) c.self.inside.queue c.self.inside.fetched c.self.inside.opened c.self.inside.closed c.self.invariant.holds c.self.invariant.journal.known.sound c.args.b c.args.worker c.args.cause legal there.0 there.1)
    c.self.invariant.rooms

pub returns : goal.returns
returns g c =
    let by = rw (← c.self.view_is) at c.requires in
    let answer = fail_answer c.self.inside.locator c.self.inside.limit c.self.inside.events.items c.args.b c.args.worker c.args.cause by in
    rw (← c.self.view_is)
    (same_machine g.I.Image.fits c.self.inside.locator c.self.inside.limit c.push_within.new.items.items (c.self.inside.events.items ++ Fail c.args.b c.args.worker c.args.cause ∷ []) c.self.inside.images.items _ c.push_within.ensures.items
    (sym (same_images g.I.Image.fits c.self.inside.locator c.self.inside.limit c.self.inside.events.items (c.self.inside.events.items ++ Fail c.args.b c.args.worker c.args.cause ∷ []) c.self.inside.images.items c.self.invariant.journal.held (quiet_stays c.self.inside.locator c.self.inside.limit c.self.inside.events.items c.self.invariant.journal.known.legal (Fail c.args.b c.args.worker c.args.cause) answer tt))))

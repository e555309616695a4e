use Rattle.std.proofs.Common.{◌≡◌, ◌-◌, ◌∙◌, ap, sym, subst, refl, true, ℕ, List, [], ◌∷◌, ◌++◌, Option, Some, set, slice_get}
use Rattle.std.proofs.lemmas.List.{with_items_is}
use Rattle.std.specs.Vec.{with_items}
use Rattle.addr_history.specs.declared.event.Event.TheVariants.{Done}
use Rattle.addr_history.proofs.Legality.{extend}
use Rattle.addr_core.specs.Machine.{HasImages, ImagesFit}
use Rattle.addr_core.proofs.Advance.{journal_has_room, journal_push, same_machine, done_answer, kept_held, kept_images, set_fit, machine}
use Rattle.addr_queue.specs.Changes.{change, change_each}
use Rattle.addr_core.specs.within.Courses.{Waiting, waiting_lists, woken}
use Rattle.addr_queue.specs.Slots.{ended}
use Rattle.addr_core.proofs.Machines.{make_core, fetched_pos, list_there}
use Rattle.addr_core.proofs.Holding.{holds_kept}
use Rattle.addr_core.proofs.machine.Core.keep.Goals as goal

pub push_within-requires : goal.push_within-requires
push_within-requires g c =
    let by = rw (← c.self.view_is) at c.requires.fetched in
    journal_has_room g.I.Image.fits c.self.inside.locator c.self.inside.limit c.self.inside.events c.self.inside.images c.self.invariant.journal (Done c.args.b c.args.worker) (done_answer c.self.inside.locator c.self.inside.limit c.self.inside.events.items c.args.b c.args.worker by)

pub overflow_sub-self : goal.overflow_sub-self
overflow_sub-self g c =
    let by = rw (← c.self.view_is) at c.requires.fetched in
    fetched_pos c.self.inside.locator c.self.inside.limit c.self.inside.events.items c.self.inside.wanted.items c.self.inside.slots.items c.self.inside.courses.items (waiting_lists c.self.inside.waits.items) c.self.inside.queue c.self.inside.fetched c.self.inside.opened c.self.inside.closed c.self.invariant.holds c.self.invariant.journal.known.sound c.self.invariant.journal.known.legal c.args.b c.args.worker by

pub invariant_of-self : goal.invariant_of-self
invariant_of-self g c =
    let rows = c.self.inside.locator in
    let limit = c.self.inside.limit in
    let h = c.self.inside.events.items in
    let images = c.self.inside.images.items in
    let e = Done c.args.b c.args.worker in
    let by = rw (← c.self.view_is) at c.requires.fetched in
    let counted = rw (← c.self.view_is) at c.requires.counted in
    let fitting = rw (← c.self.view_is) at c.requires.fitting in
    let answer = done_answer rows limit h c.args.b c.args.worker by in
    let legal = extend rows limit h e c.self.invariant.journal.known.legal answer in
    let filled : (with_items c.self.inside.images c.put.new.images).items ≡ set images c.args.b.0 (Some c.args.image) =
    with_items_is c.self.inside.images c.put.new.images (c.put.auto.images ∙ c.as_mut_slice.ensures.len)
    ∙ c.put.ensures
    ∙ ap (λ (l : List (Option _)). set l c.args.b.0 (Some c.args.image)) c.as_mut_slice.ensures.value in
    let slots : (with_items c.self.inside.slots c.end_slot.new.slots).items ≡ change (ended true) c.args.b.0 c.self.inside.slots.items =
    with_items_is c.self.inside.slots c.end_slot.new.slots (c.end_slot.auto.slots ∙ c.as_mut_slice-2.ensures.len) ∙ c.end_slot.ensures ∙ ap (change (ended true) c.args.b.0) c.as_mut_slice-2.ensures.value in
    let there = list_there c.self.inside.locator c.self.inside.limit c.self.inside.events.items c.self.inside.wanted.items c.self.inside.slots.items c.self.inside.courses.items (waiting_lists c.self.inside.waits.items) c.self.inside.queue c.self.inside.fetched c.self.inside.opened c.self.inside.closed c.self.invariant.holds c.self.invariant.journal.known.sound c.self.invariant.journal.known.legal c.args.b c.args.worker by in
    let ops : c.waiting.result.now ≡ there.0 = c.waiting.ensures there.0 (ap (λ (l : List Waiting). slice_get (waiting_lists l) c.args.b.0) c.as_slice.ensures.value ∙ there.1) in
    let courses : (with_items c.self.inside.courses c.wake_each.new.courses).items ≡ change_each (woken) there.0 c.self.inside.courses.items =
    with_items_is c.self.inside.courses c.wake_each.new.courses (c.wake_each.auto.courses ∙ c.as_mut_slice-3.ensures.len) ∙ c.wake_each.ensures ∙ ap (change_each (woken) c.waiting.result.now) c.as_mut_slice-3.ensures.value ∙ ap (λ (l : List ℕ). change_each (woken) l c.self.inside.courses.items) ops in
    let lists : waiting_lists (with_items c.self.inside.waits c.clear_waiters.new.waits).items ≡ set (waiting_lists c.self.inside.waits.items) c.args.b.0 [] =
    ap waiting_lists (with_items_is c.self.inside.waits c.clear_waiters.new.waits (c.clear_waiters.auto.waits ∙ c.as_mut_slice-4.ensures.len)) ∙ c.clear_waiters.ensures ∙ ap (λ (l : List Waiting). set (waiting_lists l) c.args.b.0 []) c.as_mut_slice-4.ensures.value in
    make_core g.I.Image.fits rows limit c.push_within.new.items c.self.inside.wanted (with_items c.self.inside.images c.put.new.images) (with_items c.self.inside.slots c.end_slot.new.slots) (with_items c.self.inside.courses c.wake_each.new.courses) (with_items c.self.inside.waits c.clear_waiters.new.waits) c.self.inside.queue (c.self.inside.fetched - 1) c.self.inside.opened c.self.inside.closed
    (journal_push g.I.Image.fits c.self.inside.locator c.self.inside.limit c.self.inside.events c.self.inside.images c.self.invariant.journal e answer c.push_within.new.items c.push_within.ensures.items c.push_within.ensures.len c.push_within.ensures.room (with_items c.self.inside.images c.put.new.images)
    (subst (λ (l : List (Option _)). HasImages (machine g.I.Image.fits rows limit (h ++ e ∷ []) l)) (sym filled) (kept_held g.I.Image.fits rows limit h images c.self.invariant.journal.known.legal c.args.b c.args.worker c.args.image answer counted c.self.invariant.journal.held))
    (subst (λ (l : List (Option _)). ImagesFit g.I.Image.fits (machine g.I.Image.fits rows limit (h ++ e ∷ []) l)) (sym filled) (set_fit g.I.Image.fits rows limit h (h ++ e ∷ []) images c.args.b.0 c.args.image fitting c.self.invariant.journal.fitting)))
    (h ++ e ∷ []) c.push_within.ensures.items c.self.inside.wanted.items refl
    (change (ended true) c.args.b.0 c.self.inside.slots.items) slots (change_each woken there.0 c.self.inside.courses.items) courses (set (waiting_lists c.self.inside.waits.items) c.args.b.0 []) lists c.self.inside.queue refl
    (holds_kept c.self.inside.locator c.self.inside.limit c.self.inside.events.items c.self.inside.wanted.items c.self.inside.slots.items c.self.inside.courses.items (waiting_lists c.self.inside.waits.items) c.self.inside.queue c.self.inside.fetched c.self.inside.opened c.self.inside.closed c.self.invariant.holds c.self.invariant.journal.known.sound c.args.b c.args.worker legal counted there.0 there.1)
    c.self.invariant.rooms

pub returns : goal.returns
returns g c =
    let rows = c.self.inside.locator in
    let limit = c.self.inside.limit in
    let h = c.self.inside.events.items in
    let images = c.self.inside.images.items in
    let e = Done c.args.b c.args.worker in
    let by = rw (← c.self.view_is) at c.requires.fetched in
    let answer = done_answer rows limit h c.args.b c.args.worker by in
    let filled : (with_items c.self.inside.images c.put.new.images).items ≡ set images c.args.b.0 (Some c.args.image) =
    with_items_is c.self.inside.images c.put.new.images (c.put.auto.images ∙ c.as_mut_slice.ensures.len)
    ∙ c.put.ensures
    ∙ ap (λ (l : List (Option _)). set l c.args.b.0 (Some c.args.image)) c.as_mut_slice.ensures.value in
    rw (← c.self.view_is)
    (same_machine g.I.Image.fits rows limit c.push_within.new.items.items (h ++ e ∷ []) (with_items c.self.inside.images c.put.new.images).items _ c.push_within.ensures.items
    (filled ∙ ap (λ (l : List (Option _)). set l c.args.b.0 (Some c.args.image)) (sym (kept_images g.I.Image.fits rows limit h images c.self.invariant.journal.known.legal c.args.b c.args.worker answer c.self.invariant.journal.held))))

use Rattle.std.proofs.Common.{set, ◌≡◌, ◌-◌, ◌∙◌, ap, sym, subst, refl, true, None, List, [], ◌∷◌, ◌++◌, Option, map}
use Rattle.std.proofs.lemmas.List.{with_items_is}
use Rattle.std.specs.Vec.{with_items}
use Rattle.addr_base.specs.declared.ids.BundleNo.{BundleNo}
use Rattle.addr_history.specs.declared.event.Event.TheVariants.{Release}
use Rattle.addr_history.proofs.Legality.{extend}
use Rattle.addr_core.specs.Machine.{HasImages, ImagesFit}
use Rattle.addr_core.proofs.Advance.{journal_has_room, journal_push, same_machine, release_answer, machine}
use Rattle.addr_queue.specs.Changes.{change, change_each}
use Rattle.addr_queue.specs.declared.slots.Slot.{Slot}
use Rattle.addr_core.specs.within.Courses.{Waiting, waiting_lists, given_back}
use Rattle.addr_queue.specs.Slots.{passes, leaves, is_missing, is_idle, let_go}
use Rattle.addr_core.proofs.Machines.{make_core, opens_pos}
use Rattle.addr_core.proofs.Holding.{holds_release, leaves_there}
use Rattle.addr_core.specs.within.Wanting.{nothing, wanted_at}
use Rattle.addr_history.specs.Counts.{needs_of_op}
use Rattle.addr_core.specs.Machine.{images_left}
use Rattle.addr_history.proofs.CountSteps.{was_resident}
use Rattle.addr_core.proofs.Advance.{images_length, left_held, left_fit}
use Rattle.addr_core.proofs.WantedSteps.{wanted_are}
use Rattle.addr_locate.specs.Rows.{no_repeats}
use Rattle.addr_queue.specs.Queue.{Ordered}
use Rattle.addr_queue.specs.Slots.{left_each}
use Rattle.addr_queue.specs.Changes.{cleared_each}
use Rattle.addr_history.proofs.StatusSteps.{op_needs_once}
use Rattle.addr_core.proofs.Clearing.{released_images}
use Rattle.addr_core.proofs.HeldImages.{images_held}
use Rattle.addr_core.specs.declared.wanted.Wanted.{Wanted}
use Rattle.addr_core.proofs.machine.Core.let_go.Goals as goal

pub push_within-requires : goal.push_within-requires
push_within-requires g c =
    let is = rw (← c.self.view_is) at c.requires.unreleased in
    journal_has_room g.I.Image.fits c.self.inside.locator c.self.inside.limit c.self.inside.events c.self.inside.images c.self.invariant.journal (Release c.args.op c.args.caller) (release_answer c.self.inside.locator c.self.inside.limit c.self.inside.events.items c.args.op c.args.caller is)

pub leave_each-requires-clause-once : goal.leave_each-requires-clause-once
leave_each-requires-clause-once g c =
    let is = rw (← c.self.view_is) at c.requires.unreleased in
    let needs : c.as_slice-bundles.result.now ≡ needs_of_op c.self.inside.locator c.self.inside.events.items c.args.op =
    c.as_slice-bundles.ensures ∙ ap (λ (w : Wanted). w.needs) (c.take_wanted-wanted.ensures.taken ∙ ap (λ (l : List Wanted). wanted_at l c.args.op) c.as_mut_slice.ensures.value
    ∙ wanted_are c.self.inside.locator c.self.inside.limit c.self.inside.events.items c.self.invariant.journal.known.legal c.self.inside.wanted.items c.self.invariant.holds.are_wanted c.args.op is) in
    let once : no_repeats c.as_slice-bundles.result.now ≡ true = ap no_repeats needs ∙ op_needs_once c.self.inside.locator c.self.inside.limit c.self.inside.events.items c.args.op in
    once

pub leave_each-requires-clause-there : goal.leave_each-requires-clause-there
leave_each-requires-clause-there g c = λ b asked passed. leaves_there c.self.inside.locator c.self.inside.limit c.self.inside.events.items c.self.inside.wanted.items c.self.inside.slots.items c.self.inside.courses.items (waiting_lists c.self.inside.waits.items) c.self.inside.queue c.self.inside.fetched c.self.inside.opened c.self.inside.closed c.self.invariant.holds b (ap (λ (l : List Slot). passes leaves l b) (sym c.as_slice.ensures.value) ∙ passed)

pub overflow_sub-self : goal.overflow_sub-self
overflow_sub-self g c =
    let is = rw (← c.self.view_is) at c.requires.unreleased in
    opens_pos c.self.inside.locator c.self.inside.limit c.self.inside.events.items c.self.inside.wanted.items c.self.inside.slots.items c.self.inside.courses.items (waiting_lists c.self.inside.waits.items) c.self.inside.queue c.self.inside.fetched c.self.inside.opened c.self.inside.closed c.self.invariant.holds c.self.invariant.journal.known.sound c.self.invariant.journal.known.legal c.args.op c.args.caller is

pub invariant_of-self : goal.invariant_of-self
invariant_of-self g c =
    let is = rw (← c.self.view_is) at c.requires.unreleased in
    let rows = c.self.inside.locator in
    let limit = c.self.inside.limit in
    let h = c.self.inside.events.items in
    let images = c.self.inside.images.items in
    let e = Release c.args.op c.args.caller in
    let answer = release_answer rows limit h c.args.op c.args.caller is in
    let legal = extend rows limit h e c.self.invariant.journal.known.legal answer in
    let needs : c.as_slice-bundles.result.now ≡ needs_of_op c.self.inside.locator c.self.inside.events.items c.args.op =
    c.as_slice-bundles.ensures ∙ ap (λ (w : Wanted). w.needs) (c.take_wanted-wanted.ensures.taken ∙ ap (λ (l : List Wanted). wanted_at l c.args.op) c.as_mut_slice.ensures.value
    ∙ wanted_are c.self.inside.locator c.self.inside.limit c.self.inside.events.items c.self.invariant.journal.known.legal c.self.inside.wanted.items c.self.invariant.holds.are_wanted c.args.op is) in
    let once : no_repeats c.as_slice-bundles.result.now ≡ true = ap no_repeats needs ∙ op_needs_once c.self.inside.locator c.self.inside.limit c.self.inside.events.items c.args.op in
    let ns = c.as_slice-bundles.result.now in
    let after = holds_release c.self.inside.locator c.self.inside.limit c.self.inside.events.items c.self.inside.wanted.items c.self.inside.slots.items c.self.inside.courses.items (waiting_lists c.self.inside.waits.items) c.self.inside.queue c.self.inside.fetched c.self.inside.opened c.self.inside.closed c.self.invariant.holds c.self.invariant.journal.known.sound ns c.args.op c.args.caller legal needs (rw (← c.self.view_is) at c.requires.last) once in
    let slots : (with_items c.self.inside.slots c.let_go_each.new.slots).items ≡ change_each let_go (map (λ (b : BundleNo). b.0) ns) c.self.inside.slots.items =
    with_items_is c.self.inside.slots c.let_go_each.new.slots (c.let_go_each.auto.slots ∙ c.as_mut_slice-2.ensures.len) ∙ c.let_go_each.ensures ∙ ap (change_each let_go (map (λ (b : BundleNo). b.0) ns)) c.as_mut_slice-2.ensures.value in
    let order : c.leave_each.new.queue ≡ record { room = c.self.inside.queue.room; bundles = left_each (passes leaves c.self.inside.slots.items) ns c.self.inside.queue.bundles } =
    c.leave_each.ensures ∙ ap (λ (l : List Slot). let k : Ordered = record { room = c.self.inside.queue.room; bundles = left_each (passes leaves l) ns c.self.inside.queue.bundles } in k) c.as_slice.ensures.value in
    let courses : (with_items c.self.inside.courses c.give_back.new.courses).items ≡ change given_back c.args.op.0 c.self.inside.courses.items =
    with_items_is c.self.inside.courses c.give_back.new.courses (c.give_back.auto.courses ∙ c.as_mut_slice-5.ensures.len) ∙ c.give_back.ensures ∙ ap (change given_back c.args.op.0) c.as_mut_slice-5.ensures.value in
    let left : (with_items c.self.inside.images c.clear_each.new.images).items ≡ images_left rows (h ++ e ∷ []) images =
    with_items_is c.self.inside.images c.clear_each.new.images (c.clear_each.auto.images ∙ c.as_mut_slice-3.ensures.len)
    ∙ c.clear_each.ensures
    ∙ ap (cleared_each None (passes is_missing c.as_slice-2.result.now) ns) c.as_mut_slice-3.ensures.value
    ∙ ap (λ (l : List Slot). cleared_each None (passes is_missing l) ns images) (c.as_slice-2.ensures.value ∙ slots)
    ∙ released_images rows h (h ++ e ∷ []) c.self.inside.slots.items ns images once c.self.invariant.holds.are_slots after.are_slots (images_length g.I.Image.fits rows limit h images c.self.invariant.journal.held) (images_held g.I.Image.fits rows limit h images c.self.invariant.journal.held) in
    let wanted : (with_items c.self.inside.wanted c.take_wanted-wanted.new.wanted).items ≡ set c.self.inside.wanted.items c.args.op.0 nothing =
    with_items_is c.self.inside.wanted c.take_wanted-wanted.new.wanted (c.take_wanted-wanted.auto.wanted ∙ c.as_mut_slice.ensures.len) ∙ c.take_wanted-wanted.ensures.left ∙ ap (λ (l : List Wanted). set l c.args.op.0 nothing) c.as_mut_slice.ensures.value in
    let lists : waiting_lists (with_items c.self.inside.waits c.forget_each.new.waits).items ≡ cleared_each [] (passes is_idle (change_each let_go (map (λ (b : BundleNo). b.0) ns) c.self.inside.slots.items)) ns (waiting_lists c.self.inside.waits.items) =
    ap waiting_lists (with_items_is c.self.inside.waits c.forget_each.new.waits (c.forget_each.auto.waits ∙ c.as_mut_slice-4.ensures.len)) ∙ c.forget_each.ensures
    ∙ ap (λ (l : List Waiting). cleared_each [] (passes is_idle c.as_slice-3.result.now) ns (waiting_lists l)) c.as_mut_slice-4.ensures.value
    ∙ ap (λ (l : List Slot). cleared_each [] (passes is_idle l) ns (waiting_lists c.self.inside.waits.items)) (c.as_slice-3.ensures.value ∙ slots) in
    make_core g.I.Image.fits rows limit c.push_within.new.items (with_items c.self.inside.wanted c.take_wanted-wanted.new.wanted) (with_items c.self.inside.images c.clear_each.new.images) (with_items c.self.inside.slots c.let_go_each.new.slots) (with_items c.self.inside.courses c.give_back.new.courses) (with_items c.self.inside.waits c.forget_each.new.waits) c.leave_each.new.queue c.self.inside.fetched (c.self.inside.opened - 1) c.self.inside.closed
    (journal_push g.I.Image.fits c.self.inside.locator c.self.inside.limit c.self.inside.events c.self.inside.images c.self.invariant.journal e answer c.push_within.new.items c.push_within.ensures.items c.push_within.ensures.len c.push_within.ensures.room (with_items c.self.inside.images c.clear_each.new.images)
    (subst (λ (l : List (Option _)). HasImages (machine g.I.Image.fits rows limit (h ++ e ∷ []) l)) (sym left) (left_held g.I.Image.fits rows limit h (h ++ e ∷ []) images c.self.invariant.journal.held (λ b now. was_resident rows limit h e b refl now)))
    (subst (λ (l : List (Option _)). ImagesFit g.I.Image.fits (machine g.I.Image.fits rows limit (h ++ e ∷ []) l)) (sym left) (left_fit g.I.Image.fits rows limit h (h ++ e ∷ []) images c.self.invariant.journal.fitting)))
    (h ++ e ∷ []) c.push_within.ensures.items (set c.self.inside.wanted.items c.args.op.0 nothing) wanted
    (change_each let_go (map (λ (b : BundleNo). b.0) ns) c.self.inside.slots.items) slots (change given_back c.args.op.0 c.self.inside.courses.items) courses (cleared_each [] (passes is_idle (change_each let_go (map (λ (b : BundleNo). b.0) ns) c.self.inside.slots.items)) ns (waiting_lists c.self.inside.waits.items)) lists
    (record { room = c.self.inside.queue.room; bundles = left_each (passes leaves c.self.inside.slots.items) ns c.self.inside.queue.bundles }) order
    after
    c.self.invariant.rooms

pub returns : goal.returns
returns g c =
    let is = rw (← c.self.view_is) at c.requires.unreleased in
    let rows = c.self.inside.locator in
    let limit = c.self.inside.limit in
    let h = c.self.inside.events.items in
    let images = c.self.inside.images.items in
    let e = Release c.args.op c.args.caller in
    let answer = release_answer rows limit h c.args.op c.args.caller is in
    let legal = extend rows limit h e c.self.invariant.journal.known.legal answer in
    let needs : c.as_slice-bundles.result.now ≡ needs_of_op c.self.inside.locator c.self.inside.events.items c.args.op =
    c.as_slice-bundles.ensures ∙ ap (λ (w : Wanted). w.needs) (c.take_wanted-wanted.ensures.taken ∙ ap (λ (l : List Wanted). wanted_at l c.args.op) c.as_mut_slice.ensures.value
    ∙ wanted_are c.self.inside.locator c.self.inside.limit c.self.inside.events.items c.self.invariant.journal.known.legal c.self.inside.wanted.items c.self.invariant.holds.are_wanted c.args.op is) in
    let once : no_repeats c.as_slice-bundles.result.now ≡ true = ap no_repeats needs ∙ op_needs_once c.self.inside.locator c.self.inside.limit c.self.inside.events.items c.args.op in
    let ns = c.as_slice-bundles.result.now in
    let after = holds_release c.self.inside.locator c.self.inside.limit c.self.inside.events.items c.self.inside.wanted.items c.self.inside.slots.items c.self.inside.courses.items (waiting_lists c.self.inside.waits.items) c.self.inside.queue c.self.inside.fetched c.self.inside.opened c.self.inside.closed c.self.invariant.holds c.self.invariant.journal.known.sound ns c.args.op c.args.caller legal needs (rw (← c.self.view_is) at c.requires.last) once in
    let slots : (with_items c.self.inside.slots c.let_go_each.new.slots).items ≡ change_each let_go (map (λ (b : BundleNo). b.0) ns) c.self.inside.slots.items =
    with_items_is c.self.inside.slots c.let_go_each.new.slots (c.let_go_each.auto.slots ∙ c.as_mut_slice-2.ensures.len) ∙ c.let_go_each.ensures ∙ ap (change_each let_go (map (λ (b : BundleNo). b.0) ns)) c.as_mut_slice-2.ensures.value in
    let left : (with_items c.self.inside.images c.clear_each.new.images).items ≡ images_left rows (h ++ e ∷ []) images =
    with_items_is c.self.inside.images c.clear_each.new.images (c.clear_each.auto.images ∙ c.as_mut_slice-3.ensures.len)
    ∙ c.clear_each.ensures
    ∙ ap (cleared_each None (passes is_missing c.as_slice-2.result.now) ns) c.as_mut_slice-3.ensures.value
    ∙ ap (λ (l : List Slot). cleared_each None (passes is_missing l) ns images) (c.as_slice-2.ensures.value ∙ slots)
    ∙ released_images rows h (h ++ e ∷ []) c.self.inside.slots.items ns images once c.self.invariant.holds.are_slots after.are_slots (images_length g.I.Image.fits rows limit h images c.self.invariant.journal.held) (images_held g.I.Image.fits rows limit h images c.self.invariant.journal.held) in
    rw (← c.self.view_is)
    (same_machine g.I.Image.fits rows limit c.push_within.new.items.items (h ++ e ∷ []) (with_items c.self.inside.images c.clear_each.new.images).items _ c.push_within.ensures.items left)

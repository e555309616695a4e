use Rattle.std.proofs.Common.{◌≡◌, ◌<◌, ◌+◌, ◌∙◌, ap, sym, subst, arith, refl, true, false, not, ℕ, List, [], ◌∷◌, ◌++◌, None, length, map}
use Rattle.std.proofs.lemmas.List.{with_items_is}
use Rattle.std.specs.Vec.{with_items}
use Rattle.addr_base.specs.declared.ids.BundleNo.{BundleNo}
use Rattle.addr_base.specs.declared.ids.OpId.{OpId}
use Rattle.addr_history.specs.declared.event.Event.TheVariants.{Load}
use Rattle.addr_core.proofs.Advance.{journal_has_room, journal_load, same_machine, same_images, load_answer}
use Rattle.addr_queue.specs.Changes.{change_each}
use Rattle.addr_queue.specs.declared.slots.Slot.{Slot}
use Rattle.addr_core.specs.within.Courses.{Waiting, waiting_lists}
use Rattle.addr_queue.specs.Slots.{passes, is_missing, taken_in}
use Rattle.addr_core.proofs.Machines.{make_core}
use Rattle.addr_core.proofs.Holding.{holds_load, out_not_there}
use Rattle.std.specs.List.{count_by}
use Rattle.addr_history.specs.Places.{is_resident}
use Rattle.addr_locate.specs.Rows.{no_repeats}
use Rattle.addr_history.specs.Events.{is_in, needs_of}
use Rattle.addr_history.proofs.Ranges.{asked_below}
use Rattle.addr_core.proofs.Advance.{room, loads_le}
use Rattle.addr_history.proofs.CountSteps.{load_stays}
use Rattle.addr_queue.specs.Queue.{Ordered}
use Rattle.addr_core.specs.within.Courses.{HasRoom, waited_each}
use Rattle.addr_queue.specs.Slots.{joined_each, is_out}
use Rattle.addr_history.proofs.QueueSteps.{needs_once}
use Rattle.addr_core.proofs.Nows.{lacking_is}
use Rattle.addr_core.proofs.Machines.{opens_fits}
use Rattle.addr_core.proofs.Accepting.{needs_within, needs_length}
use Rattle.addr_core.specs.declared.wanted.Wanted.{Wanted}
use Rattle.addr_core.specs.within.Wanting.{wanted_of}
use Rattle.addr_core.proofs.machine.Core.accept.Goals as goal

once_at : (bs ns ms : List BundleNo) → bs ≡ ns → ns ≡ ms → no_repeats ms ≡ true → no_repeats bs ≡ true
once_at bs ns ms one two once = ap no_repeats (one ∙ two) ∙ once

pub make_room_each-requires : goal.make_room_each-requires
make_room_each-requires g c =
    let all = rw (← c.self.view_is) at c.requires.wanted in
    let is = ap (λ (w : Wanted). w.needs) all in
    once_at c.as_slice-needs.result.now c.args.wanted.needs (needs_of c.self.inside.locator c.args.ask) c.as_slice-needs.ensures is (needs_once c.self.inside.locator (Load (record { 0 = 0 }) 0 c.args.ask))

pub invariant_of-self : goal.invariant_of-self
invariant_of-self g c =
    make_core g.I.Image.fits c.self.inside.locator c.self.inside.limit c.self.inside.events c.self.inside.wanted c.self.inside.images c.self.inside.slots c.self.inside.courses (with_items c.self.inside.waits c.make_room_each.new.waits) c.self.inside.queue c.self.inside.fetched c.self.inside.opened c.self.inside.closed
    c.self.invariant.journal c.self.inside.events.items refl c.self.inside.wanted.items refl c.self.inside.slots.items refl c.self.inside.courses.items refl (waiting_lists c.self.inside.waits.items)
    (ap waiting_lists (with_items_is c.self.inside.waits c.make_room_each.new.waits (c.make_room_each.auto.waits ∙ c.as_mut_slice.ensures.len)) ∙ c.make_room_each.ensures.lists ∙ ap waiting_lists c.as_mut_slice.ensures.value)
    c.self.inside.queue refl c.self.invariant.holds c.self.invariant.rooms

pub overflow_cast-op : goal.overflow_cast-op
overflow_cast-op g c =
    omega (arith, c.len.ensures, c.self.inside.wanted.ok.0, c.self.invariant.holds.are_wanted.many, loads_le c.self.inside.locator c.self.inside.limit c.self.inside.events.items, c.self.invariant.journal.known.short)

pub lacking-missing-requires : goal.lacking-missing-requires
lacking-missing-requires g c =
    let all = rw (← c.self.view_is) at c.requires.wanted in
    let is = ap (λ (w : Wanted). w.needs) all in
    omega (arith, ap length (c.as_slice-needs.ensures ∙ is), needs_length c.self.inside.locator c.self.invariant.journal.known.sound c.args.ask, c.self.invariant.journal.few_bundles)

pub join_each-requires-clause-once : goal.join_each-requires-clause-once
join_each-requires-clause-once g c =
    let all = rw (← c.self.view_is) at c.requires.wanted in
    let is = ap (λ (w : Wanted). w.needs) all in
    once_at c.as_slice-needs.result.now c.args.wanted.needs (needs_of c.self.inside.locator c.args.ask) c.as_slice-needs.ensures is (needs_once c.self.inside.locator (Load (record { 0 = 0 }) 0 c.args.ask))

pub join_each-requires-clause-below : goal.join_each-requires-clause-below
join_each-requires-clause-below g c =
    let all = rw (← c.self.view_is) at c.requires.wanted in
    let is = ap (λ (w : Wanted). w.needs) all in
    λ b asked. subst (λ (l : Ordered). b.0 < l.room) (sym c.self.invariant.holds.in_order) (asked_below c.self.inside.locator c.self.invariant.journal.known.sound (Load (record { 0 = 0 }) 0 c.args.ask) b (ap (is_in b) (sym (c.as_slice-needs.ensures ∙ is)) ∙ asked))

pub join_each-requires-clause-new : goal.join_each-requires-clause-new
join_each-requires-clause-new g c = λ b asked passed. out_not_there c.self.inside.locator c.self.inside.limit c.self.inside.events.items c.self.inside.wanted.items c.self.inside.slots.items c.self.inside.courses.items (waiting_lists c.self.inside.waits.items) c.self.inside.queue c.self.inside.fetched c.self.inside.opened c.self.inside.closed c.self.invariant.holds c.self.invariant.journal.known.sound b (ap (λ (l : List Slot). passes is_out l b) (sym c.as_slice-3.ensures.value) ∙ passed)

pub wait_each-requires-clause-once : goal.wait_each-requires-clause-once
wait_each-requires-clause-once g c =
    let all = rw (← c.self.view_is) at c.requires.wanted in
    let is = ap (λ (w : Wanted). w.needs) all in
    once_at c.as_slice-needs.result.now c.args.wanted.needs (needs_of c.self.inside.locator c.args.ask) c.as_slice-needs.ensures is (needs_once c.self.inside.locator (Load (record { 0 = 0 }) 0 c.args.ask))

room_at : (s1 s2 : List Slot) (n1 n2 : List BundleNo) (w1 w2 : List Waiting) → s1 ≡ s2 → n1 ≡ n2 → w1 ≡ w2 → HasRoom (passes is_missing s1) n1 w1 → HasRoom (passes is_missing s2) n2 w2
room_at s1 s2 n1 n2 w1 w2 a b d has = subst (λ s. HasRoom (passes is_missing s) n2 w2) a (subst (λ n. HasRoom (passes is_missing s1) n w2) b (subst (λ w. HasRoom (passes is_missing s1) n1 w) d has))

pub wait_each-requires-clause-room : goal.wait_each-requires-clause-room
wait_each-requires-clause-room g c =
    room_at c.as_slice.result.now c.as_slice-4.result.now c.as_slice-needs.result.now c.as_slice-needs.result.now c.make_room_each.new.waits c.as_mut_slice-2.result.now
    (c.as_slice.ensures.value ∙ sym c.as_slice-4.ensures.value) (c.as_slice-needs.ensures ∙ sym c.as_slice-needs.ensures)
    (sym (c.as_mut_slice-2.ensures.value ∙ with_items_is c.self.inside.waits c.make_room_each.new.waits (c.make_room_each.auto.waits ∙ c.as_mut_slice.ensures.len)))
    c.in_ok-make_room_each.ensures.room

pub push_within-requires : goal.push_within-requires
push_within-requires g c =
    let accepted = rw (← c.self.view_is) at c.requires.accepted in
    let all = rw (← c.self.view_is) at c.requires.wanted in
    let is = ap (λ (w : Wanted). w.needs) all in
    let number = c.len.ensures ∙ c.self.inside.wanted.ok.0 ∙ c.self.invariant.holds.are_wanted.many in
    let op : OpId = record { 0 = c.len.result } in
    let e = Load op c.args.caller c.args.ask in
    let answer = load_answer c.self.inside.locator c.self.inside.limit c.self.inside.events.items c.len.result c.args.caller c.args.ask number accepted in
    omega (arith, c.self.inside.courses.ok.0, c.self.invariant.holds.are_courses.many, loads_le c.self.inside.locator c.self.inside.limit c.self.inside.events.items, room c.self.inside.locator c.self.inside.limit c.self.inside.events.items c.self.invariant.journal.known e answer, c.self.invariant.rooms.1)

pub push_within-requires-2 : goal.push_within-requires-2
push_within-requires-2 g c =
    let accepted = rw (← c.self.view_is) at c.requires.accepted in
    let all = rw (← c.self.view_is) at c.requires.wanted in
    let is = ap (λ (w : Wanted). w.needs) all in
    let number = c.len.ensures ∙ c.self.inside.wanted.ok.0 ∙ c.self.invariant.holds.are_wanted.many in
    let op : OpId = record { 0 = c.len.result } in
    let e = Load op c.args.caller c.args.ask in
    let answer = load_answer c.self.inside.locator c.self.inside.limit c.self.inside.events.items c.len.result c.args.caller c.args.ask number accepted in
    journal_has_room g.I.Image.fits c.self.inside.locator c.self.inside.limit c.self.inside.events c.self.inside.images c.self.invariant.journal e answer

pub push_within-requires-3 : goal.push_within-requires-3
push_within-requires-3 g c =
    let accepted = rw (← c.self.view_is) at c.requires.accepted in
    let all = rw (← c.self.view_is) at c.requires.wanted in
    let is = ap (λ (w : Wanted). w.needs) all in
    let number = c.len.ensures ∙ c.self.inside.wanted.ok.0 ∙ c.self.invariant.holds.are_wanted.many in
    let op : OpId = record { 0 = c.len.result } in
    let e = Load op c.args.caller c.args.ask in
    let answer = load_answer c.self.inside.locator c.self.inside.limit c.self.inside.events.items c.len.result c.args.caller c.args.ask number accepted in
    omega (arith, c.self.inside.wanted.ok.0, c.self.invariant.holds.are_wanted.many, loads_le c.self.inside.locator c.self.inside.limit c.self.inside.events.items, room c.self.inside.locator c.self.inside.limit c.self.inside.events.items c.self.invariant.journal.known e answer, c.self.invariant.rooms.0)

pub overflow_add-self : goal.overflow_add-self
overflow_add-self g c = omega (arith, opens_fits c.self.inside.locator c.self.inside.limit c.self.inside.events.items c.self.inside.wanted.items c.self.inside.slots.items c.self.inside.courses.items (waiting_lists c.self.inside.waits.items) c.self.inside.queue c.self.inside.fetched c.self.inside.opened c.self.inside.closed c.self.invariant.holds c.self.invariant.journal.known)

pub invariant_of-self-2 : goal.invariant_of-self-2
invariant_of-self-2 g c =
    let accepted = rw (← c.self.view_is) at c.requires.accepted in
    let all = rw (← c.self.view_is) at c.requires.wanted in
    let is = ap (λ (w : Wanted). w.needs) all in
    let number = c.len.ensures ∙ c.self.inside.wanted.ok.0 ∙ c.self.invariant.holds.are_wanted.many in
    let op : OpId = record { 0 = c.len.result } in
    let e = Load op c.args.caller c.args.ask in
    let answer = load_answer c.self.inside.locator c.self.inside.limit c.self.inside.events.items c.len.result c.args.caller c.args.ask number accepted in
    let rows = c.self.inside.locator in
    let h = c.self.inside.events.items in
    let ns = needs_of rows c.args.ask in
    let slots : (with_items c.self.inside.slots c.take_in_each.new.slots).items ≡ change_each taken_in (map (λ (b : BundleNo). b.0) ns) c.self.inside.slots.items =
    with_items_is c.self.inside.slots c.take_in_each.new.slots (c.take_in_each.auto.slots ∙ c.as_mut_slice-3.ensures.len) ∙ c.take_in_each.ensures
    ∙ ap (change_each taken_in (map (λ (b : BundleNo). b.0) c.as_slice-needs.result.now)) c.as_mut_slice-3.ensures.value
    ∙ ap (λ (l : List BundleNo). change_each taken_in (map (λ (b : BundleNo). b.0) l) c.self.inside.slots.items) (c.as_slice-needs.ensures ∙ is) in
    let waits1 = with_items_is c.self.inside.waits c.make_room_each.new.waits (c.make_room_each.auto.waits ∙ c.as_mut_slice.ensures.len) in
    let kept : waiting_lists c.as_mut_slice-2.result.now ≡ waiting_lists c.self.inside.waits.items =
    ap waiting_lists (c.as_mut_slice-2.ensures.value ∙ waits1) ∙ c.make_room_each.ensures.lists ∙ ap waiting_lists c.as_mut_slice.ensures.value in
    let lists : waiting_lists (with_items (with_items c.self.inside.waits c.make_room_each.new.waits) c.wait_each.new.waits).items ≡ waited_each (passes is_missing c.self.inside.slots.items) c.len.result ns (waiting_lists c.self.inside.waits.items) =
    ap waiting_lists (with_items_is (with_items c.self.inside.waits c.make_room_each.new.waits) c.wait_each.new.waits (c.wait_each.auto.waits ∙ c.as_mut_slice-2.ensures.len)) ∙ c.wait_each.ensures
    ∙ ap (λ (l : List (List ℕ)). waited_each (passes is_missing c.as_slice-4.result.now) c.len.result c.as_slice-needs.result.now l) kept
    ∙ ap (λ (s : List Slot). waited_each (passes is_missing s) c.len.result c.as_slice-needs.result.now (waiting_lists c.self.inside.waits.items)) c.as_slice-4.ensures.value
    ∙ ap (λ (l : List BundleNo). waited_each (passes is_missing c.self.inside.slots.items) c.len.result l (waiting_lists c.self.inside.waits.items)) (c.as_slice-needs.ensures ∙ is) in
    let order : c.join_each.new.queue ≡ record { room = c.self.inside.queue.room; bundles = joined_each (passes is_out c.self.inside.slots.items) ns c.self.inside.queue.bundles } =
    c.join_each.ensures
    ∙ ap (λ (s : List Slot). let k : Ordered = record { room = c.self.inside.queue.room; bundles = joined_each (passes is_out s) c.as_slice-needs.result.now c.self.inside.queue.bundles } in k) c.as_slice-3.ensures.value
    ∙ ap (λ (l : List BundleNo). let k : Ordered = record { room = c.self.inside.queue.room; bundles = joined_each (passes is_out c.self.inside.slots.items) l c.self.inside.queue.bundles } in k) (c.as_slice-needs.ensures ∙ is) in
    let missing : c.lacking-missing.result ≡ count_by (λ b. not (is_resident rows h b)) ns =
    c.lacking-missing.ensures
    ∙ ap (λ (s : List Slot). count_by (passes is_missing s) c.as_slice-needs.result.now) c.as_slice-2.ensures.value
    ∙ ap (count_by (passes is_missing c.self.inside.slots.items)) (c.as_slice-needs.ensures ∙ is)
    ∙ lacking_is rows h c.self.inside.slots.items c.self.invariant.holds.are_slots ns (needs_within rows c.self.invariant.journal.known.sound c.args.ask) in
    make_core g.I.Image.fits c.self.inside.locator c.self.inside.limit c.push_within-2.new.items c.push_within-3.new.items c.self.inside.images (with_items c.self.inside.slots c.take_in_each.new.slots) c.push_within.new.items (with_items (with_items c.self.inside.waits c.make_room_each.new.waits) c.wait_each.new.waits) c.join_each.new.queue c.self.inside.fetched (c.self.inside.opened + 1) c.self.inside.closed
    (journal_load g.I.Image.fits c.self.inside.locator c.self.inside.limit c.self.inside.events c.self.inside.images c.self.invariant.journal op c.args.caller c.args.ask answer c.push_within-2.new.items c.push_within-2.ensures.items c.push_within-2.ensures.len c.push_within-2.ensures.room)
    (h ++ e ∷ []) c.push_within-2.ensures.items (c.self.inside.wanted.items ++ wanted_of rows c.args.ask ∷ []) (c.push_within-3.ensures.items ∙ ap (λ (w : Wanted). c.self.inside.wanted.items ++ w ∷ []) all)
    (change_each taken_in (map (λ (b : BundleNo). b.0) ns) c.self.inside.slots.items) slots
    (c.self.inside.courses.items ++ record { missing = c.lacking-missing.result; failed = None; references = 1 } ∷ []) c.push_within.ensures.items
    (waited_each (passes is_missing c.self.inside.slots.items) c.len.result ns (waiting_lists c.self.inside.waits.items)) lists
    (record { room = c.self.inside.queue.room; bundles = joined_each (passes is_out c.self.inside.slots.items) ns c.self.inside.queue.bundles }) order
    (holds_load c.self.inside.locator c.self.inside.limit c.self.inside.events.items c.self.inside.wanted.items c.self.inside.slots.items c.self.inside.courses.items (waiting_lists c.self.inside.waits.items) c.self.inside.queue c.self.inside.fetched c.self.inside.opened c.self.inside.closed c.self.invariant.holds c.self.invariant.journal.known.sound c.self.invariant.journal.known.short op c.args.caller c.args.ask answer c.self.invariant.journal.known.legal c.lacking-missing.result missing)
    (omega (arith, c.self.invariant.rooms.0, c.push_within-3.ensures.room), omega (arith, c.self.invariant.rooms.1, c.push_within.ensures.room))

pub returns-clause-number : goal.returns-clause-number
returns-clause-number g c =
    rw (← c.self.view_is)
    (ap (λ n. let op : OpId = record { 0 = n } in op) (c.len.ensures ∙ c.self.inside.wanted.ok.0 ∙ c.self.invariant.holds.are_wanted.many))

pub returns-clause-machine : goal.returns-clause-machine
returns-clause-machine g c =
    let accepted = rw (← c.self.view_is) at c.requires.accepted in
    let all = rw (← c.self.view_is) at c.requires.wanted in
    let is = ap (λ (w : Wanted). w.needs) all in
    let number = c.len.ensures ∙ c.self.inside.wanted.ok.0 ∙ c.self.invariant.holds.are_wanted.many in
    let op : OpId = record { 0 = c.len.result } in
    let e = Load op c.args.caller c.args.ask in
    let answer = load_answer c.self.inside.locator c.self.inside.limit c.self.inside.events.items c.len.result c.args.caller c.args.ask number accepted in
    rw (← c.self.view_is)
    (same_machine g.I.Image.fits c.self.inside.locator c.self.inside.limit c.push_within-2.new.items.items (c.self.inside.events.items ++ e ∷ []) c.self.inside.images.items _ c.push_within-2.ensures.items
    (sym (same_images g.I.Image.fits c.self.inside.locator c.self.inside.limit c.self.inside.events.items (c.self.inside.events.items ++ e ∷ []) c.self.inside.images.items c.self.invariant.journal.held (load_stays c.self.inside.locator c.self.inside.limit c.self.inside.events.items c.self.invariant.journal.known.legal op c.args.caller c.args.ask answer))))

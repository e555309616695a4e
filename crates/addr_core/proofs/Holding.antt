-- What is kept, one event on.
use Rattle.std.proofs.Common.{◌≡◌, ◌⊎◌, inl, inr, ℕ, ◌+◌, ◌-◌, ◌≤◌, ◌<◌, Bool, true, false, ◌&&◌, ◌||◌, not, cond, eqb, ltb, leb, List, [], ◌∷◌, ◌++◌, length, map, filter, set, Option, Some, None, is_some, slice_get, refl, sym, ◌∙◌, ap, subst, arith, if◌then◌else◌}
use Rattle.std.proofs.lemmas.Bool.{false≢true, and_parts, eqb-true, ne_eqb, ltb-true, lt-ltb, le-ltb, le-leb, lt-leb, not-true, cases_lt, cases_Bool}
use Rattle.std.proofs.lemmas.List.{length-set}
use Rattle.std.specs.List.{count_by}
use Rattle.addr_base.specs.declared.ids.BundleNo.{BundleNo}
use Rattle.addr_base.specs.declared.ids.OpId.{OpId}
use Rattle.addr_base.specs.declared.cause.Cause.{Cause}
use Rattle.addr_locate.specs.Rows.{Rows, no_repeats}
use Rattle.addr_history.specs.declared.ask.Ask.{Ask}
use Rattle.addr_history.specs.declared.answers.OpStatus.TheVariants.{Failed}
use Rattle.addr_history.specs.declared.event.Event.{Event}
use Rattle.addr_history.specs.declared.event.Event.TheVariants.{Load, Acquire, Release, Take, Done, Fail, Close}
use Rattle.addr_history.specs.Events.{is_in, is_close, is_take_of, is_end_of, needs_of}
use Rattle.addr_history.specs.Counts.{count_of, is_closed, references_of, is_unreleased, needs_of_op}
use Rattle.addr_history.specs.Places.{is_resident, is_fetched, is_fetched_by, is_queued, is_absent, queue, bundles_of}
use Rattle.addr_history.specs.Legal.{IsAnswer, Legal}
use Rattle.addr_history.proofs.Points.{or-false}
use Rattle.addr_history.proofs.Legality.{prefix, acquire_facts, release_facts, done_facts, fail_facts}
use Rattle.addr_history.proofs.Ranges.{Sound, take_facts, queued_below, fetched_below, fetched_by_some, asked_below}
use Rattle.addr_history.proofs.Owed.{closed_push, references_same}
use Rattle.addr_history.proofs.Counting.{references_kept, references_load, references_acquire, references_release}
use Rattle.addr_history.proofs.CountSteps.{take_calm, done_calm, fail_calm, close_calm, acquire_calm, left_calm}
use Rattle.addr_queue.specs.Queue.{Ordered}
use Rattle.addr_queue.specs.Changes.{put_at, changed_from, change, change_each, cleared_each}
use Rattle.addr_queue.specs.declared.slots.Slot.{Slot}
use Rattle.addr_core.specs.declared.courses.Course.{Course}
use Rattle.addr_core.specs.within.Kept.{AreSlots, AreCourses, IsSlot, Holds}
use Rattle.addr_core.specs.within.Courses.{waited_each, woken, failed_by, given_back, acquired}
use Rattle.addr_queue.specs.Slots.{passes_from, passes, leaves, is_out, is_missing, is_idle, left_each, joined_each, taken, ended, let_go, taken_in}
use Rattle.addr_queue.proofs.Changing.{length_change_each, length_cleared, cleared_from, slice_there}
use Rattle.addr_history.proofs.QueueSteps.{filter_within, in_filter, in_queue, needs_once, queued_counted}
use Rattle.addr_history.proofs.StatusSteps.{apart, needed_counted}
use Rattle.addr_core.proofs.CourseSteps.{quiet_courses, alike_same, done_courses, fail_courses, release_courses, acquire_courses, forgotten_courses, load_courses, IsJoined}
use Rattle.addr_core.proofs.WantedSteps.{wanted_calm, wanted_load, wanted_release}
use Rattle.addr_core.proofs.SlotSteps.{slots_take, slots_done, slots_fail, slots_close, slots_load, slots_release, slots_acquire, slots_given, count_less, changed_once}
use Rattle.addr_history.proofs.QueueEvents.{queue_load, queue_release, queue_take, queue_calm, fetching_same, fetching_taken, fetching_ended}
use Rattle.addr_queue.proofs.Leaving.{left_is, joined_is}
use Rattle.addr_core.specs.within.Wanting.{nothing, wanted_of}
use Rattle.addr_core.specs.declared.wanted.Wanted.{Wanted}

-- changes that agree on what stands there
pub change_agree : {X : Type 0} (f g : X → X) (n : ℕ) (xs : List X) → ((x : X) → slice_get xs n ≡ Some x → f x ≡ g x) → change f n xs ≡ change g n xs
change_agree {X} f g n xs same = at (slice_get xs n) refl
  where
    at : (o : Option X) → slice_get xs n ≡ o → put_at xs n (changed_from f o) ≡ put_at xs n (changed_from g o)
    at None is = refl
    at (Some x) is = ap (set xs n) (same x is)

module _ (rows : Rows) (limit : ℕ) (h : List Event) (wanted : List Wanted) (slots : List Slot) (courses : List Course) (lists : List (List ℕ)) (order : Ordered) (fetched opens : ℕ) (closed : Bool) (holds : Holds rows h wanted slots courses lists order fetched opens closed) where
  -- what a slot says of its bundle
  pub slot_is : (b : BundleNo) → b.0 < length rows.bundles → (s : Slot) × ((slice_get slots b.0 ≡ Some s) × IsSlot rows h b s)
  slot_is b lt = let there = slice_there slots b.0 (omega (arith, holds.are_slots.many)) in (there.0, (there.1, holds.are_slots.each b there.0 there.1))

  passes_is : (test : Slot → Bool) (b : BundleNo) (s : Slot) → slice_get slots b.0 ≡ Some s → passes test slots b ≡ test s
  passes_is test b s at = ap (passes_from test) at

  pub out_is : (b : BundleNo) → b.0 < length rows.bundles → passes is_out slots b ≡ is_absent rows h b
  unfolding is_absent
  out_is b lt =
      let slot = slot_is b lt in
      passes_is is_out b slot.0 slot.1.0
      ∙ ap (λ t. (not t && not (is_some slot.0.fetcher)) && not slot.0.queued) slot.1.1.resident
      ∙ ap (λ t. (not (is_resident rows h b) && not t) && not slot.0.queued) slot.1.1.fetched
      ∙ ap (λ t. (not (is_resident rows h b) && not (is_fetched h b)) && not t) slot.1.1.queued

  pub missing_is : (b : BundleNo) → b.0 < length rows.bundles → passes is_missing slots b ≡ not (is_resident rows h b)
  missing_is b lt = let slot = slot_is b lt in passes_is is_missing b slot.0 slot.1.0 ∙ ap not slot.1.1.resident

  pub closed_step : (e : Event) → closed || is_close e ≡ is_closed (h ++ e ∷ [])
  closed_step e = ap (λ t. t || is_close e) holds.now_closed ∙ sym (closed_push h e)

  closed_same : (e : Event) → is_close e ≡ false → closed ≡ is_closed (h ++ e ∷ [])
  closed_same e other = sym (or-false closed) ∙ ap (λ t. closed || t) (sym other) ∙ closed_step e

  pub holds_take : Sound rows → (o : BundleNo) (w : ℕ) → Legal rows limit (h ++ Take o w ∷ []) → Holds rows (h ++ Take o w ∷ []) wanted (change (taken w) o.0 slots) courses lists (record { room = order.room; bundles = filter (λ c. not (eqb c.0 o.0)) order.bundles }) (fetched + 1) opens closed
  holds_take sound o w legal =
      let before = prefix rows limit h (Take o w ∷ []) legal in
      let queued = take_facts rows limit h o w (legal.answers h (Take o w) [] refl) in
      record {
        are_wanted = wanted_calm rows limit h (Take o w) legal refl wanted holds.are_wanted;
        are_slots = slots_take rows limit h o w legal slots holds.are_slots;
        are_courses = quiet_courses rows limit h (Take o w) legal courses lists holds.are_courses refl courses refl (λ op c at. holds.are_courses.references op c at ∙ sym (references_kept h (Take o w) op refl refl refl)) (alike_same rows limit courses) (λ op. refl) (λ op b was asked. refl);
        all_lists = holds.all_lists;
        in_order =
            ap (λ (l : Ordered). let k : Ordered = record { room = l.room; bundles = filter (λ (c : BundleNo). not (eqb c.0 o.0)) l.bundles } in k) holds.in_order
            ∙ ap (λ (l : List BundleNo). let k : Ordered = record { room = length rows.bundles; bundles = l } in k) (sym (queue_take rows limit h o w legal));
        now_fetched = ap (λ n. n + 1) holds.now_fetched ∙ sym (fetching_taken rows limit h o w (queued_below rows sound h o queued) (free before queued));
        now_open = holds.now_open ∙ sym (references_same rows limit h (Take o w) (λ p. (refl, refl)) refl);
        now_closed = closed_same (Take o w) refl;
      }
    where
      free : Legal rows limit h → is_queued rows h o ≡ true → is_fetched h o ≡ false
      free before queued = elim (cases_Bool (is_fetched h o)) [
        | inl is ↦ absurd (false≢true (sym ((apart rows limit h before o).1 is).1 ∙ queued))
        | inr none ↦ none
      ]

  less_one : (n m : ℕ) → n + 1 ≡ m → m - 1 ≡ n
  less_one n m is = omega arith

  order_calm : (e : Event) → Legal rows limit (h ++ e ∷ []) → queue rows (h ++ e ∷ []) ≡ queue rows h → order ≡ record { room = length rows.bundles; bundles = queue rows (h ++ e ∷ []) }
  order_calm e legal same = holds.in_order ∙ ap (λ (l : List BundleNo). let k : Ordered = record { room = length rows.bundles; bundles = l } in k) (sym same)

  fetched_below_rows : Sound rows → (o : BundleNo) (w : ℕ) → Legal rows limit h → is_fetched_by h o w ≡ true → o.0 < length rows.bundles
  fetched_below_rows sound o w legal by = fetched_below rows limit sound h legal o (fetched_by_some h o w by)

  fetched_less : Sound rows → (e : Event) (o : BundleNo) (w : ℕ) → ((c : BundleNo) → is_end_of c e ≡ eqb o.0 c.0) → ((c : BundleNo) → is_take_of c e ≡ false) → Legal rows limit h → is_fetched_by h o w ≡ true → fetched - 1 ≡ count_by (is_fetched (h ++ e ∷ [])) (bundles_of rows)
  fetched_less sound e o w ends takes legal by =
      let one = fetching_ended rows limit h e o ends takes (fetched_below_rows sound o w legal by) (fetched_by_some h o w by) in
      less_one (count_by (is_fetched (h ++ e ∷ [])) (bundles_of rows)) fetched (one ∙ sym holds.now_fetched)

  ended_slots : (o : BundleNo) (w : ℕ) (kept : Bool) → kept ≡ ltb 0 (count_of rows h o) → change (λ s. ended (ltb 0 s.count) s) o.0 slots ≡ change (ended kept) o.0 slots
  ended_slots o w kept is = change_agree (λ s. ended (ltb 0 s.count) s) (ended kept) o.0 slots (λ s at. ap (λ t. ended t s) (ap (ltb 0) (holds.are_slots.each o s at).count ∙ sym is))

  pub holds_dropped : Sound rows → (o : BundleNo) (w : ℕ) → Legal rows limit (h ++ Done o w ∷ []) → count_of rows h o ≡ 0 → Holds rows (h ++ Done o w ∷ []) wanted (change (ended false) o.0 slots) courses lists order (fetched - 1) opens closed
  holds_dropped sound o w legal none =
      let before = prefix rows limit h (Done o w ∷ []) legal in
      let by = done_facts rows limit h o w (legal.answers h (Done o w) [] refl) in
      record {
        are_wanted = wanted_calm rows limit h (Done o w) legal refl wanted holds.are_wanted;
        are_slots = subst (AreSlots rows (h ++ Done o w ∷ [])) (ended_slots o w false (sym (ap (ltb 0) none))) (slots_done rows limit h o w legal slots holds.are_slots);
        are_courses = quiet_courses rows limit h (Done o w) legal courses lists holds.are_courses refl courses refl (λ op c at. holds.are_courses.references op c at ∙ sym (references_kept h (Done o w) op refl refl refl)) (alike_same rows limit courses) (λ op. refl)
            (λ op b was asked. ne_eqb o.0 b.0 (λ same. omega (arith, needed_counted rows limit h before op b was asked, ap (λ n. count_of rows h (let r : BundleNo = record { 0 = n } in r)) (sym same) ∙ none)));
        all_lists = holds.all_lists;
        in_order = order_calm (Done o w) legal (queue_calm rows limit h (Done o w) legal refl (λ b. refl) (done_calm h o w));
        now_fetched = fetched_less sound (Done o w) o w (λ c. refl) (λ c. refl) before by;
        now_open = holds.now_open ∙ sym (references_same rows limit h (Done o w) (λ p. (refl, refl)) refl);
        now_closed = closed_same (Done o w) refl;
      }

  pub holds_kept : Sound rows → (o : BundleNo) (w : ℕ) → Legal rows limit (h ++ Done o w ∷ []) → 0 < count_of rows h o → (ws : List ℕ) → slice_get lists o.0 ≡ Some ws → Holds rows (h ++ Done o w ∷ []) wanted (change (ended true) o.0 slots) (change_each woken ws courses) (set lists o.0 []) order (fetched - 1) opens closed
  holds_kept sound o w legal some ws there =
      let before = prefix rows limit h (Done o w ∷ []) legal in
      let by = done_facts rows limit h o w (legal.answers h (Done o w) [] refl) in
      record {
        are_wanted = wanted_calm rows limit h (Done o w) legal refl wanted holds.are_wanted;
        are_slots = subst (AreSlots rows (h ++ Done o w ∷ [])) (ended_slots o w true (sym (lt-ltb 0 (count_of rows h o) some))) (slots_done rows limit h o w legal slots holds.are_slots);
        are_courses = done_courses rows limit h o w legal courses lists holds.are_courses ws there;
        all_lists = length-set lists o.0 [] ∙ holds.all_lists;
        in_order = order_calm (Done o w) legal (queue_calm rows limit h (Done o w) legal refl (λ b. refl) (done_calm h o w));
        now_fetched = fetched_less sound (Done o w) o w (λ c. refl) (λ c. refl) before by;
        now_open = holds.now_open ∙ sym (references_same rows limit h (Done o w) (λ p. (refl, refl)) refl);
        now_closed = closed_same (Done o w) refl;
      }

  pub holds_fail : Sound rows → (o : BundleNo) (w : ℕ) (k : Cause) → Legal rows limit (h ++ Fail o w k ∷ []) → (ws : List ℕ) → slice_get lists o.0 ≡ Some ws → Holds rows (h ++ Fail o w k ∷ []) wanted (change (ended false) o.0 slots) (change_each (failed_by (Failed o k)) ws courses) (set lists o.0 []) order (fetched - 1) opens closed
  holds_fail sound o w k legal ws there =
      let before = prefix rows limit h (Fail o w k ∷ []) legal in
      let answer = legal.answers h (Fail o w k) [] refl in
      let by = fail_facts rows limit h o w k answer in
      record {
        are_wanted = wanted_calm rows limit h (Fail o w k) legal refl wanted holds.are_wanted;
        are_slots = slots_fail rows limit h o w k legal slots holds.are_slots;
        are_courses = fail_courses rows limit h o w k legal answer courses lists holds.are_courses ws there;
        all_lists = length-set lists o.0 [] ∙ holds.all_lists;
        in_order = order_calm (Fail o w k) legal (queue_calm rows limit h (Fail o w k) legal refl (λ b. refl) (fail_calm h o w k));
        now_fetched = fetched_less sound (Fail o w k) o w (λ c. refl) (λ c. refl) before by;
        now_open = holds.now_open ∙ sym (references_same rows limit h (Fail o w k) (λ p. (refl, refl)) refl);
        now_closed = closed_same (Fail o w k) refl;
      }

  pub holds_close : Legal rows limit (h ++ Close ∷ []) → Holds rows (h ++ Close ∷ []) wanted slots courses lists order fetched opens true
  holds_close legal = record {
    are_wanted = wanted_calm rows limit h Close legal refl wanted holds.are_wanted;
    are_slots = slots_close rows limit h legal slots holds.are_slots;
    are_courses = quiet_courses rows limit h Close legal courses lists holds.are_courses refl courses refl (λ op c at. holds.are_courses.references op c at ∙ sym (references_kept h Close op refl refl refl)) (alike_same rows limit courses) (λ op. refl) (λ op b was asked. refl);
    all_lists = holds.all_lists;
    in_order = order_calm Close legal (queue_calm rows limit h Close legal refl (λ b. refl) (close_calm h));
    now_fetched = holds.now_fetched ∙ sym (fetching_same rows limit h Close (λ b. (refl, refl)));
    now_open = holds.now_open ∙ sym (references_same rows limit h Close (λ p. (refl, refl)) refl);
    now_closed = sym (closed_push h Close ∙ or_on (is_closed h));
  }
    where
      or_on : (t : Bool) → (t || true) ≡ true
      or_on true = refl
      or_on false = refl

  -- a queued bundle that some operation needs stands in the line
  pub leaves_there : (b : BundleNo) → passes leaves slots b ≡ true → is_in b order.bundles ≡ true
  leaves_there b is = ap (λ (l : Ordered). is_in b l.bundles) holds.in_order ∙ in_queue rows h b ∙ at (slice_get slots b.0) refl is
    where
      at : (o : Option Slot) → slice_get slots b.0 ≡ o → passes_from leaves o ≡ true → is_queued rows h b ≡ true
      at None there passed = absurd (false≢true passed)
      at (Some s) there passed = sym (holds.are_slots.each b s there).queued ∙ (and_parts s.queued (leb s.count 1) passed).0

  pub out_not_there : Sound rows → (b : BundleNo) → passes is_out slots b ≡ true → is_in b order.bundles ≡ false
  out_not_there sound b is = ap (λ (l : Ordered). is_in b l.bundles) holds.in_order ∙ in_queue rows h b ∙ at (slice_get slots b.0) refl is
    where
      at : (o : Option Slot) → slice_get slots b.0 ≡ o → passes_from is_out o ≡ true → is_queued rows h b ≡ false
      at None there passed = absurd (false≢true passed)
      at (Some s) there passed = sym (holds.are_slots.each b s there).queued ∙ not-true s.queued (and_parts (not s.resident && not (is_some s.fetcher)) (not s.queued) passed).1

  pub holds_release : Sound rows → (needs : List BundleNo) (o : OpId) (caller : ℕ) → Legal rows limit (h ++ Release o caller ∷ []) → needs ≡ needs_of_op rows h o → references_of h o ≤ 1 → no_repeats needs ≡ true
      → Holds rows (h ++ Release o caller ∷ []) (set wanted o.0 nothing) (change_each let_go (map (λ (b : BundleNo). b.0) needs) slots) (change given_back o.0 courses) (cleared_each [] (passes is_idle (change_each let_go (map (λ (b : BundleNo). b.0) needs) slots)) needs lists) (record { room = order.room; bundles = left_each (passes leaves slots) needs order.bundles }) fetched (opens - 1) closed
  holds_release sound needs o caller legal known last once = record {
    are_wanted = wanted_release rows limit h o caller legal last wanted holds.are_wanted;
    are_slots = after;
    are_courses = forgotten_courses rows limit (h ++ Release o caller ∷ []) legal (change given_back o.0 courses) lists (cleared_each [] (passes is_idle slots2) needs lists) (release_courses rows limit h o caller legal courses lists holds.are_courses) forgets;
    all_lists = length_cleared [] (passes is_idle slots2) needs lists ∙ holds.all_lists;
    in_order =
        ap (λ (l : Ordered). let k : Ordered = record { room = l.room; bundles = left_each (passes leaves slots) needs l.bundles } in k) holds.in_order
        ∙ ap (λ (l : List BundleNo). let k : Ordered = record { room = length rows.bundles; bundles = l } in k)
        (left_is (passes leaves slots) needs (queue rows h) ∙ filter_within (λ c. not (is_in c needs && passes leaves slots c)) (λ c. ltb 0 (count_of rows (h ++ Release o caller ∷ []) c)) (queue rows h) at ∙ sym (queue_release rows limit h o caller));
    now_fetched = holds.now_fetched ∙ sym (fetching_same rows limit h (Release o caller) (λ b. (refl, refl)));
    now_open = omega (arith, holds.now_open, references_release rows limit h before o caller was);
    now_closed = closed_same (Release o caller) refl;
  }
    where
      before : Legal rows limit h
      before = prefix rows limit h (Release o caller ∷ []) legal

      was : is_unreleased h o ≡ true
      was = release_facts rows limit h o caller (legal.answers h (Release o caller) [] refl)

      slots2 : List Slot
      slots2 = change_each let_go (map (λ (b : BundleNo). b.0) needs) slots

      after : AreSlots rows (h ++ Release o caller ∷ []) slots2
      after = slots_release rows limit h o caller legal needs known last slots once holds.are_slots

      -- a list that is given up is that of a bundle that nobody needs
      forgets : (b : BundleNo) (ws : List ℕ) → slice_get (cleared_each [] (passes is_idle slots2) needs lists) b.0 ≡ Some ws → ((ws ≡ []) × (count_of rows (h ++ Release o caller ∷ []) b ≡ 0)) ⊎ (slice_get lists b.0 ≡ Some ws)
      forgets b ws at = elim (cleared_from [] (passes is_idle slots2) needs lists b.0 ws at) [
        | inl gone ↦ inl (gone.0, idle (slice_get slots2 b.0) refl gone.1)
        | inr same ↦ inr same
      ]
        where
          idle : (x : Option Slot) → slice_get slots2 b.0 ≡ x → passes_from is_idle x ≡ true → count_of rows (h ++ Release o caller ∷ []) b ≡ 0
          idle None there passed = absurd (false≢true passed)
          idle (Some s) there passed = sym (after.each b s there).count ∙ eqb-true s.count 0 passed

      by : (t : Bool) (n m : ℕ) → 0 < n → m ≡ n - cond t 1 0 → not (t && leb n 1) ≡ ltb 0 m
      by true n m pos is = elim (cases_lt 1 n) [
        | inl lt ↦ ap not (lt-leb n 1 lt) ∙ sym (lt-ltb 0 m (omega (arith, is)))
        | inr le ↦ ap not (le-leb n 1 le) ∙ sym (le-ltb 0 m (omega (arith, is)))
      ]
      by false n m pos is = sym (lt-ltb 0 m (omega (arith, is)))

      at : (b : BundleNo) → is_in b (queue rows h) ≡ true → not (is_in b needs && passes leaves slots b) ≡ ltb 0 (count_of rows (h ++ Release o caller ∷ []) b)
      at b there =
          let queued : is_queued rows h b ≡ true = sym (in_queue rows h b) ∙ there in
          let slot = slot_is b (queued_below rows sound h b queued) in
          let pos = counted queued in
          ap (λ t. not (is_in b needs && t)) (passes_is leaves b slot.0 slot.1.0 ∙ ap (λ t. t && leb slot.0.count 1) (slot.1.1.queued ∙ queued) ∙ ap (λ n. leb n 1) slot.1.1.count)
          ∙ by (is_in b needs) (count_of rows h b) (count_of rows (h ++ Release o caller ∷ []) b) pos (count_less rows limit h o caller legal needs known last b)
        where
          counted : is_queued rows h b ≡ true → 0 < count_of rows h b
          counted queued = ltb-true 0 (count_of rows h b) (queued_counted rows limit h (prefix rows limit h (Release o caller ∷ []) legal) b queued)

  -- one reference less that isn't the last, and one more
  pub holds_given : (o : OpId) (caller : ℕ) → Legal rows limit (h ++ Release o caller ∷ []) → 1 < references_of h o → Holds rows (h ++ Release o caller ∷ []) wanted slots (change given_back o.0 courses) lists order fetched (opens - 1) closed
  holds_given o caller legal more =
      let before = prefix rows limit h (Release o caller ∷ []) legal in
      let was = release_facts rows limit h o caller (legal.answers h (Release o caller) [] refl) in
      record {
        are_wanted = wanted_calm rows limit h (Release o caller) legal refl wanted holds.are_wanted;
        are_slots = slots_given rows limit h o caller more legal slots holds.are_slots;
        are_courses = release_courses rows limit h o caller legal courses lists holds.are_courses;
        all_lists = holds.all_lists;
        in_order = order_calm (Release o caller) legal (queue_calm rows limit h (Release o caller) legal refl (λ b. refl) (left_calm h o caller more));
        now_fetched = holds.now_fetched ∙ sym (fetching_same rows limit h (Release o caller) (λ b. (refl, refl)));
        now_open = omega (arith, holds.now_open, references_release rows limit h before o caller was);
        now_closed = closed_same (Release o caller) refl;
      }

  pub holds_acquire : (o : OpId) (caller : ℕ) → length h ≤ 1000000 → Legal rows limit (h ++ Acquire o caller ∷ []) → Holds rows (h ++ Acquire o caller ∷ []) wanted slots (change acquired o.0 courses) lists order fetched (opens + 1) closed
  holds_acquire o caller short legal =
      let before = prefix rows limit h (Acquire o caller ∷ []) legal in
      let has = (acquire_facts rows limit h o caller (legal.answers h (Acquire o caller) [] refl)).has in
      record {
        are_wanted = wanted_calm rows limit h (Acquire o caller) legal refl wanted holds.are_wanted;
        are_slots = slots_acquire rows limit h o caller has legal slots holds.are_slots;
        are_courses = acquire_courses rows limit h o caller short legal courses lists holds.are_courses;
        all_lists = holds.all_lists;
        in_order = order_calm (Acquire o caller) legal (queue_calm rows limit h (Acquire o caller) legal refl (λ b. refl) (acquire_calm h o caller has));
        now_fetched = holds.now_fetched ∙ sym (fetching_same rows limit h (Acquire o caller) (λ b. (refl, refl)));
        now_open = omega (arith, holds.now_open, references_acquire rows limit h before o caller has);
        now_closed = closed_same (Acquire o caller) refl;
      }

  waited_is : (test : BundleNo → Bool) (op : ℕ) (needs : List BundleNo) (ls : List (List ℕ)) → waited_each test op needs ls ≡ change_each (λ ops. ops ++ op ∷ []) (map (λ (b : BundleNo). b.0) (filter test needs)) ls
  waited_is test op [] ls = refl
  waited_is test op (b ∷ needs) ls = by (test b) (waited_is test op needs (change (λ ops. ops ++ op ∷ []) b.0 ls)) (waited_is test op needs ls)
    where
      with_it : List (List ℕ)
      with_it = change (λ ops. ops ++ op ∷ []) b.0 ls

      by : (t : Bool) → waited_each test op needs (change (λ ops. ops ++ op ∷ []) b.0 ls) ≡ change_each (λ ops. ops ++ op ∷ []) (map (λ (c : BundleNo). c.0) (filter test needs)) (change (λ ops. ops ++ op ∷ []) b.0 ls) → waited_each test op needs ls ≡ change_each (λ ops. ops ++ op ∷ []) (map (λ (c : BundleNo). c.0) (filter test needs)) ls
          → waited_each test op needs (if t then change (λ ops. ops ++ op ∷ []) b.0 ls else ls) ≡ change_each (λ ops. ops ++ op ∷ []) (map (λ (c : BundleNo). c.0) (if t then b ∷ filter test needs else filter test needs)) ls
      by true one two = one
      by false one two = two

  once_filter : (p : BundleNo → Bool) (xs : List BundleNo) → no_repeats xs ≡ true → no_repeats (filter p xs) ≡ true
  once_filter p [] one = refl
  once_filter p (x ∷ xs) one = let parts = and_parts (not (is_in x xs)) (no_repeats xs) one in by (p x) (in_filter x p xs ∙ ap (λ t. t && p x) (not-true (is_in x xs) parts.0)) (once_filter p xs parts.1)
    where
      by : (t : Bool) → is_in x (filter p xs) ≡ false → no_repeats (filter p xs) ≡ true → no_repeats (cond t (x ∷ filter p xs) (filter p xs)) ≡ true
      by true none rest = ap (λ t. not t && no_repeats (filter p xs)) none ∙ rest
      by false none rest = rest

  -- the lists after an operation began to wait
  waited_at : (test : BundleNo → Bool) (op : ℕ) (needs : List BundleNo) (ls : List (List ℕ)) (b : BundleNo) (ns : List ℕ) → no_repeats needs ≡ true → slice_get (waited_each test op needs ls) b.0 ≡ Some ns → (ws : List ℕ) × ((slice_get ls b.0 ≡ Some ws) × (ns ≡ (if is_in b needs && test b then ws ++ op ∷ [] else ws)))
  waited_at test op needs ls b ns once at =
      let before = changed_once (λ (ops : List ℕ). ops ++ op ∷ []) (filter test needs) ls b.0 ns (once_filter test needs once) (ap (λ (l : List (List ℕ)). slice_get l b.0) (sym (waited_is test op needs ls)) ∙ at) in
      (before.0, (before.1.0, sym before.1.1 ∙ ap (λ t. let l : List ℕ = if t then before.0 ++ op ∷ [] else before.0 in l) (in_filter b test needs)))

  pub holds_load : Sound rows → length h ≤ 1000000 → (o : OpId) (caller : ℕ) (ask : Ask) → IsAnswer rows limit h (Load o caller ask) → Legal rows limit h → (missing : ℕ) → missing ≡ count_by (λ b. not (is_resident rows h b)) (needs_of rows ask)
      → Holds rows (h ++ Load o caller ask ∷ []) (wanted ++ wanted_of rows ask ∷ []) (change_each taken_in (map (λ (b : BundleNo). b.0) (needs_of rows ask)) slots) (courses ++ record { missing = missing; failed = None; references = 1 } ∷ []) (waited_each (passes is_missing slots) o.0 (needs_of rows ask) lists) (record { room = order.room; bundles = joined_each (passes is_out slots) (needs_of rows ask) order.bundles }) fetched (opens + 1) closed
  holds_load sound short o caller ask answer legal missing is = record {
    are_wanted = wanted_load rows limit h legal o caller ask answer wanted holds.are_wanted;
    are_slots = slots_load rows limit h legal o caller ask answer short slots once holds.are_slots;
    are_courses =
        subst (λ n. AreCourses rows (h ++ Load o caller ask ∷ []) (courses ++ record { missing = n; failed = None; references = 1 } ∷ []) (waited_each (passes is_missing slots) o.0 (needs_of rows ask) lists)) (sym is)
        (load_courses rows limit h legal o caller ask answer courses lists (waited_each (passes is_missing slots) o.0 (needs_of rows ask) lists) holds.are_courses joined);
    all_lists = ap length (waited_is (passes is_missing slots) o.0 (needs_of rows ask) lists) ∙ length_change_each (λ ops. ops ++ o.0 ∷ []) (map (λ (b : BundleNo). b.0) (filter (passes is_missing slots) (needs_of rows ask))) lists ∙ holds.all_lists;
    in_order =
        ap (λ (l : Ordered). let k : Ordered = record { room = l.room; bundles = joined_each (passes is_out slots) (needs_of rows ask) l.bundles } in k) holds.in_order
        ∙ ap (λ (l : List BundleNo). let k : Ordered = record { room = length rows.bundles; bundles = l } in k)
        (joined_is (passes is_out slots) (needs_of rows ask) (queue rows h)
        ∙ ap (λ (l : List BundleNo). queue rows h ++ l) (filter_within (passes is_out slots) (is_absent rows h) (needs_of rows ask) (λ b asked. out_is b (asked_below rows sound (Load o caller ask) b asked)))
        ∙ sym (queue_load rows limit h legal o caller ask answer));
    now_fetched = holds.now_fetched ∙ sym (fetching_same rows limit h (Load o caller ask) (λ b. (refl, refl)));
    now_open = omega (arith, holds.now_open, references_load rows limit h legal o caller ask answer);
    now_closed = closed_same (Load o caller ask) refl;
  }
    where
      once : no_repeats (needs_of rows ask) ≡ true
      once = needs_once rows (Load o caller ask)

      lacking : (b : BundleNo) (t : Bool) → is_in b (needs_of rows ask) ≡ t → (t && passes is_missing slots b) ≡ (t && not (is_resident rows h b))
      lacking b true asked = missing_is b (asked_below rows sound (Load o caller ask) b asked)
      lacking b false asked = refl

      joined : IsJoined rows limit h legal o caller ask answer lists (waited_each (passes is_missing slots) o.0 (needs_of rows ask) lists)
      joined b ns at =
          let before = waited_at (passes is_missing slots) o.0 (needs_of rows ask) lists b ns once at in
          (before.0, (before.1.0, before.1.1 ∙ ap (λ t. let l : List ℕ = if t then before.0 ++ o.0 ∷ [] else before.0 in l) (lacking b (is_in b (needs_of rows ask)) refl)))

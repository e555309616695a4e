-- What each event does to the slots of bundles.
use Rattle.std.proofs.Common.{◌≡◌, inl, inr, ℕ, ◌+◌, ◌-◌, ◌^◌, min, ◌≤◌, ◌<◌, Bool, true, false, ◌&&◌, ◌||◌, not, eqb, ltb, List, [], ◌∷◌, ◌++◌, length, map, Some, is_some, slice_get, refl, sym, ◌∙◌, ap, subst, arith, if◌then◌else◌}
use Rattle.std.proofs.lemmas.Bool.{false≢true, and_parts, eq-eqb, ne_eqb, lt-ltb, le-ltb, not-true, cases_eq, cases_lt, cases_Bool}
use Rattle.std.specs.List.{list_any}
use Rattle.addr_base.specs.declared.ids.BundleNo.{BundleNo}
use Rattle.addr_base.specs.declared.ids.OpId.{OpId}
use Rattle.addr_locate.specs.Rows.{Rows, no_repeats}
use Rattle.addr_history.specs.declared.ask.Ask.{Ask}
use Rattle.addr_history.specs.declared.event.Event.{Event}
use Rattle.addr_history.specs.declared.event.Event.TheVariants.{Load, Acquire, Release, Take, Done, Fail, Close}
use Rattle.addr_history.specs.Events.{is_in, is_take_of, is_take_by, is_done_of, is_end_of, needs_of, needs_of_event}
use Rattle.addr_history.specs.Counts.{count_of, is_unreleased, references_of, needs_of_op}
use Rattle.addr_history.specs.Places.{is_resident, is_fetched, is_fetched_by, is_queued}
use Rattle.addr_history.specs.Legal.{IsAnswer, Legal}
use Rattle.addr_history.proofs.Points.{and-true, or-false}
use Rattle.addr_history.proofs.Steps.{counts_on, fetched_push, fetched_by_push, resident_push, queued_push}
use Rattle.addr_history.proofs.Legality.{prefix, release_facts, fail_facts}
use Rattle.addr_history.proofs.Counting.{one_if, count-cons}
use Rattle.addr_history.proofs.Ranges.{take_facts, fetched_by_some}
use Rattle.addr_history.proofs.CountSteps.{IsCalm, take_calm, done_calm, fail_calm, close_calm, acquire_calm, left_calm, count_le, count_calm, count_load, count_release, resident_counted, same_resident}
use Rattle.addr_queue.specs.Changes.{change, change_each, times}
use Rattle.addr_queue.specs.declared.slots.Slot.{Slot}
use Rattle.addr_core.specs.within.Kept.{IsSlot, AreSlots}
use Rattle.addr_core.specs.within.Courses.{times_in}
use Rattle.addr_queue.specs.Slots.{is_by, taken, ended, let_go, taken_in}
use Rattle.addr_queue.proofs.Changing.{length_change, length_change_each, change_same, change_other, change_each_at, was_there}
use Rattle.addr_history.proofs.QueueSteps.{queued_counted}
use Rattle.addr_history.proofs.StatusSteps.{apart}

-- a number stands once in the numbers of different bundles, or not at all
pub times_once : (n : ℕ) (bs : List BundleNo) → no_repeats bs ≡ true → times_in n (map (λ (b : BundleNo). b.0) bs) ≡ one_if (list_any (λ c. eqb c.0 n) bs)
times_once n [] once = refl
times_once n (b ∷ bs) once =
    let parts = and_parts (not (is_in b bs)) (no_repeats bs) once in
    let rest = times_once n bs parts.1 in
    elim (cases_eq b.0 n) [
      | inl same ↦
          let out : list_any (λ (c : BundleNo). eqb c.0 n) bs ≡ false = ap (λ m. list_any (λ (c : BundleNo). eqb c.0 m) bs) (sym same) ∙ not-true (is_in b bs) parts.0 in
          let none : one_if (list_any (λ (c : BundleNo). eqb c.0 n) bs) ≡ 0 = ap one_if out in
          let here : one_if (eqb b.0 n) ≡ 1 = ap one_if (eq-eqb b.0 n same) in
          let all : one_if (eqb b.0 n || list_any (λ (c : BundleNo). eqb c.0 n) bs) ≡ 1 = ap (λ t. one_if (t || list_any (λ (c : BundleNo). eqb c.0 n) bs)) (eq-eqb b.0 n same) in
          omega (arith, rest, none, here, all, count-cons (λ k. eqb k n) b.0 (map (λ (c : BundleNo). c.0) bs))
      | inr other ↦
          let here : one_if (eqb b.0 n) ≡ 0 = ap one_if (ne_eqb b.0 n other) in
          let all : one_if (eqb b.0 n || list_any (λ (c : BundleNo). eqb c.0 n) bs) ≡ one_if (list_any (λ (c : BundleNo). eqb c.0 n) bs) = ap (λ t. one_if (t || list_any (λ (c : BundleNo). eqb c.0 n) bs)) (ne_eqb b.0 n other) in
          omega (arith, rest, here, all, count-cons (λ k. eqb k n) b.0 (map (λ (c : BundleNo). c.0) bs))
    ]

-- what stands at a place after the elements of some bundles were changed
pub changed_once : {X : Type 0} (f : X → X) (bs : List BundleNo) (xs : List X) (n : ℕ) (y : X) → no_repeats bs ≡ true → slice_get (change_each f (map (λ (b : BundleNo). b.0) bs) xs) n ≡ Some y → (x : X) × ((slice_get xs n ≡ Some x) × ((if list_any (λ c. eqb c.0 n) bs then f x else x) ≡ y))
changed_once f bs xs n y once at =
    let before = was_there (times f (times_in n (map (λ (b : BundleNo). b.0) bs))) (slice_get xs n) y (sym (change_each_at f (map (λ (b : BundleNo). b.0) bs) xs n) ∙ at) in
    (before.0, (before.1.0, by (list_any (λ c. eqb c.0 n) bs) before.0 ∙ ap (λ k. times f k before.0) (sym (times_once n bs once)) ∙ before.1.1))
  where
    by : (t : Bool) (x : _) → (if t then f x else x) ≡ times f (one_if t) x
    by true x = refl
    by false x = refl

last_falls : (n : ℕ) → ltb 0 (n - 1) ≡ ltb 1 n
last_falls n = elim (cases_lt 1 n) [
  | inl lt ↦ lt-ltb 0 (n - 1) (omega arith) ∙ sym (lt-ltb 1 n lt)
  | inr le ↦ le-ltb 0 (n - 1) (omega arith) ∙ sym (le-ltb 1 n le)
]

-- a test that asks for a count holds on where the count is positive
counted_on : (t : Bool) (n : ℕ) → (t ≡ true → ltb 0 n ≡ true) → (t && ltb 0 n) ≡ t
counted_on true n counted = counted refl
counted_on false n counted = refl

module _ (rows : Rows) (limit : ℕ) where
  module _ (h : List Event) (legal : Legal rows limit h) (o : OpId) (caller : ℕ) (ask : Ask) (answer : IsAnswer rows limit h (Load o caller ask)) where
    counts : (b : BundleNo) → count_of rows (h ++ Load o caller ask ∷ []) b ≡ count_of rows h b + one_if (is_in b (needs_of rows ask))
    counts = count_load rows limit h legal o caller ask answer

    slot_load : length h ≤ 1000000 → (b : BundleNo) (s : Slot) → IsSlot rows h b s → IsSlot rows (h ++ Load o caller ask ∷ []) b (if is_in b (needs_of rows ask) then taken_in s else s)
    slot_load short b s is = by (is_in b (needs_of rows ask)) refl
      where
        e : Event
        e = Load o caller ask

        fetched : is_some s.fetcher ≡ is_fetched (h ++ e ∷ []) b
        fetched = is.fetched ∙ sym (fetched_push rows h e b ∙ or-false (is_fetched h b && true) ∙ and-true (is_fetched h b))

        fetcher : (w : ℕ) → is_by w s.fetcher ≡ is_fetched_by (h ++ e ∷ []) b w
        fetcher w = is.fetcher w ∙ sym (fetched_by_push rows h e b w ∙ or-false (is_fetched_by h b w && true) ∙ and-true (is_fetched_by h b w))

        resident : s.resident ≡ is_resident rows (h ++ e ∷ []) b
        resident = is.resident ∙ sym (same_resident rows limit h legal o caller ask answer b)

        by : (t : Bool) → is_in b (needs_of rows ask) ≡ t → IsSlot rows (h ++ e ∷ []) b (if t then taken_in s else s)
        by true needs = record {
          count = (let same : min (s.count + 1) (2 ^ 32 - 1) ≡ count_of rows h b + 1 = omega (arith, is.count, count_le rows h b) in same) ∙ sym (counts b ∙ ap (λ t. count_of rows h b + one_if t) needs);
          resident = resident;
          fetched = fetched;
          fetcher = fetcher;
          queued =
              ap (λ t. t || (not s.resident && not (is_some s.fetcher))) is.queued
              ∙ ap (λ t. is_queued rows h b || (not t && not (is_some s.fetcher))) is.resident
              ∙ ap (λ t. is_queued rows h b || (not (is_resident rows h b) && not t)) is.fetched
              ∙ sym (
              queued_push rows h e b
              ∙ ap (λ t. ((is_queued rows h b && true) || ((t && not (is_resident rows h b)) && not (is_fetched h b))) && counts_on rows h e b) needs
              ∙ ap (λ t. (t || (not (is_resident rows h b) && not (is_fetched h b))) && counts_on rows h e b) (and-true (is_queued rows h b))
              ∙ ap (λ t. (is_queued rows h b || (not (is_resident rows h b) && not (is_fetched h b))) && t) (lt-ltb 0 (count_of rows (h ++ e ∷ []) b) (omega (arith, counts b, let one : one_if (is_in b (needs_of rows ask)) ≡ 1 = ap one_if needs in one)))
              ∙ and-true (is_queued rows h b || (not (is_resident rows h b) && not (is_fetched h b)))
              );
        }
        by false needs = record {
          count = is.count ∙ sym (counts b ∙ ap (λ t. count_of rows h b + one_if t) needs ∙ omega arith);
          resident = resident;
          fetched = fetched;
          fetcher = fetcher;
          queued = is.queued ∙ sym (
              queued_push rows h e b
              ∙ ap (λ t. ((is_queued rows h b && true) || ((t && not (is_resident rows h b)) && not (is_fetched h b))) && counts_on rows h e b) needs
              ∙ ap (λ t. t && counts_on rows h e b) (or-false (is_queued rows h b && true) ∙ and-true (is_queued rows h b))
              ∙ ap (λ n. is_queued rows h b && ltb 0 n) (counts b ∙ ap (λ t. count_of rows h b + one_if t) needs ∙ (let same : count_of rows h b + 0 ≡ count_of rows h b = omega arith in same))
              ∙ counted_on (is_queued rows h b) (count_of rows h b) (queued_counted rows limit h legal b)
              );
        }

    pub slots_load : length h ≤ 1000000 → (slots : List Slot) → no_repeats (needs_of rows ask) ≡ true → AreSlots rows h slots → AreSlots rows (h ++ Load o caller ask ∷ []) (change_each taken_in (map (λ (b : BundleNo). b.0) (needs_of rows ask)) slots)
    slots_load short slots once are = record {
      many = length_change_each taken_in (map (λ (b : BundleNo). b.0) (needs_of rows ask)) slots ∙ are.many;
      each = λ b s at. let before = changed_once taken_in (needs_of rows ask) slots b.0 s once at in subst (IsSlot rows (h ++ Load o caller ask ∷ []) b) before.1.1 (slot_load short b before.0 (are.each b before.0 before.1.0));
    }

  module _ (h : List Event) (o : OpId) (caller : ℕ) (legal : Legal rows limit (h ++ Release o caller ∷ [])) (needs : List BundleNo) (known : needs ≡ needs_of_op rows h o) (last : references_of h o ≤ 1) where
    pub count_less : (b : BundleNo) → count_of rows (h ++ Release o caller ∷ []) b ≡ count_of rows h b - one_if (is_in b needs)
    count_less b =
        let less = count_release rows limit h (prefix rows limit h (Release o caller ∷ []) legal) o caller (release_facts rows limit h o caller (legal.answers h (Release o caller) [] refl)) last b in
        let same : one_if (is_in b needs) ≡ one_if (is_in b (needs_of_op rows h o)) = ap (λ (bs : List BundleNo). one_if (is_in b bs)) known in
        omega (arith, less, same)

    slot_release : (b : BundleNo) (s : Slot) → IsSlot rows h b s → IsSlot rows (h ++ Release o caller ∷ []) b (if is_in b needs then let_go s else s)
    slot_release b s is = by (is_in b needs) refl
      where
        e : Event
        e = Release o caller

        before : Legal rows limit h
        before = prefix rows limit h (e ∷ []) legal

        fetched : is_some s.fetcher ≡ is_fetched (h ++ e ∷ []) b
        fetched = is.fetched ∙ sym (fetched_push rows h e b ∙ or-false (is_fetched h b && true) ∙ and-true (is_fetched h b))

        fetcher : (w : ℕ) → is_by w s.fetcher ≡ is_fetched_by (h ++ e ∷ []) b w
        fetcher w = is.fetcher w ∙ sym (fetched_by_push rows h e b w ∙ or-false (is_fetched_by h b w && true) ∙ and-true (is_fetched_by h b w))

        res : is_resident rows (h ++ e ∷ []) b ≡ (is_resident rows h b && counts_on rows h e b)
        res = resident_push rows h e b ∙ ap (λ t. t && counts_on rows h e b) (or-false (is_resident rows h b))

        que : is_queued rows (h ++ e ∷ []) b ≡ (is_queued rows h b && counts_on rows h e b)
        que = queued_push rows h e b ∙ ap (λ t. t && counts_on rows h e b) (or-false (is_queued rows h b && true) ∙ and-true (is_queued rows h b))

        by : (t : Bool) → is_in b needs ≡ t → IsSlot rows (h ++ e ∷ []) b (if t then let_go s else s)
        by true there =
            let count : count_of rows (h ++ e ∷ []) b ≡ s.count - 1 = count_less b ∙ ap (λ t. count_of rows h b - one_if t) there ∙ ap (λ n. n - 1) (sym is.count) in
            let on : counts_on rows h e b ≡ ltb 1 s.count = ap (ltb 0) count ∙ last_falls s.count in
            record {
              count = sym count;
              resident = ap (λ t. t && ltb 1 s.count) is.resident ∙ ap (λ t. is_resident rows h b && t) (sym on) ∙ sym res;
              fetched = fetched;
              fetcher = fetcher;
              queued = ap (λ t. t && ltb 1 s.count) is.queued ∙ ap (λ t. is_queued rows h b && t) (sym on) ∙ sym que;
            }
        by false there =
            let count : count_of rows (h ++ e ∷ []) b ≡ count_of rows h b = count_less b ∙ ap (λ t. count_of rows h b - one_if t) there ∙ omega arith in
            record {
              count = is.count ∙ sym count;
              resident = is.resident ∙ sym (res ∙ ap (λ n. is_resident rows h b && ltb 0 n) count ∙ counted_on (is_resident rows h b) (count_of rows h b) (resident_counted rows limit h before b));
              fetched = fetched;
              fetcher = fetcher;
              queued = is.queued ∙ sym (que ∙ ap (λ n. is_queued rows h b && ltb 0 n) count ∙ counted_on (is_queued rows h b) (count_of rows h b) (queued_counted rows limit h before b));
            }

    pub slots_release : (slots : List Slot) → no_repeats needs ≡ true → AreSlots rows h slots → AreSlots rows (h ++ Release o caller ∷ []) (change_each let_go (map (λ (b : BundleNo). b.0) needs) slots)
    slots_release slots once are = record {
      many = length_change_each let_go (map (λ (b : BundleNo). b.0) needs) slots ∙ are.many;
      each = λ b s at. let before = changed_once let_go needs slots b.0 s once at in subst (IsSlot rows (h ++ Release o caller ∷ []) b) before.1.1 (slot_release b before.0 (are.each b before.0 before.1.0));
    }

  -- an event that changes no count
  module _ (h : List Event) (e : Event) (legal : Legal rows limit (h ++ e ∷ [])) (calm : IsCalm h e) (asks : (b : BundleNo) → is_in b (needs_of_event rows e) ≡ false) where
    before_calm : Legal rows limit h
    before_calm = prefix rows limit h (e ∷ []) legal

    calm_count : (b : BundleNo) → count_of rows (h ++ e ∷ []) b ≡ count_of rows h b
    calm_count b = count_calm rows h e b calm

    calm_queued : (b : BundleNo) → is_queued rows (h ++ e ∷ []) b ≡ (is_queued rows h b && not (is_take_of b e))
    calm_queued b =
        queued_push rows h e b
        ∙ ap (λ t. ((is_queued rows h b && not (is_take_of b e)) || ((t && not (is_resident rows h b)) && not (is_fetched h b))) && counts_on rows h e b) (asks b)
        ∙ ap (λ t. t && counts_on rows h e b) (or-false (is_queued rows h b && not (is_take_of b e)))
        ∙ ap (λ n. (is_queued rows h b && not (is_take_of b e)) && ltb 0 n) (calm_count b)
        ∙ counted_on (is_queued rows h b && not (is_take_of b e)) (count_of rows h b) (λ is. queued_counted rows limit h before_calm b (and_parts (is_queued rows h b) (not (is_take_of b e)) is).0)

    slot_idle : (b : BundleNo) (s : Slot) → is_take_of b e ≡ false → is_end_of b e ≡ false → is_done_of b e ≡ false → ((w : ℕ) → is_take_by b w e ≡ false) → IsSlot rows h b s → IsSlot rows (h ++ e ∷ []) b s
    slot_idle b s take end done by is = record {
      count = is.count ∙ sym (calm_count b);
      resident = is.resident ∙ sym (resident_push rows h e b ∙ ap (λ t. (is_resident rows h b || t) && counts_on rows h e b) done ∙ ap (λ t. t && counts_on rows h e b) (or-false (is_resident rows h b)) ∙ ap (λ n. is_resident rows h b && ltb 0 n) (calm_count b) ∙ counted_on (is_resident rows h b) (count_of rows h b) (resident_counted rows limit h before_calm b));
      fetched = is.fetched ∙ sym (fetched_push rows h e b ∙ ap (λ t. (is_fetched h b && not (is_end_of b e)) || t) take ∙ or-false (is_fetched h b && not (is_end_of b e)) ∙ ap (λ t. is_fetched h b && not t) end ∙ and-true (is_fetched h b));
      fetcher = λ w. is.fetcher w ∙ sym (fetched_by_push rows h e b w ∙ ap (λ t. (is_fetched_by h b w && not (is_end_of b e)) || t) (by w) ∙ or-false (is_fetched_by h b w && not (is_end_of b e)) ∙ ap (λ t. is_fetched_by h b w && not t) end ∙ and-true (is_fetched_by h b w));
      queued = is.queued ∙ sym (calm_queued b ∙ ap (λ t. is_queued rows h b && not t) take ∙ and-true (is_queued rows h b));
    }

    -- only the slot of one bundle changes
    slots_calm : (o : BundleNo) (f : Slot → Slot) → ((b : BundleNo) → eqb o.0 b.0 ≡ false → (is_take_of b e ≡ false) × (is_end_of b e ≡ false) × (is_done_of b e ≡ false)) → ((b : BundleNo) (w : ℕ) → eqb o.0 b.0 ≡ false → is_take_by b w e ≡ false) → ((s : Slot) → IsSlot rows h o s → IsSlot rows (h ++ e ∷ []) o (f s)) → (slots : List Slot) → AreSlots rows h slots → AreSlots rows (h ++ e ∷ []) (change f o.0 slots)
    slots_calm o f off by here slots are = record {
      many = length_change f o.0 slots ∙ are.many;
      each = λ b s at. elim (cases_eq o.0 b.0) [
        | inl same ↦
            let it : o ≡ b = ap (λ n. let r : BundleNo = record { 0 = n } in r) same in
            let before = was_there f (slice_get slots o.0) s (sym (change_same f o.0 slots) ∙ ap (slice_get (change f o.0 slots)) same ∙ at) in
            subst (λ (c : BundleNo). IsSlot rows (h ++ e ∷ []) c s) it (subst (IsSlot rows (h ++ e ∷ []) o) before.1.1 (here before.0 (are.each o before.0 before.1.0)))
        | inr other ↦
            let no = ne_eqb o.0 b.0 other in
            let quiet = off b no in
            slot_idle b s quiet.0 quiet.1 quiet.2 (λ w. by b w no) (are.each b s (sym (change_other f o.0 b.0 slots (λ same. other (sym same))) ∙ at))
      ];
    }

    pub slots_same : ((b : BundleNo) → (is_take_of b e ≡ false) × (is_end_of b e ≡ false) × (is_done_of b e ≡ false)) → ((b : BundleNo) (w : ℕ) → is_take_by b w e ≡ false) → (slots : List Slot) → AreSlots rows h slots → AreSlots rows (h ++ e ∷ []) slots
    slots_same off by slots are = record {
      many = are.many;
      each = λ b s at. slot_idle b s (off b).0 (off b).1 (off b).2 (λ w. by b w) (are.each b s at);
    }

  and_off : (t : Bool) → (t && false) ≡ false
  and_off true = refl
  and_off false = refl

  pub slots_take : (h : List Event) (o : BundleNo) (w : ℕ) → Legal rows limit (h ++ Take o w ∷ []) → (slots : List Slot) → AreSlots rows h slots → AreSlots rows (h ++ Take o w ∷ []) (change (taken w) o.0 slots)
  slots_take h o w legal =
      slots_calm h (Take o w) legal (take_calm h o w) (λ b. refl) o (taken w) (λ b no. (no, refl, refl)) (λ b v no. ap (λ t. t && eqb w v) no) (λ s is. record {
        count = is.count ∙ sym (calm_count h (Take o w) legal (take_calm h o w) (λ b. refl) o);
        resident = is.resident ∙ sym (resident_push rows h (Take o w) o ∙ ap (λ t. t && counts_on rows h (Take o w) o) (or-false (is_resident rows h o)) ∙ ap (λ n. is_resident rows h o && ltb 0 n) (calm_count h (Take o w) legal (take_calm h o w) (λ b. refl) o) ∙ counted_on (is_resident rows h o) (count_of rows h o) (resident_counted rows limit h (prefix rows limit h (Take o w ∷ []) legal) o));
        fetched = sym (fetched_push rows h (Take o w) o ∙ ap (λ t. (is_fetched h o && true) || t) (eq-eqb o.0 o.0 refl) ∙ or_on (is_fetched h o && true));
        fetcher = λ v. sym (fetched_by_push rows h (Take o w) o v ∙ ap (λ t. (t && true) || (eqb o.0 o.0 && eqb w v)) (nobody v) ∙ ap (λ t. t && eqb w v) (eq-eqb o.0 o.0 refl));
        queued = sym (calm_queued h (Take o w) legal (take_calm h o w) (λ b. refl) o ∙ ap (λ t. is_queued rows h o && not t) (eq-eqb o.0 o.0 refl) ∙ and_off (is_queued rows h o));
      })
    where
      or_on : (t : Bool) → (t || true) ≡ true
      or_on true = refl
      or_on false = refl

      before : Legal rows limit h
      before = prefix rows limit h (Take o w ∷ []) legal

      free : is_fetched h o ≡ false
      free = elim (cases_Bool (is_fetched h o)) [
        | inl fetched ↦ absurd (false≢true (sym ((apart rows limit h before o).1 fetched).1 ∙ take_facts rows limit h o w (legal.answers h (Take o w) [] refl)))
        | inr none ↦ none
      ]

      nobody : (v : ℕ) → is_fetched_by h o v ≡ false
      nobody v = elim (cases_Bool (is_fetched_by h o v)) [
        | inl by ↦ absurd (false≢true (sym free ∙ fetched_by_some h o v by))
        | inr none ↦ none
      ]

  pub slots_done : (h : List Event) (o : BundleNo) (w : ℕ) → Legal rows limit (h ++ Done o w ∷ []) → (slots : List Slot) → AreSlots rows h slots → AreSlots rows (h ++ Done o w ∷ []) (change (λ s. ended (ltb 0 s.count) s) o.0 slots)
  slots_done h o w legal =
      slots_calm h (Done o w) legal (done_calm h o w) (λ b. refl) o (λ s. ended (ltb 0 s.count) s) (λ b no. (refl, no, no)) (λ b v no. refl) (λ s is. record {
        count = is.count ∙ sym (calm_count h (Done o w) legal (done_calm h o w) (λ b. refl) o);
        resident = sym (resident_push rows h (Done o w) o ∙ ap (λ t. (is_resident rows h o || t) && counts_on rows h (Done o w) o) (eq-eqb o.0 o.0 refl) ∙ ap (λ t. t && counts_on rows h (Done o w) o) (or_on (is_resident rows h o)) ∙ ap (ltb 0) (calm_count h (Done o w) legal (done_calm h o w) (λ b. refl) o ∙ sym is.count));
        fetched = sym (fetched_push rows h (Done o w) o ∙ ap (λ t. (is_fetched h o && not t) || false) (eq-eqb o.0 o.0 refl) ∙ ap (λ t. t || false) (and_off (is_fetched h o)));
        fetcher = λ v. sym (fetched_by_push rows h (Done o w) o v ∙ ap (λ t. (is_fetched_by h o v && not t) || false) (eq-eqb o.0 o.0 refl) ∙ ap (λ t. t || false) (and_off (is_fetched_by h o v)));
        queued = is.queued ∙ sym (calm_queued h (Done o w) legal (done_calm h o w) (λ b. refl) o ∙ and-true (is_queued rows h o));
      })
    where
      or_on : (t : Bool) → (t || true) ≡ true
      or_on true = refl
      or_on false = refl

  pub slots_fail : (h : List Event) (o : BundleNo) (w : ℕ) (k : _) → Legal rows limit (h ++ Fail o w k ∷ []) → (slots : List Slot) → AreSlots rows h slots → AreSlots rows (h ++ Fail o w k ∷ []) (change (ended false) o.0 slots)
  slots_fail h o w k legal =
      slots_calm h (Fail o w k) legal (fail_calm h o w k) (λ b. refl) o (ended false) (λ b no. (refl, no, refl)) (λ b v no. refl) (λ s is. record {
        count = is.count ∙ sym (calm_count h (Fail o w k) legal (fail_calm h o w k) (λ b. refl) o);
        resident = sym (resident_push rows h (Fail o w k) o ∙ ap (λ t. (t || false) && counts_on rows h (Fail o w k) o) ((apart rows limit h (prefix rows limit h (Fail o w k ∷ []) legal) o).1 (fetched_by_some h o w (fail_facts rows limit h o w k (legal.answers h (Fail o w k) [] refl)))).0);
        fetched = sym (fetched_push rows h (Fail o w k) o ∙ ap (λ t. (is_fetched h o && not t) || false) (eq-eqb o.0 o.0 refl) ∙ ap (λ t. t || false) (and_off (is_fetched h o)));
        fetcher = λ v. sym (fetched_by_push rows h (Fail o w k) o v ∙ ap (λ t. (is_fetched_by h o v && not t) || false) (eq-eqb o.0 o.0 refl) ∙ ap (λ t. t || false) (and_off (is_fetched_by h o v)));
        queued = is.queued ∙ sym (calm_queued h (Fail o w k) legal (fail_calm h o w k) (λ b. refl) o ∙ and-true (is_queued rows h o));
      })

  pub slots_close : (h : List Event) → Legal rows limit (h ++ Close ∷ []) → (slots : List Slot) → AreSlots rows h slots → AreSlots rows (h ++ Close ∷ []) slots
  slots_close h legal = slots_same h Close legal (close_calm h) (λ b. refl) (λ b. (refl, refl, refl)) (λ b w. refl)

  pub slots_acquire : (h : List Event) (o : OpId) (caller : ℕ) → is_unreleased h o ≡ true → Legal rows limit (h ++ Acquire o caller ∷ []) → (slots : List Slot) → AreSlots rows h slots → AreSlots rows (h ++ Acquire o caller ∷ []) slots
  slots_acquire h o caller has legal = slots_same h (Acquire o caller) legal (acquire_calm h o caller has) (λ b. refl) (λ b. (refl, refl, refl)) (λ b w. refl)

  -- a Release that leaves a reference
  pub slots_given : (h : List Event) (o : OpId) (caller : ℕ) → 1 < references_of h o → Legal rows limit (h ++ Release o caller ∷ []) → (slots : List Slot) → AreSlots rows h slots → AreSlots rows (h ++ Release o caller ∷ []) slots
  slots_given h o caller more legal = slots_same h (Release o caller) legal (left_calm h o caller more) (λ b. refl) (λ b. (refl, refl, refl)) (λ b w. refl)

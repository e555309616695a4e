-- What a core keeps, one event on.
use Rattle.std.proofs.Common.{◌≡◌, inl, inr, ℕ, ◌+◌, ◌≤◌, ◌<◌, Bool, true, false, not, eqb, ltb, List, [], ◌∷◌, ◌++◌, length, filter, Option, Some, None, slice_get, Vec, vec_len, vec_capacity, refl, sym, ◌∙◌, ap, subst, arith, if◌then◌else◌}
use Rattle.std.specs.declared.alloc.Global.{Global}
use Rattle.addr_base.specs.declared.ids.BundleNo.{BundleNo}
use Rattle.addr_base.specs.declared.ids.Digest.{Digest}
use Rattle.addr_base.specs.declared.ids.OpId.{OpId}
use Rattle.addr_locate.specs.Rows.{Rows}
use Rattle.addr_history.specs.declared.event.Event.{Event}
use Rattle.addr_history.specs.declared.event.Event.TheVariants.{Take, Done, Fail, Close}
use Rattle.addr_history.specs.Counts.{is_closed, is_unreleased, count_of}
use Rattle.addr_history.specs.Places.{is_fetched_by}
use Rattle.addr_history.specs.Answers.{reserved, close_adds, fail_adds}
use Rattle.addr_history.specs.Legal.{IsAnswer, Legal}
use Rattle.addr_history.proofs.Legality.{extend}
use Rattle.addr_history.proofs.Ranges.{Sound, take_facts, fetched_below, fetched_by_some}
use Rattle.addr_history.proofs.Owed.{within_limit}
use Rattle.addr_history.proofs.Counting.{references_release}
use Rattle.std.proofs.lemmas.Bool.{ltb-false, cases_Bool}
use Rattle.addr_core.specs.within.Kept.{Known, IsJournal, HasRooms}
use Rattle.addr_core.proofs.Advance.{journal_record}
use Rattle.addr_queue.specs.Queue.{Ordered, is_among}
use Rattle.addr_queue.specs.declared.slots.Slot.{Slot}
use Rattle.addr_core.specs.declared.courses.Course.{Course}
use Rattle.addr_queue.specs.Changes.{change}
use Rattle.addr_core.specs.within.Kept.{Holds, IsCore}
use Rattle.addr_core.specs.within.Courses.{Waiting, waiting_lists}
use Rattle.addr_queue.specs.Slots.{passes, passes_from, is_by, taken}
use Rattle.addr_history.proofs.QueueSteps.{in_queue}
use Rattle.addr_queue.proofs.Changing.{slice_there}
use Rattle.addr_core.proofs.Holding.{holds_take, slot_is}
use Rattle.addr_history.proofs.QueueEvents.{fetching_ended}
use Rattle.addr_queue.proofs.Changing.{past_from}
use Rattle.addr_base.specs.declared.cause.Cause.{Cause}
use Rattle.addr_core.specs.declared.wanted.Wanted.{Wanted}

module _ (rows : Rows) (limit : ℕ) (h : List Event) (wanted : List Wanted) (slots : List Slot) (courses : List Course) (lists : List (List ℕ)) (order : Ordered) (fetched opens : ℕ) (closed : Bool) (holds : Holds rows h wanted slots courses lists order fetched opens closed) where
  -- a bundle that is taken stands in the line
  pub first_there : (b : BundleNo) (w : ℕ) → IsAnswer rows limit h (Take b w) → is_among b order.bundles ≡ true
  first_there b w answer = ap (λ (l : Ordered). is_among b l.bundles) holds.in_order ∙ in_queue rows h b ∙ take_facts rows limit h b w answer

  -- the counts stay within what is owed
  pub fetched_fits : Known rows limit h → fetched ≤ 1000000
  unfolding reserved
  fetched_fits known = omega (arith, holds.now_fetched, within_limit rows limit known.sound known.positive h known.legal, known.few)

  pub opens_fits : Known rows limit h → opens ≤ 1000000
  unfolding reserved
  opens_fits known = omega (arith, holds.now_open, within_limit rows limit known.sound known.positive h known.legal, known.few)

module _ {I : Type 0} (fits : I → ℕ → Digest → Type 0) (rows : Rows) (limit : ℕ) (ev : Vec Event Global) (nd : Vec Wanted Global) (im : Vec (Option I) Global) (sl : Vec Slot Global) (co : Vec Course Global) (wa : Vec Waiting Global) (order : Ordered) (fetched opens : ℕ) (closed : Bool) (kept : IsCore fits rows limit ev nd im sl co wa order fetched opens closed) where
  pub core_take : (b : BundleNo) (w : ℕ) → IsAnswer rows limit ev.items (Take b w) → (ev2 : Vec Event Global) → ev2.items ≡ ev.items ++ Take b w ∷ [] → vec_len ev2 ≡ vec_len ev + 1 → vec_capacity ev ≤ vec_capacity ev2 → (sl2 : Vec Slot Global) → sl2.items ≡ change (taken w) b.0 sl.items → (order2 : Ordered) → order2 ≡ record { room = order.room; bundles = filter (λ c. not (eqb c.0 b.0)) order.bundles } → IsCore fits rows limit ev2 nd im sl2 co wa order2 (fetched + 1) opens closed
  core_take b w answer ev2 items len cap sl2 is_slots order2 is_order =
      let legal = extend rows limit ev.items (Take b w) kept.journal.known.legal answer in
      record {
        journal = journal_record fits rows limit ev im kept.journal (Take b w) answer tt ev2 items len cap;
        holds =
            subst (λ (l : List Event). Holds rows l nd.items sl2.items co.items (waiting_lists wa.items) order2 (fetched + 1) opens closed) (sym items)
            (subst (λ (s : List Slot). Holds rows (ev.items ++ Take b w ∷ []) nd.items s co.items (waiting_lists wa.items) order2 (fetched + 1) opens closed) (sym is_slots)
            (subst (λ (l : Ordered). Holds rows (ev.items ++ Take b w ∷ []) nd.items (change (taken w) b.0 sl.items) co.items (waiting_lists wa.items) l (fetched + 1) opens closed) (sym is_order)
            (holds_take rows limit ev.items nd.items sl.items co.items (waiting_lists wa.items) order fetched opens closed kept.holds kept.journal.known.sound b w legal)));
        rooms = kept.rooms;
      }

pub make_core : {I : Type 0} (fits : I → ℕ → Digest → Type 0) (rows : Rows) (limit : ℕ) (ev : Vec Event Global) (nd : Vec Wanted Global) (im : Vec (Option I) Global) (sl : Vec Slot Global) (co : Vec Course Global) (wa : Vec Waiting Global) (order : Ordered) (fetched opens : ℕ) (closed : Bool)
    → IsJournal fits rows limit ev im → (g : List Event) → ev.items ≡ g → (N : List Wanted) → nd.items ≡ N → (S : List Slot) → sl.items ≡ S → (C : List Course) → co.items ≡ C → (L : List (List ℕ)) → waiting_lists wa.items ≡ L → (l : Ordered) → order ≡ l → Holds rows g N S C L l fetched opens closed → HasRooms limit nd co
    → IsCore fits rows limit ev nd im sl co wa order fetched opens closed
make_core fits rows limit ev nd im sl co wa order fetched opens closed journal g is_g N is_N S is_S C is_C L is_L l is_l holds rooms = record {
  journal = journal;
  holds =
      subst (λ (x : List Event). Holds rows x nd.items sl.items co.items (waiting_lists wa.items) order fetched opens closed) (sym is_g)
      (subst (λ (x : List Wanted). Holds rows g x sl.items co.items (waiting_lists wa.items) order fetched opens closed) (sym is_N)
      (subst (λ (x : List Slot). Holds rows g N x co.items (waiting_lists wa.items) order fetched opens closed) (sym is_S)
      (subst (λ (x : List Course). Holds rows g N S x (waiting_lists wa.items) order fetched opens closed) (sym is_C)
      (subst (λ (x : List (List ℕ)). Holds rows g N S C x order fetched opens closed) (sym is_L)
      (subst (λ (x : Ordered). Holds rows g N S C L x fetched opens closed) (sym is_l) holds)))));
  rooms = rooms;
}

pub close_answer : (rows : Rows) (limit : ℕ) (h : List Event) → is_closed h ≡ false → IsAnswer rows limit h Close
unfolding close_adds
close_answer rows limit h is = ap (λ t. if t then [] else Close ∷ []) is

pub fail_answer : (rows : Rows) (limit : ℕ) (h : List Event) (b : BundleNo) (worker : ℕ) (cause : Cause) → is_fetched_by h b worker ≡ true → IsAnswer rows limit h (Fail b worker cause)
unfolding fail_adds
fail_answer rows limit h b worker cause is = ap (λ t. if t then Fail b worker cause ∷ [] else []) is

module _ (rows : Rows) (limit : ℕ) (h : List Event) (wanted : List Wanted) (slots : List Slot) (courses : List Course) (lists : List (List ℕ)) (order : Ordered) (fetched opens : ℕ) (closed : Bool) (holds : Holds rows h wanted slots courses lists order fetched opens closed) (sound : Sound rows) (legal : Legal rows limit h) where
  pub below_rows : (b : BundleNo) (w : ℕ) → is_fetched_by h b w ≡ true → b.0 < length rows.bundles
  below_rows b w by = fetched_below rows limit sound h legal b (fetched_by_some h b w by)

  pub fetched_pos : (b : BundleNo) (w : ℕ) → is_fetched_by h b w ≡ true → 1 ≤ fetched
  fetched_pos b w by = omega (arith, holds.now_fetched, fetching_ended rows limit h (Done b w) b (λ c. refl) (λ c. refl) (below_rows b w by) (fetched_by_some h b w by))

  pub opens_pos : (op : OpId) (caller : ℕ) → is_unreleased h op ≡ true → 1 ≤ opens
  opens_pos op caller is = omega (arith, holds.now_open, references_release rows limit h legal op caller is)

  pub fetched_by_at : (b : BundleNo) (w : ℕ) → passes (λ s. is_by w s.fetcher) slots b ≡ is_fetched_by h b w
  fetched_by_at b w = at (slice_get slots b.0) refl
    where
      at : (o : Option Slot) → slice_get slots b.0 ≡ o → passes_from (λ (s : Slot). is_by w s.fetcher) (slice_get slots b.0) ≡ is_fetched_by h b w
      at (Some s) is = ap (passes_from (λ (s : Slot). is_by w s.fetcher)) is ∙ (holds.are_slots.each b s is).fetcher w
      at None is = ap (passes_from (λ (s : Slot). is_by w s.fetcher)) is ∙ elim (cases_Bool (is_fetched_by h b w)) [
        | inl by ↦ absurd (omega (arith, below_rows b w by, past_from slots b.0 is, holds.are_slots.many))
        | inr none ↦ sym none
      ]

  pub counted_at : (b : BundleNo) (w : ℕ) → is_fetched_by h b w ≡ true → passes (λ s. ltb 0 s.count) slots b ≡ ltb 0 (count_of rows h b)
  counted_at b w by = let slot = slot_is rows limit h wanted slots courses lists order fetched opens closed holds b (below_rows b w by) in ap (passes_from (λ (s : Slot). ltb 0 s.count)) slot.1.0 ∙ ap (ltb 0) slot.1.1.count

  pub list_there : (b : BundleNo) (w : ℕ) → is_fetched_by h b w ≡ true → (ws : List ℕ) × (slice_get lists b.0 ≡ Some ws)
  list_there b w by = slice_there lists b.0 (omega (arith, below_rows b w by, holds.all_lists))

pub is_zero : (n : ℕ) → ltb 0 n ≡ false → n ≡ 0
is_zero n is = omega (arith, ltb-false 0 n is)

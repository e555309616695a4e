-- The queue after each event; its length, and how many bundles are fetched.
use Rattle.std.proofs.Common.{◌≡◌, inl, inr, ℕ, ◌+◌, ◌<◌, Bool, true, false, ◌&&◌, ◌||◌, not, eqb, ltb, List, [], ◌∷◌, ◌++◌, length, filter, refl, sym, ◌∙◌, ap, arith}
use Rattle.std.proofs.lemmas.Bool.{false≢true, eq-eqb, ne_eqb, ltb-true, lt-ltb, cases_eq}
use Rattle.std.proofs.lemmas.List.{append-nil}
use Rattle.std.specs.List.{count_by}
use Rattle.addr_base.specs.declared.ids.BundleNo.{BundleNo}
use Rattle.addr_base.specs.declared.ids.OpId.{OpId}
use Rattle.addr_locate.specs.Rows.{Rows, no_repeats, are_bundles}
use Rattle.addr_locate.proofs.FoundLemmas.{no_repeats-distinct}
use Rattle.addr_history.specs.declared.ask.Ask.{Ask}
use Rattle.addr_history.specs.declared.event.Event.{Event}
use Rattle.addr_history.specs.declared.event.Event.TheVariants.{Load, Release, Take}
use Rattle.addr_history.specs.Events.{is_in, is_take_of, is_end_of, needs_of, needs_of_event, over_events}
use Rattle.addr_history.specs.Counts.{count_of}
use Rattle.addr_history.specs.Places.{is_resident, is_fetched, is_queued, is_absent, waits, queue, bundles_of}
use Rattle.addr_history.specs.Legal.{IsAnswer, Legal}
use Rattle.addr_history.proofs.Points.{and-true, or-false}
use Rattle.addr_history.proofs.Steps.{counts_on, fetched_push}
use Rattle.addr_history.proofs.Legality.{prefix}
use Rattle.addr_history.proofs.Counting.{one_if, count_same, count_sum}
use Rattle.addr_history.proofs.Ranges.{Sound, same_bundle, queued_below}
use Rattle.addr_history.proofs.Members.{members}
use Rattle.addr_history.proofs.Owed.{numbers, count_in_range, count_one}
use Rattle.addr_history.proofs.QueueSteps.{filter_all, filter_within, in_queue, stays, joins, queue_push, queued_counted}
use Rattle.addr_history.proofs.CountSteps.{IsCalm, take_calm, count_calm, count_load}

module _ (rows : Rows) (limit : ℕ) where
  -- an event that asks for nothing
  queue_kept : (h : List Event) (e : Event) → needs_of_event rows e ≡ [] → queue rows (h ++ e ∷ []) ≡ filter (stays rows h e) (queue rows h)
  queue_kept h e nothing = queue_push rows h e ∙ ap (λ (l : List BundleNo). filter (stays rows h e) (queue rows h) ++ filter (joins rows h e) l) nothing ∙ append-nil (filter (stays rows h e) (queue rows h))

  pub queue_load : (h : List Event) → Legal rows limit h → (o : OpId) (caller : ℕ) (ask : Ask) → IsAnswer rows limit h (Load o caller ask) → queue rows (h ++ Load o caller ask ∷ []) ≡ queue rows h ++ filter (is_absent rows h) (needs_of rows ask)
  unfolding is_absent
  queue_load h legal o caller ask answer =
      queue_push rows h e
      ∙ ap (λ (l : List BundleNo). l ++ filter (joins rows h e) (needs_of rows ask)) (filter_all (stays rows h e) (queue rows h) (λ b is. still b (sym (in_queue rows h b) ∙ is)))
      ∙ ap (λ (l : List BundleNo). queue rows h ++ l) (filter_within (joins rows h e) (is_absent rows h) (needs_of rows ask) at)
    where
      e : Event
      e = Load o caller ask

      still : (b : BundleNo) → is_queued rows h b ≡ true → stays rows h e b ≡ true
      still b is = lt-ltb 0 (count_of rows (h ++ e ∷ []) b) (omega (arith, count_load rows limit h legal o caller ask answer b, ltb-true 0 (count_of rows h b) (queued_counted rows limit h legal b is)))

      on : (b : BundleNo) → is_in b (needs_of rows ask) ≡ true → counts_on rows h e b ≡ true
      on b asked = lt-ltb 0 (count_of rows (h ++ e ∷ []) b) (omega (arith, count_load rows limit h legal o caller ask answer b, let one : one_if (is_in b (needs_of rows ask)) ≡ 1 = ap one_if asked in one))

      by : (n r f q c : Bool) → n ≡ true → c ≡ true → ((((n && not r) && not f) && c) && not (q && (true && c))) ≡ ((not r && not f) && not q)
      by n r f q c one two =
          ap (λ t. (((t && not r) && not f) && c) && not (q && (true && c))) one
          ∙ ap (λ t. ((not r && not f) && t) && not (q && t)) two
          ∙ ap (λ t. t && not (q && true)) (and-true (not r && not f))
          ∙ ap (λ t. (not r && not f) && not t) (and-true q)

      at : (b : BundleNo) → is_in b (needs_of rows ask) ≡ true → joins rows h e b ≡ is_absent rows h b
      at b asked = by (is_in b (needs_of rows ask)) (is_resident rows h b) (is_fetched h b) (is_queued rows h b) (counts_on rows h e b) asked (on b asked)

  pub queue_release : (h : List Event) (o : OpId) (caller : ℕ) → queue rows (h ++ Release o caller ∷ []) ≡ filter (λ b. ltb 0 (count_of rows (h ++ Release o caller ∷ []) b)) (queue rows h)
  queue_release h o caller = queue_kept h (Release o caller) refl

  pub queue_take : (h : List Event) (o : BundleNo) (w : ℕ) → Legal rows limit (h ++ Take o w ∷ []) → queue rows (h ++ Take o w ∷ []) ≡ filter (λ c. not (eqb c.0 o.0)) (queue rows h)
  queue_take h o w legal =
      queue_kept h (Take o w) refl
      ∙ filter_within (stays rows h (Take o w)) (λ c. not (eqb c.0 o.0)) (queue rows h) (λ b is.
      ap (λ n. not (eqb o.0 b.0) && ltb 0 n) (count_calm rows h (Take o w) b (take_calm h o w))
      ∙ ap (λ t. not (eqb o.0 b.0) && t) (queued_counted rows limit h (prefix rows limit h (Take o w ∷ []) legal) b (sym (in_queue rows h b) ∙ is))
      ∙ and-true (not (eqb o.0 b.0))
      ∙ ap not (turned o.0 b.0))
    where
      turned : (a b : ℕ) → eqb a b ≡ eqb b a
      turned a b = elim (cases_eq a b) [
        | inl same ↦ eq-eqb a b same ∙ sym (eq-eqb b a (sym same))
        | inr other ↦ ne_eqb a b other ∙ sym (ne_eqb b a (λ same. other (sym same)))
      ]

  pub queue_calm : (h : List Event) (e : Event) → Legal rows limit (h ++ e ∷ []) → needs_of_event rows e ≡ [] → ((b : BundleNo) → is_take_of b e ≡ false) → IsCalm h e → queue rows (h ++ e ∷ []) ≡ queue rows h
  queue_calm h e legal nothing take calm =
      queue_kept h e nothing
      ∙ filter_all (stays rows h e) (queue rows h) (λ b is.
      ap (λ t. not t && counts_on rows h e b) (take b)
      ∙ ap (ltb 0) (count_calm rows h e b calm)
      ∙ queued_counted rows limit h (prefix rows limit h (e ∷ []) legal) b (sym (in_queue rows h b) ∙ is))

  pub queue_once : (h : List Event) → no_repeats (queue rows h) ≡ true
  unfolding queue
  queue_once h = no_repeats-distinct (over_events (λ before e after. filter (λ b. waits rows b before e after) (needs_of_event rows e)) [] h)

  pub queue_below : Sound rows → (h : List Event) → are_bundles (length rows.bundles) (queue rows h) ≡ true
  queue_below sound h = all (queue rows h) (λ b is. queued_below rows sound h b (sym (in_queue rows h b) ∙ is))
    where
      right : (s : Bool) {t : Bool} → t ≡ true → (s || t) ≡ true
      right true is = refl
      right false is = is

      both : (s : Bool) {t : Bool} → s ≡ true → t ≡ true → (s && t) ≡ true
      both true one two = two
      both false one two = one

      all : (bs : List BundleNo) → ((b : BundleNo) → is_in b bs ≡ true → b.0 < length rows.bundles) → are_bundles (length rows.bundles) bs ≡ true
      all [] lt = refl
      all (b ∷ bs) lt = both (ltb b.0 (length rows.bundles)) (lt-ltb b.0 (length rows.bundles) (lt b (ap (λ t. t || is_in b bs) (eq-eqb b.0 b.0 refl)))) (all bs (λ c is. lt c (right (eqb b.0 c.0) is)))

  -- as many bundles are queued as stand in the queue
  pub queue_length : Sound rows → (h : List Event) → count_by (is_queued rows h) (bundles_of rows) ≡ length (queue rows h)
  queue_length sound h =
      let all = queue_below sound h in
      let once = queue_once h in
      count_same (is_queued rows h) (λ c. is_in c (queue rows h)) (λ c. sym (in_queue rows h c)) (bundles_of rows)
      ∙ members (length rows.bundles) (queue rows h) all once

  one_bundle : (b : BundleNo) → b.0 < length rows.bundles → count_by (λ c. eqb b.0 c.0) (bundles_of rows) ≡ 1
  one_bundle b lt =
      omega (arith, count_in_range b (length rows.bundles) 0 (omega arith) (omega arith), count_one (λ c. true) b (length rows.bundles) 0, count_same (λ c. eqb b.0 c.0 && true) (λ c. eqb b.0 c.0) (λ c. and-true (eqb b.0 c.0)) (numbers 0 (length rows.bundles)))

  pub fetching_same : (h : List Event) (e : Event) → ((b : BundleNo) → (is_take_of b e ≡ false) × (is_end_of b e ≡ false)) → count_by (is_fetched (h ++ e ∷ [])) (bundles_of rows) ≡ count_by (is_fetched h) (bundles_of rows)
  fetching_same h e off = count_same (is_fetched (h ++ e ∷ [])) (is_fetched h) (λ b. fetched_push rows h e b ∙ ap (λ t. (is_fetched h b && not (is_end_of b e)) || t) (off b).0 ∙ or-false (is_fetched h b && not (is_end_of b e)) ∙ ap (λ t. is_fetched h b && not t) (off b).1 ∙ and-true (is_fetched h b)) (bundles_of rows)

  -- one more is fetched after a Take, and one less after its end
  pub fetching_taken : (h : List Event) (o : BundleNo) (w : ℕ) → o.0 < length rows.bundles → is_fetched h o ≡ false → count_by (is_fetched (h ++ Take o w ∷ [])) (bundles_of rows) ≡ count_by (is_fetched h) (bundles_of rows) + 1
  fetching_taken h o w lt free = omega (arith, one_bundle o lt, count_sum (is_fetched h) (λ c. eqb o.0 c.0) (is_fetched (h ++ Take o w ∷ [])) at (bundles_of rows))
    where
      by : (f t : Bool) → (t ≡ true → f ≡ false) → one_if f + one_if t ≡ one_if ((f && true) || t)
      by true true off = absurd (false≢true (sym (off refl)))
      by true false off = refl
      by false t off = omega arith

      at : (c : BundleNo) → one_if (is_fetched h c) + one_if (eqb o.0 c.0) ≡ one_if (is_fetched (h ++ Take o w ∷ []) c)
      at c = by (is_fetched h c) (eqb o.0 c.0) (λ same. ap (is_fetched h) (sym (same_bundle o c same)) ∙ free) ∙ ap one_if (sym (fetched_push rows h (Take o w) c))

  pub fetching_ended : (h : List Event) (e : Event) (o : BundleNo) → ((c : BundleNo) → is_end_of c e ≡ eqb o.0 c.0) → ((c : BundleNo) → is_take_of c e ≡ false) → o.0 < length rows.bundles → is_fetched h o ≡ true → count_by (is_fetched (h ++ e ∷ [])) (bundles_of rows) + 1 ≡ count_by (is_fetched h) (bundles_of rows)
  fetching_ended h e o ends takes lt fetched = omega (arith, one_bundle o lt, count_sum (is_fetched (h ++ e ∷ [])) (λ c. eqb o.0 c.0) (is_fetched h) at (bundles_of rows))
    where
      by : (f t : Bool) → (t ≡ true → f ≡ true) → one_if ((f && not t) || false) + one_if t ≡ one_if f
      by true true on = refl
      by true false on = refl
      by false true on = absurd (false≢true (on refl))
      by false false on = refl

      at : (c : BundleNo) → one_if (is_fetched (h ++ e ∷ []) c) + one_if (eqb o.0 c.0) ≡ one_if (is_fetched h c)
      at c =
          ap (λ t. one_if t + one_if (eqb o.0 c.0)) (fetched_push rows h e c ∙ ap (λ t. (is_fetched h c && not t) || is_take_of c e) (ends c) ∙ ap (λ t. (is_fetched h c && not (eqb o.0 c.0)) || t) (takes c))
          ∙ by (is_fetched h c) (eqb o.0 c.0) (λ same. ap (is_fetched h) (sym (same_bundle o c same)) ∙ fetched)

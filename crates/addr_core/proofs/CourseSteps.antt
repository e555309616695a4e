-- What each event does to the courses of operations, and to the lists of those that wait.
use Rattle.std.proofs.Common.{◌≡◌, ◌⊎◌, inl, inr, ℕ, ◌+◌, ◌-◌, ◌≤◌, ◌<◌, zero, suc, Bool, true, false, ◌&&◌, ◌||◌, not, cond, eqb, ltb, min, ◌^◌, List, [], ◌∷◌, ◌++◌, length, Option, Some, None, is_some, slice_get, set, refl, sym, ◌∙◌, ap, arith, if◌then◌else◌}
use Rattle.std.proofs.lemmas.Bool.{false≢true, eq-eqb, ne_eqb, cases_eq, cases_lt, cases_Bool}
use Rattle.std.proofs.lemmas.List.{length-append}
use Rattle.std.specs.List.{list_any, list_all, count_by}
use Rattle.std.specs.Option.{option_or}
use Rattle.std.specs.Prelude.{unwrap_or}
use Rattle.addr_base.specs.declared.ids.BundleNo.{BundleNo}
use Rattle.addr_base.specs.declared.ids.OpId.{OpId}
use Rattle.addr_base.specs.declared.cause.Cause.{Cause}
use Rattle.addr_locate.specs.Rows.{Rows}
use Rattle.addr_history.specs.declared.ask.Ask.{Ask}
use Rattle.addr_history.specs.declared.answers.OpStatus.{OpStatus}
use Rattle.addr_history.specs.declared.answers.OpStatus.TheVariants.{Pending, Ready, Failed}
use Rattle.addr_history.specs.declared.event.Event.{Event}
use Rattle.addr_history.specs.declared.event.Event.TheVariants.{Load, Acquire, Release, Done, Fail}
use Rattle.addr_history.specs.Events.{is_in, is_load, is_done_of, needs_of}
use Rattle.addr_history.specs.Counts.{references_of, is_unreleased, count_of, needs_of_op, loads_of}
use Rattle.addr_history.specs.Places.{is_resident}
use Rattle.addr_history.specs.Status.{first_failure, status_of}
use Rattle.addr_history.specs.Legal.{IsAnswer, Legal}
use Rattle.addr_history.proofs.Points.{and-true, or-false}
use Rattle.addr_history.proofs.Ranges.{fetched_by_some}
use Rattle.addr_history.proofs.Legality.{load_facts, acquire_facts, fail_facts, extend, prefix, unreleased_is, unreleased_parts, load_below, no_load_past, loads_push}
use Rattle.addr_history.proofs.Counting.{one_if, count-cons, count_push, references_none, references_le, references_kept, references_given, references_taken, references_first}
use Rattle.addr_history.proofs.CountSteps.{no_load_of, same_resident}
use Rattle.addr_queue.specs.Changes.{change, change_each, times}
use Rattle.addr_core.specs.declared.courses.Course.{Course}
use Rattle.addr_core.specs.within.Kept.{failure_of, missing_of, lacks, AreCourses}
use Rattle.addr_core.specs.within.Courses.{times_in, woken, failed_by, given_back, acquired}
use Rattle.addr_queue.proofs.Changing.{get_set_same, get_set_other, length_change, length_change_each, change_same, change_other, change_each_at, was_there, times_keep, get_left, get_end}
use Rattle.addr_history.proofs.StatusSteps.{op_needs_once, unreleased_before, failure_push, missing_push, waits_push, count_within, count_done, apart, needed_counted, needs_new, since_new}

and_none : (t : Bool) → (t && false) ≡ false
and_none true = refl
and_none false = refl

module _ (rows : Rows) (limit : ℕ) where
  -- an operation's course stood there, up to its references
  abbrev pub Alike : List Course → OpId → Course → Type 0
  Alike courses op c = (d : Course) × ((slice_get courses op.0 ≡ Some d) × ((c.failed ≡ d.failed) × (c.missing ≡ d.missing)))

  pub alike_same : (courses : List Course) (op : OpId) (c : Course) → slice_get courses op.0 ≡ Some c → Alike courses op c
  alike_same courses op c at = (c, (at, (refl, refl)))

  pub alike_changed : (f : Course → Course) → ((c : Course) → (f c).failed ≡ c.failed) → ((c : Course) → (f c).missing ≡ c.missing) → (o : OpId) (courses : List Course) (op : OpId) (c : Course) → slice_get (change f o.0 courses) op.0 ≡ Some c → Alike courses op c
  alike_changed f failed missing o courses op c at = elim (cases_eq op.0 o.0) [
    | inl same ↦
        let before = was_there f (slice_get courses o.0) c (sym (change_same f o.0 courses) ∙ ap (slice_get (change f o.0 courses)) (sym same) ∙ at) in
        (before.0, (ap (slice_get courses) same ∙ before.1.0, (ap (λ (d : Course). d.failed) (sym before.1.1) ∙ failed before.0, ap (λ (d : Course). d.missing) (sym before.1.1) ∙ missing before.0)))
    | inr other ↦ alike_same courses op c (sym (change_other f o.0 op.0 courses other) ∙ at)
  ]

  -- an event that is no Load, where courses change in their references alone
  module _ (h : List Event) (e : Event) (legal : Legal rows limit (h ++ e ∷ [])) (courses : List Course) (waits : List (List ℕ)) (are : AreCourses rows h courses waits) (other : is_load e ≡ false) where
    was : (op : OpId) → is_unreleased (h ++ e ∷ []) op ≡ true → is_unreleased h op ≡ true
    was op now = unreleased_before rows limit h e legal op (no_load_of op e other) now

    same_loads : loads_of (h ++ e ∷ []) ≡ loads_of h
    same_loads = let none = ap one_if other in omega (arith, loads_push h e, none)

    loads_kept : (n : ℕ) → loads_of (h ++ e ∷ []) ≤ n → loads_of h ≤ n
    loads_kept n le = omega (arith, same_loads)

    -- courses that stay but for their references, where no fetch ends that one of them waits for
    pub quiet_courses : (courses2 : List Course) → length courses2 ≡ length courses → ((op : OpId) (c : Course) → slice_get courses2 op.0 ≡ Some c → c.references ≡ references_of (h ++ e ∷ []) op) → ((op : OpId) (c : Course) → slice_get courses2 op.0 ≡ Some c → Alike courses op c) → ((op : OpId) → first_failure (needs_of_op rows h op) (e ∷ []) ≡ None) → ((op : OpId) (b : BundleNo) → is_unreleased h op ≡ true → is_in b (needs_of_op rows h op) ≡ true → is_done_of b e ≡ false) → AreCourses rows (h ++ e ∷ []) courses2 waits
    quiet_courses courses2 long refs same fails quiet = record {
      many = long ∙ are.many ∙ sym same_loads;
      references = refs;
      failed = λ op c at now. let d = same op c at in d.1.1.0 ∙ are.failed op d.0 d.1.0 (was op now) ∙ sym (failure op now);
      missing = λ op c at now none. let d = same op c at in d.1.1.1 ∙ are.missing op d.0 d.1.0 (was op now) (sym (failure op now) ∙ none) ∙ sym (missing op now);
      waiting = λ op b ws at now none. are.waiting op b ws at (was op now) (sym (failure op now) ∙ none) ∙ ap one_if (sym (waits_same op b now));
      known = λ b ws at n le. are.known b ws at n (loads_kept n le);
    }
      where
        failure : (op : OpId) → is_unreleased (h ++ e ∷ []) op ≡ true → failure_of rows (h ++ e ∷ []) op ≡ failure_of rows h op
        failure op now = failure_push rows limit h e legal op now (was op now) ∙ ap (option_or (failure_of rows h op)) (fails op) ∙ none (failure_of rows h op)
          where
            none : (o : Option OpStatus) → option_or o None ≡ o
            none None = refl
            none (Some s) = refl

        missing : (op : OpId) → is_unreleased (h ++ e ∷ []) op ≡ true → missing_of rows (h ++ e ∷ []) op ≡ missing_of rows h op
        missing op now =
            missing_push rows limit h e legal op now (was op now)
            ∙ count_within (λ b. not (is_resident rows h b || is_done_of b e)) (λ b. not (is_resident rows h b)) (needs_of_op rows h op) (λ b asked. ap (λ t. not (is_resident rows h b || t)) (quiet op b (was op now) asked) ∙ ap not (or-false (is_resident rows h b)))

        waits_same : (op : OpId) (b : BundleNo) → is_unreleased (h ++ e ∷ []) op ≡ true → lacks rows (h ++ e ∷ []) op b ≡ lacks rows h op b
        waits_same op b now = waits_push rows limit h e legal op now (was op now) b ∙ at (is_in b (needs_of_op rows h op)) (quiet op b (was op now))
          where
            at : (t : Bool) → (t ≡ true → is_done_of b e ≡ false) → (t && not (is_resident rows h b || is_done_of b e)) ≡ (t && not (is_resident rows h b))
            at true none = ap (λ s. not (is_resident rows h b || s)) (none refl) ∙ ap not (or-false (is_resident rows h b))
            at false none = refl

  -- what stands in the lists after one was emptied
  emptied : (waits : List (List ℕ)) (n m : ℕ) (ws old : List ℕ) → slice_get waits n ≡ Some old → slice_get (set waits n []) m ≡ Some ws → ((m ≡ n) × (ws ≡ [])) ⊎ ((m ≡ n → ⊥) × (slice_get waits m ≡ Some ws))
  emptied waits n m ws old there at = elim (cases_eq m n) [
    | inl same ↦ inl (same, let now : Some ws ≡ Some [] = sym at ∙ ap (slice_get (set waits n [])) same ∙ get_set_same waits n old [] there in cc)
    | inr other ↦ inr (other, sym (get_set_other waits n m [] other) ∙ at)
  ]

  no_more : (o : Option OpStatus) → option_or o None ≡ o
  no_more None = refl
  no_more (Some s) = refl

  -- a bundle came that is counted
  module _ (h : List Event) (o : BundleNo) (w : ℕ) (legal : Legal rows limit (h ++ Done o w ∷ [])) (courses : List Course) (waits : List (List ℕ)) (are : AreCourses rows h courses waits) (ws : List ℕ) (there : slice_get waits o.0 ≡ Some ws) where
    came : Event
    came = Done o w

    done_was : (op : OpId) → is_unreleased (h ++ Done o w ∷ []) op ≡ true → is_unreleased h op ≡ true
    done_was op now = unreleased_before rows limit h (Done o w) legal op refl now

    woken_once : (t : Bool) (c : Course) → (times woken (one_if t) c).missing ≡ c.missing - one_if t
    woken_once true c = refl
    woken_once false c = omega arith

    pub done_courses : AreCourses rows (h ++ Done o w ∷ []) (change_each woken ws courses) (set waits o.0 [])
    done_courses = record {
      many = length_change_each woken ws courses ∙ are.many ∙ sym (same_loads h (Done o w) legal courses waits are refl);
      references = λ op c at.
          let before = was_there (times woken (times_in op.0 ws)) (slice_get courses op.0) c (sym (change_each_at woken ws courses op.0) ∙ at) in
          ap (λ (d : Course). d.references) (sym before.1.1) ∙ times_keep woken (λ (d : Course). d.references) (λ d. refl) (times_in op.0 ws) before.0 ∙ are.references op before.0 before.1.0 ∙ sym (references_kept h (Done o w) op refl refl refl);
      failed = λ op c at now.
          let before = was_there (times woken (times_in op.0 ws)) (slice_get courses op.0) c (sym (change_each_at woken ws courses op.0) ∙ at) in
          ap (λ (d : Course). d.failed) (sym before.1.1) ∙ times_keep woken (λ (d : Course). d.failed) (λ d. refl) (times_in op.0 ws) before.0 ∙ are.failed op before.0 before.1.0 (done_was op now) ∙ sym (failure op now);
      missing = λ op c at now none.
          let before = was_there (times woken (times_in op.0 ws)) (slice_get courses op.0) c (sym (change_each_at woken ws courses op.0) ∙ at) in
          let none_before : failure_of rows h op ≡ None = sym (failure op now) ∙ none in
          let had : before.0.missing ≡ missing_of rows h op = are.missing op before.0 before.1.0 (done_was op now) none_before in
          let often : times_in op.0 ws ≡ one_if (lacks rows h op o) = are.waiting op o ws there (done_was op now) none_before in
          let has : c.missing ≡ before.0.missing - one_if (lacks rows h op o) = ap (λ (d : Course). d.missing) (sym before.1.1) ∙ ap (λ k. (times woken k before.0).missing) often ∙ woken_once (lacks rows h op o) before.0 in
          let fewer = count_done (is_resident rows h) o (needs_of_op rows h op) (op_needs_once rows limit h op) in
          omega (arith, has, had, fewer, missing_push rows limit h (Done o w) legal op now (done_was op now));
      waiting = λ op b ns at now none. elim (emptied waits o.0 b.0 ns ws there at) [
        | inl here ↦ ap (times_in op.0) here.1 ∙ ap one_if (sym (waits_push rows limit h (Done o w) legal op now (done_was op now) b ∙ ap (λ t. is_in b (needs_of_op rows h op) && not (is_resident rows h b || t)) (eq-eqb o.0 b.0 (sym here.0)) ∙ nothing (is_in b (needs_of_op rows h op)) (is_resident rows h b)))
        | inr there2 ↦
            are.waiting op b ns there2.1 (done_was op now) (sym (failure op now) ∙ none)
            ∙ ap one_if (sym (waits_push rows limit h (Done o w) legal op now (done_was op now) b ∙ ap (λ t. is_in b (needs_of_op rows h op) && not (is_resident rows h b || t)) (ne_eqb o.0 b.0 (λ same. there2.0 (sym same))) ∙ ap (λ t. is_in b (needs_of_op rows h op) && not t) (or-false (is_resident rows h b))))
      ];
      known = λ b ns at n le. elim (emptied waits o.0 b.0 ns ws there at) [
        | inl here ↦ ap (times_in n) here.1
        | inr there2 ↦ are.known b ns there2.1 n (loads_kept h (Done o w) legal courses waits are refl n le)
      ];
    }
      where
        failure : (op : OpId) → is_unreleased (h ++ Done o w ∷ []) op ≡ true → failure_of rows (h ++ Done o w ∷ []) op ≡ failure_of rows h op
        failure op now = failure_push rows limit h (Done o w) legal op now (done_was op now) ∙ no_more (failure_of rows h op)

        nothing : (s t : Bool) → (s && not (t || true)) ≡ false
        nothing true true = refl
        nothing true false = refl
        nothing false t = refl

  -- a bundle could not be brought
  module _ (h : List Event) (o : BundleNo) (w : ℕ) (k : Cause) (legal : Legal rows limit (h ++ Fail o w k ∷ [])) (answer : IsAnswer rows limit h (Fail o w k)) (courses : List Course) (waits : List (List ℕ)) (are : AreCourses rows h courses waits) (ws : List ℕ) (there : slice_get waits o.0 ≡ Some ws) where
    fail_was : (op : OpId) → is_unreleased (h ++ Fail o w k ∷ []) op ≡ true → is_unreleased h op ≡ true
    fail_was op now = unreleased_before rows limit h (Fail o w k) legal op refl now

    abbrev by_this : Course → Course
    by_this = failed_by (Failed o k)

    pub fail_failure : (op : OpId) → is_unreleased (h ++ Fail o w k ∷ []) op ≡ true → failure_of rows (h ++ Fail o w k ∷ []) op ≡ option_or (failure_of rows h op) (cond (is_in o (needs_of_op rows h op)) (Some (Failed o k)) None)
    fail_failure op now = failure_push rows limit h (Fail o w k) legal op now (fail_was op now)

    not_there : is_resident rows h o ≡ false
    not_there = ((apart rows limit h (prefix rows limit h (Fail o w k ∷ []) legal) o).1 (fetched_by_some h o w (fail_facts rows limit h o w k answer))).0

    lacks_needs : (op : OpId) → lacks rows h op o ≡ is_in o (needs_of_op rows h op)
    lacks_needs op = ap (λ t. is_in o (needs_of_op rows h op) && not t) not_there ∙ and-true (is_in o (needs_of_op rows h op))

    stays_failed : (s : OpStatus) (n : ℕ) (c : Course) → c.failed ≡ Some s → times by_this n c ≡ c
    stays_failed s zero c is = refl
    stays_failed s (suc n) c is =
        let same : by_this c ≡ c = ap (λ (f : Option OpStatus). cond (is_some f) c (record { missing = c.missing; failed = Some (Failed o k); references = c.references })) is in
        ap (times by_this n) same ∙ stays_failed s n c is

    fails_once : (t : Bool) (c : Course) → c.failed ≡ None → (times by_this (one_if t) c).failed ≡ cond t (Some (Failed o k)) None
    fails_once true c is = ap (λ (f : Option OpStatus). (let d : Course = cond (is_some f) c (record { missing = c.missing; failed = Some (Failed o k); references = c.references }) in d).failed) is
    fails_once false c is = is

    keeps_references : (c : Course) → (by_this c).references ≡ c.references
    keeps_references c = at (is_some c.failed)
      where
        at : (t : Bool) → (let d : Course = cond t c (record { missing = c.missing; failed = Some (Failed o k); references = c.references }) in d).references ≡ c.references
        at true = refl
        at false = refl

    keeps_missing : (c : Course) → (by_this c).missing ≡ c.missing
    keeps_missing c = at (is_some c.failed)
      where
        at : (t : Bool) → (let d : Course = cond t c (record { missing = c.missing; failed = Some (Failed o k); references = c.references }) in d).missing ≡ c.missing
        at true = refl
        at false = refl

    -- an operation that hasn't failed yet doesn't need the bundle
    none_needs : (op : OpId) → is_unreleased (h ++ Fail o w k ∷ []) op ≡ true → failure_of rows (h ++ Fail o w k ∷ []) op ≡ None → (failure_of rows h op ≡ None) × (is_in o (needs_of_op rows h op) ≡ false)
    none_needs op now none = at (failure_of rows h op) (is_in o (needs_of_op rows h op)) (sym (fail_failure op now) ∙ none)
      where
        at : (f : Option OpStatus) (t : Bool) → option_or f (cond t (Some (Failed o k)) None) ≡ None → (f ≡ None) × (t ≡ false)
        at None true is = cc
        at None false is = (refl, refl)
        at (Some s) t is = cc

    pub fail_courses : AreCourses rows (h ++ Fail o w k ∷ []) (change_each by_this ws courses) (set waits o.0 [])
    fail_courses = record {
      many = length_change_each by_this ws courses ∙ are.many ∙ sym (same_loads h (Fail o w k) legal courses waits are refl);
      references = λ op c at.
          let before = was_there (times by_this (times_in op.0 ws)) (slice_get courses op.0) c (sym (change_each_at by_this ws courses op.0) ∙ at) in
          ap (λ (d : Course). d.references) (sym before.1.1) ∙ times_keep by_this (λ (d : Course). d.references) keeps_references (times_in op.0 ws) before.0 ∙ are.references op before.0 before.1.0 ∙ sym (references_kept h (Fail o w k) op refl refl refl);
      failed = λ op c at now.
          let before = was_there (times by_this (times_in op.0 ws)) (slice_get courses op.0) c (sym (change_each_at by_this ws courses op.0) ∙ at) in
          ap (λ (d : Course). d.failed) (sym before.1.1) ∙ by op before.0 now (are.failed op before.0 before.1.0 (fail_was op now)) (failure_of rows h op) refl ∙ sym (fail_failure op now);
      missing = λ op c at now none.
          let before = was_there (times by_this (times_in op.0 ws)) (slice_get courses op.0) c (sym (change_each_at by_this ws courses op.0) ∙ at) in
          ap (λ (d : Course). d.missing) (sym before.1.1) ∙ times_keep by_this (λ (d : Course). d.missing) keeps_missing (times_in op.0 ws) before.0 ∙ are.missing op before.0 before.1.0 (fail_was op now) (none_needs op now none).0
          ∙ sym (missing_push rows limit h (Fail o w k) legal op now (fail_was op now) ∙ count_within (λ b. not (is_resident rows h b || false)) (λ b. not (is_resident rows h b)) (needs_of_op rows h op) (λ b asked. ap not (or-false (is_resident rows h b))));
      waiting = λ op b ns at now none. elim (emptied waits o.0 b.0 ns ws there at) [
        | inl here ↦ ap (times_in op.0) here.1 ∙ ap one_if (sym (same_lacks op b now ∙ ap (λ n. list_any (λ (c : BundleNo). eqb c.0 n) (needs_of_op rows h op) && not (is_resident rows h b)) here.0 ∙ ap (λ t. t && not (is_resident rows h b)) (none_needs op now none).1))
        | inr there2 ↦ are.waiting op b ns there2.1 (fail_was op now) (none_needs op now none).0 ∙ ap one_if (sym (same_lacks op b now))
      ];
      known = λ b ns at n le. elim (emptied waits o.0 b.0 ns ws there at) [
        | inl here ↦ ap (times_in n) here.1
        | inr there2 ↦ are.known b ns there2.1 n (loads_kept h (Fail o w k) legal courses waits are refl n le)
      ];
    }
      where
        same_lacks : (op : OpId) (b : BundleNo) → is_unreleased (h ++ Fail o w k ∷ []) op ≡ true → lacks rows (h ++ Fail o w k ∷ []) op b ≡ lacks rows h op b
        same_lacks op b now = waits_push rows limit h (Fail o w k) legal op now (fail_was op now) b ∙ ap (λ t. is_in b (needs_of_op rows h op) && not t) (or-false (is_resident rows h b))

        by : (op : OpId) (c : Course) → is_unreleased (h ++ Fail o w k ∷ []) op ≡ true → c.failed ≡ failure_of rows h op → (f : Option OpStatus) → failure_of rows h op ≡ f → (times by_this (times_in op.0 ws) c).failed ≡ option_or (failure_of rows h op) (cond (is_in o (needs_of_op rows h op)) (Some (Failed o k)) None)
        by op c now has None is =
            ap (λ n. (times by_this n c).failed) (are.waiting op o ws there (fail_was op now) is ∙ ap one_if (lacks_needs op))
            ∙ fails_once (is_in o (needs_of_op rows h op)) c (has ∙ is)
            ∙ sym (ap (λ (f : Option OpStatus). option_or f (cond (is_in o (needs_of_op rows h op)) (Some (Failed o k)) None)) is)
        by op c now has (Some s) is =
            ap (λ (d : Course). d.failed) (stays_failed s (times_in op.0 ws) c (has ∙ is)) ∙ has ∙ is
            ∙ sym (ap (λ (f : Option OpStatus). option_or f (cond (is_in o (needs_of_op rows h op)) (Some (Failed o k)) None)) is)

  -- an operation has one reference less, or one more
  pub release_courses : (h : List Event) (o : OpId) (caller : ℕ) → Legal rows limit (h ++ Release o caller ∷ []) → (courses : List Course) (waits : List (List ℕ)) → AreCourses rows h courses waits → AreCourses rows (h ++ Release o caller ∷ []) (change given_back o.0 courses) waits
  release_courses h o caller legal courses waits are =
      quiet_courses h (Release o caller) legal courses waits are refl (change given_back o.0 courses) (length_change given_back o.0 courses)
      (λ op c at. elim (cases_eq op.0 o.0) [
        | inl same ↦
            let before = was_there given_back (slice_get courses o.0) c (sym (change_same given_back o.0 courses) ∙ ap (slice_get (change given_back o.0 courses)) (sym same) ∙ at) in
            let had : before.0.references ≡ references_of h op = are.references op before.0 (ap (slice_get courses) same ∙ before.1.0) in
            ap (λ (d : Course). d.references) (sym before.1.1) ∙ ap (λ n. n - 1) had ∙ sym (references_given h o caller op ∙ ap (λ t. references_of h op - one_if t) (eq-eqb op.0 o.0 same))
        | inr other ↦
            are.references op c (sym (change_other given_back o.0 op.0 courses other) ∙ at)
            ∙ sym (references_given h o caller op ∙ ap (λ t. references_of h op - one_if t) (ne_eqb op.0 o.0 other) ∙ (let same : references_of h op - 0 ≡ references_of h op = omega arith in same))
      ])
      (alike_changed given_back (λ c. refl) (λ c. refl) o courses)
      (λ op. refl)
      (λ op b was asked. refl)

  pub acquire_courses : (h : List Event) (o : OpId) (caller : ℕ) → length h ≤ 1000000 → Legal rows limit (h ++ Acquire o caller ∷ []) → (courses : List Course) (waits : List (List ℕ)) → AreCourses rows h courses waits → AreCourses rows (h ++ Acquire o caller ∷ []) (change acquired o.0 courses) waits
  acquire_courses h o caller short legal courses waits are =
      quiet_courses h (Acquire o caller) legal courses waits are refl (change acquired o.0 courses) (length_change acquired o.0 courses)
      (λ op c at. elim (cases_eq op.0 o.0) [
        | inl same ↦
            let before = was_there acquired (slice_get courses o.0) c (sym (change_same acquired o.0 courses) ∙ ap (slice_get (change acquired o.0 courses)) (sym same) ∙ at) in
            let had : before.0.references ≡ references_of h op = are.references op before.0 (ap (slice_get courses) same ∙ before.1.0) in
            let more : references_of (h ++ Acquire o caller ∷ []) op ≡ references_of h op + 1 = taken op ∙ ap (λ t. references_of h op + one_if t) (eq-eqb op.0 o.0 same) in
            let small : references_of h op ≤ length h + 1 = references_le h op in
            ap (λ (d : Course). d.references) (sym before.1.1) ∙ (let now : min (before.0.references + 1) (2 ^ 32 - 1) ≡ references_of (h ++ Acquire o caller ∷ []) op = omega (arith, had, more, small, short) in now)
        | inr other ↦
            are.references op c (sym (change_other acquired o.0 op.0 courses other) ∙ at)
            ∙ sym (taken op ∙ ap (λ t. references_of h op + one_if t) (ne_eqb op.0 o.0 other) ∙ (let same : references_of h op + 0 ≡ references_of h op = omega arith in same))
      ])
      (alike_changed acquired (λ c. refl) (λ c. refl) o courses)
      (λ op. refl)
      (λ op b was asked. refl)
    where
      taken : (op : OpId) → references_of (h ++ Acquire o caller ∷ []) op ≡ references_of h op + one_if (eqb op.0 o.0)
      taken op = let f = acquire_facts rows limit h o caller (legal.answers h (Acquire o caller) [] refl) in references_taken h o caller f.has op

  -- lists of bundles that no operation needs are given up
  pub forgotten_courses : (h : List Event) → Legal rows limit h → (courses : List Course) (waits waits2 : List (List ℕ)) → AreCourses rows h courses waits → ((b : BundleNo) (ws : List ℕ) → slice_get waits2 b.0 ≡ Some ws → ((ws ≡ []) × (count_of rows h b ≡ 0)) ⊎ (slice_get waits b.0 ≡ Some ws)) → AreCourses rows h courses waits2
  forgotten_courses h legal courses waits waits2 are forgets = record {
    many = are.many;
    references = are.references;
    failed = are.failed;
    missing = are.missing;
    waiting = λ op b ws at now none. elim (forgets b ws at) [
      | inl gone ↦ ap (times_in op.0) gone.0 ∙ ap one_if (sym (nobody op b now gone.1))
      | inr same ↦ are.waiting op b ws same now none
    ];
    known = λ b ws at n le. elim (forgets b ws at) [
      | inl gone ↦ ap (times_in n) gone.0
      | inr same ↦ are.known b ws same n le
    ];
  }
    where
      nobody : (op : OpId) (b : BundleNo) → is_unreleased h op ≡ true → count_of rows h b ≡ 0 → lacks rows h op b ≡ false
      nobody op b now uncounted = elim (cases_Bool (is_in b (needs_of_op rows h op))) [
        | inl asked ↦ absurd (omega (arith, needed_counted rows limit h legal op b now asked, uncounted))
        | inr none ↦ ap (λ t. t && not (is_resident rows h b)) none
      ]

  -- an operation is opened
  module _ (h : List Event) (legal : Legal rows limit h) (o : OpId) (caller : ℕ) (ask : Ask) (answer : IsAnswer rows limit h (Load o caller ask)) where
    number : o.0 ≡ loads_of h
    number = (load_facts rows limit h o caller ask answer).number

    legal_load : Legal rows limit (h ++ Load o caller ask ∷ [])
    legal_load = extend rows limit h (Load o caller ask) legal answer

    loads_more : loads_of (h ++ Load o caller ask ∷ []) ≡ loads_of h + 1
    loads_more = loads_push h (Load o caller ask)

    abbrev pub opened : Course
    opened = record { missing = count_by (λ b. not (is_resident rows h b)) (needs_of rows ask); failed = None; references = 1 }

    abbrev joins : BundleNo → Bool
    joins b = is_in b (needs_of rows ask) && not (is_resident rows h b)

    -- the lists of those that wait, with the operation in those of the bundles that it lacks
    abbrev pub IsJoined : List (List ℕ) → List (List ℕ) → Type 0
    IsJoined waits waits2 = (b : BundleNo) (ns : List ℕ) → slice_get waits2 b.0 ≡ Some ns → (ws : List ℕ) × ((slice_get waits b.0 ≡ Some ws) × (ns ≡ (if joins b then ws ++ o.0 ∷ [] else ws)))

    often_joined : (n : ℕ) (t : Bool) (ws : List ℕ) → times_in n (if t then ws ++ o.0 ∷ [] else ws) ≡ times_in n ws + one_if (t && eqb o.0 n)
    often_joined n true ws = count_push (λ m. eqb m n) ws o.0
    often_joined n false ws = omega arith

    new_needs : needs_of_op rows (h ++ Load o caller ask ∷ []) o ≡ needs_of rows ask
    new_needs = needs_new rows limit h o caller ask (no_load_past rows limit h legal o (omega (arith, number)))

    new_failure : failure_of rows (h ++ Load o caller ask ∷ []) o ≡ None
    new_failure = ap (first_failure (needs_of_op rows (h ++ Load o caller ask ∷ []) o)) (since_new o h (Load o caller ask) (no_load_past rows limit h legal o (omega (arith, number))) (eq-eqb o.0 o.0 refl))

    pub load_courses : (courses : List Course) (waits waits2 : List (List ℕ)) → AreCourses rows h courses waits → IsJoined waits waits2 → AreCourses rows (h ++ Load o caller ask ∷ []) (courses ++ opened ∷ []) waits2
    load_courses courses waits waits2 are joined = record {
      many = omega (arith, length-append courses (opened ∷ []), are.many, loads_more);
      references = λ op c at. elim (which op c at) [
        | inl old ↦ are.references op c old.1 ∙ sym (references_kept h (Load o caller ask) op (ne_eqb o.0 op.0 (λ same. omega (arith, number, old.0))) refl refl)
        | inr new ↦ ap (λ (d : Course). d.references) new.1 ∙ sym (ap (references_of (h ++ Load o caller ask ∷ [])) new.0 ∙ references_first rows limit h legal o caller ask answer)
      ];
      failed = λ op c at now. elim (which op c at) [
        | inl old ↦ are.failed op c old.1 (was op old.0 now) ∙ sym (failure op old.0 now)
        | inr new ↦ ap (λ (d : Course). d.failed) new.1 ∙ sym (ap (failure_of rows (h ++ Load o caller ask ∷ [])) new.0 ∙ new_failure)
      ];
      missing = λ op c at now none. elim (which op c at) [
        | inl old ↦ are.missing op c old.1 (was op old.0 now) (sym (failure op old.0 now) ∙ none) ∙ sym (missing_same op old.0 now)
        | inr new ↦ ap (λ (d : Course). d.missing) new.1 ∙ sym (ap (missing_of rows (h ++ Load o caller ask ∷ [])) new.0 ∙ new_missing)
      ];
      waiting = λ op b ns at now none.
          let before = joined b ns at in
          let often : times_in op.0 ns ≡ times_in op.0 before.0 + one_if (joins b && eqb o.0 op.0) = ap (times_in op.0) before.1.1 ∙ often_joined op.0 (joins b) before.0 in
          elim (cases_eq op.0 o.0) [
            | inl same ↦
                let it : op ≡ o = ap (λ n. let r : OpId = record { 0 = n } in r) same in
                let nothing : times_in op.0 before.0 ≡ 0 = are.known b before.0 before.1.0 op.0 (omega (arith, number)) in
                let here : one_if (joins b && eqb o.0 op.0) ≡ one_if (joins b) = ap (λ t. one_if (joins b && t)) (eq-eqb o.0 op.0 (sym same)) ∙ ap one_if (and-true (joins b)) in
                let goal : one_if (lacks rows (h ++ Load o caller ask ∷ []) op b) ≡ one_if (joins b) =
                ap (λ (p : OpId). one_if (lacks rows (h ++ Load o caller ask ∷ []) p b)) it ∙ ap (λ (bs : List BundleNo). one_if (is_in b bs && not (is_resident rows (h ++ Load o caller ask ∷ []) b))) new_needs ∙ ap (λ t. one_if (is_in b (needs_of rows ask) && not t)) (same_resident rows limit h legal o caller ask answer b) in
                omega (arith, often, nothing, here, goal)
            | inr other ↦
                let lt : op.0 < loads_of h = loaded_before op other now in
                let none_here : one_if (joins b && eqb o.0 op.0) ≡ 0 = ap (λ t. one_if (joins b && t)) (ne_eqb o.0 op.0 (λ same. other (sym same))) ∙ ap one_if (and_none (joins b)) in
                let had : times_in op.0 before.0 ≡ one_if (lacks rows h op b) = are.waiting op b before.0 before.1.0 (was op lt now) (sym (failure op lt now) ∙ none) in
                let same : one_if (lacks rows (h ++ Load o caller ask ∷ []) op b) ≡ one_if (lacks rows h op b) = ap one_if (lacks_same op lt now b) in
                omega (arith, often, none_here, had, same)
          ];
      known = λ b ns at n le.
          let before = joined b ns at in
          let often : times_in n ns ≡ times_in n before.0 + one_if (joins b && eqb o.0 n) = ap (times_in n) before.1.1 ∙ often_joined n (joins b) before.0 in
          let nothing : times_in n before.0 ≡ 0 = are.known b before.0 before.1.0 n (omega (arith, loads_more)) in
          let off : one_if (joins b && eqb o.0 n) ≡ 0 = ap (λ t. one_if (joins b && t)) (ne_eqb o.0 n (λ same. omega (arith, number, loads_more))) ∙ ap one_if (and_none (joins b)) in
          omega (arith, often, nothing, off);
    }
      where
        which : (op : OpId) (c : Course) → slice_get (courses ++ opened ∷ []) op.0 ≡ Some c → ((op.0 < loads_of h) × (slice_get courses op.0 ≡ Some c)) ⊎ ((op ≡ o) × (c ≡ opened))
        which op c at = elim (cases_lt op.0 (length courses)) [
          | inl lt ↦ inl (omega (arith, are.many), get_left courses op.0 c opened lt at)
          | inr le ↦ let end = get_end courses op.0 c opened le at in inr (ap (λ n. let r : OpId = record { 0 = n } in r) (end.0 ∙ are.many ∙ sym number), end.1)
        ]

        was : (op : OpId) → op.0 < loads_of h → is_unreleased (h ++ Load o caller ask ∷ []) op ≡ true → is_unreleased h op ≡ true
        was op lt now = unreleased_before rows limit h (Load o caller ask) legal_load op (ne_eqb o.0 op.0 (λ same. omega (arith, number))) now

        loaded_before : (op : OpId) → (op.0 ≡ o.0 → ⊥) → is_unreleased (h ++ Load o caller ask ∷ []) op ≡ true → op.0 < loads_of h
        loaded_before op other now = load_below rows limit h legal op (unreleased_parts h op (unreleased_before rows limit h (Load o caller ask) legal_load op (ne_eqb o.0 op.0 (λ same. other (sym same))) now)).0

        failure : (op : OpId) → op.0 < loads_of h → is_unreleased (h ++ Load o caller ask ∷ []) op ≡ true → failure_of rows (h ++ Load o caller ask ∷ []) op ≡ failure_of rows h op
        failure op lt now = failure_push rows limit h (Load o caller ask) legal_load op now (was op lt now) ∙ no_more (failure_of rows h op)

        missing_same : (op : OpId) → op.0 < loads_of h → is_unreleased (h ++ Load o caller ask ∷ []) op ≡ true → missing_of rows (h ++ Load o caller ask ∷ []) op ≡ missing_of rows h op
        missing_same op lt now = missing_push rows limit h (Load o caller ask) legal_load op now (was op lt now) ∙ count_within (λ b. not (is_resident rows h b || false)) (λ b. not (is_resident rows h b)) (needs_of_op rows h op) (λ b asked. ap not (or-false (is_resident rows h b)))

        lacks_same : (op : OpId) → op.0 < loads_of h → is_unreleased (h ++ Load o caller ask ∷ []) op ≡ true → (b : BundleNo) → lacks rows (h ++ Load o caller ask ∷ []) op b ≡ lacks rows h op b
        lacks_same op lt now b = waits_push rows limit h (Load o caller ask) legal_load op now (was op lt now) b ∙ ap (λ t. is_in b (needs_of_op rows h op) && not t) (or-false (is_resident rows h b))

        new_missing : missing_of rows (h ++ Load o caller ask ∷ []) o ≡ count_by (λ b. not (is_resident rows h b)) (needs_of rows ask)
        new_missing = ap (count_by (λ b. not (is_resident rows (h ++ Load o caller ask ∷ []) b))) new_needs ∙ count_within (λ b. not (is_resident rows (h ++ Load o caller ask ∷ []) b)) (λ b. not (is_resident rows h b)) (needs_of rows ask) (λ b asked. ap not (same_resident rows limit h legal o caller ask answer b))

-- a status, read off a course
pub status_is : (rows : Rows) (limit : ℕ) (h : List Event) (courses : List Course) (waits : List (List ℕ)) → AreCourses rows h courses waits → (op : OpId) (c : Course) → slice_get courses op.0 ≡ Some c → is_unreleased h op ≡ true → unwrap_or c.failed (if eqb c.missing 0 then Ready else Pending) ≡ status_of rows h op
unfolding status_of
status_is rows limit h courses waits are op c at now = ap (λ (f : Option OpStatus). unwrap_or f (if eqb c.missing 0 then Ready else Pending)) (are.failed op c at now) ∙ by (failure_of rows h op) refl
  where
    none_missing : (p : BundleNo → Bool) (bs : List BundleNo) → eqb (count_by (λ b. not (p b)) bs) 0 ≡ list_all p bs
    none_missing p [] = refl
    none_missing p (b ∷ bs) = ap (λ n. eqb n 0) (count-cons (λ c. not (p c)) b bs) ∙ by_head (p b) (none_missing p bs)
      where
        by_head : (t : Bool) → eqb (count_by (λ c. not (p c)) bs) 0 ≡ list_all p bs → eqb (one_if (not t) + count_by (λ c. not (p c)) bs) 0 ≡ (t && list_all p bs)
        by_head true rest = ap (λ n. eqb n 0) (let same : 0 + count_by (λ c. not (p c)) bs ≡ count_by (λ c. not (p c)) bs = omega arith in same) ∙ rest
        by_head false rest = ne_eqb (1 + count_by (λ c. not (p c)) bs) 0 (λ same. omega arith)

    by : (f : Option OpStatus) → failure_of rows h op ≡ f → unwrap_or (failure_of rows h op) (if eqb c.missing 0 then Ready else Pending) ≡ unwrap_or (failure_of rows h op) (if list_all (is_resident rows h) (needs_of_op rows h op) then Ready else Pending)
    by None is = ap (λ t. unwrap_or (failure_of rows h op) (if t then Ready else Pending)) (ap (λ n. eqb n 0) (are.missing op c at now is) ∙ none_missing (is_resident rows h) (needs_of_op rows h op))
    by (Some s) is = ap (λ (f : Option OpStatus). unwrap_or f (if eqb c.missing 0 then Ready else Pending)) is ∙ sym (ap (λ (f : Option OpStatus). unwrap_or f (if list_all (is_resident rows h) (needs_of_op rows h op) then Ready else Pending)) is)

pub unreleased_at : (rows : Rows) (h : List Event) (courses : List Course) (waits : List (List ℕ)) → AreCourses rows h courses waits → (op : OpId) (c : Course) → slice_get courses op.0 ≡ Some c → is_unreleased h op ≡ ltb 0 c.references
unreleased_at rows h courses waits are op c at = unreleased_is h op ∙ ap (ltb 0) (sym (are.references op c at))

pub no_references : (rows : Rows) (limit : ℕ) (h : List Event) → Legal rows limit h → (courses : List Course) (waits : List (List ℕ)) → AreCourses rows h courses waits → (op : OpId) → length courses ≤ op.0 → references_of h op ≡ 0
no_references rows limit h legal courses waits are op le = references_none h op (no_load_past rows limit h legal op (omega (arith, are.many)))

pub not_unreleased : (rows : Rows) (limit : ℕ) (h : List Event) → Legal rows limit h → (courses : List Course) (waits : List (List ℕ)) → AreCourses rows h courses waits → (op : OpId) → length courses ≤ op.0 → is_unreleased h op ≡ false
not_unreleased rows limit h legal courses waits are op le = unreleased_is h op ∙ ap (ltb 0) (no_references rows limit h legal courses waits are op le)

-- What each event does to the status of an operation that isn't released: its first failure, and how many of its bundles aren't resident.
use Rattle.std.proofs.Common.{◌≡◌, inl, inr, ℕ, ◌+◌, ltb, ◌<◌, Bool, true, false, ◌&&◌, ◌||◌, not, cond, eqb, List, [], ◌∷◌, ◌++◌, Option, Some, None, refl, sym, ◌∙◌, ap, subst, arith, find}
use Rattle.std.proofs.lemmas.Bool.{false≢true, and_parts, eq-eqb, ne_eqb, lt-ltb, not-true, cases_eq, cases_Bool}
use Rattle.std.proofs.lemmas.List.Folds.{find-append}
use Rattle.std.specs.List.{list_any, count_by}
use Rattle.std.specs.Option.{option_or, option_map_or}
use Rattle.addr_base.specs.declared.ids.BundleNo.{BundleNo}
use Rattle.addr_base.specs.declared.ids.OpId.{OpId}
use Rattle.addr_locate.specs.Rows.{Rows, no_repeats}
use Rattle.addr_history.specs.declared.ask.Ask.{Ask}
use Rattle.addr_history.specs.declared.answers.OpStatus.TheVariants.{Failed}
use Rattle.addr_history.specs.declared.event.Event.{Event}
use Rattle.addr_history.specs.declared.event.Event.TheVariants.{Load, Acquire, Release, Take, Done, Fail, Close}
use Rattle.addr_history.specs.Events.{is_in, is_load_of, is_acquire_of, is_take_of, is_done_of, is_end_of, needs_of, needs_of_event, rows_of_ask, rows_of_event}
use Rattle.addr_history.specs.Counts.{is_unreleased, count_of, needs_of_op, rows_of_op}
use Rattle.addr_history.specs.Places.{is_resident, is_fetched, is_fetched_by, is_queued}
use Rattle.addr_history.specs.Status.{since_load, first_failure}
use Rattle.addr_history.specs.Legal.{IsAnswer, Legal}
use Rattle.addr_history.proofs.Points.{list_any_push, and-true, or-false}
use Rattle.addr_history.proofs.Steps.{counts_on, begins, fetched_push, resident_push, queued_push}
use Rattle.addr_history.proofs.Ranges.{same_bundle, take_facts, fetched_by_some}
use Rattle.addr_history.proofs.Legality.{acquire_facts, done_facts, fail_facts, by_events, acquires_push, releases_push, held, references_held, unreleased_is, unreleased_parts}
use Rattle.addr_history.proofs.Counting.{one_if, count-cons, find_some, find_none, closed_load, opened_some, same_op}
use Rattle.addr_history.proofs.QueueSteps.{needs_once}

-- events after a Load
since_push : (op : OpId) (h : List Event) (e : Event) → list_any (is_load_of op) h ≡ true → since_load op (h ++ e ∷ []) ≡ since_load op h ++ e ∷ []
since_push op [] e has = absurd (false≢true has)
since_push op (x ∷ h) e has = by (is_load_of op x) has (since_push op h e)
  where
    by : (t : Bool) → (t || list_any (is_load_of op) h) ≡ true → (list_any (is_load_of op) h ≡ true → since_load op (h ++ e ∷ []) ≡ since_load op h ++ e ∷ []) → cond t (h ++ e ∷ []) (since_load op (h ++ e ∷ [])) ≡ cond t h (since_load op h) ++ e ∷ []
    by true given rest = refl
    by false given rest = rest given

pub since_new : (op : OpId) (h : List Event) (e : Event) → list_any (is_load_of op) h ≡ false → is_load_of op e ≡ true → since_load op (h ++ e ∷ []) ≡ []
since_new op [] e none this = ap (λ t. let l : List Event = cond t [] (since_load op []) in l) this
since_new op (x ∷ h) e none this = by (is_load_of op x) none (since_new op h e)
  where
    by : (t : Bool) → (t || list_any (is_load_of op) h) ≡ false → (list_any (is_load_of op) h ≡ false → is_load_of op e ≡ true → since_load op (h ++ e ∷ []) ≡ []) → cond t (h ++ e ∷ []) (since_load op (h ++ e ∷ [])) ≡ []
    by true given rest = absurd (false≢true (sym given))
    by false given rest = rest given this

failure_append : (bs : List BundleNo) (xs ys : List Event) → first_failure bs (xs ++ ys) ≡ option_or (first_failure bs xs) (first_failure bs ys)
failure_append bs [] ys = refl
failure_append bs (Load op c k ∷ xs) ys = failure_append bs xs ys
failure_append bs (Acquire o c ∷ xs) ys = failure_append bs xs ys
failure_append bs (Release o c ∷ xs) ys = failure_append bs xs ys
failure_append bs (Take o c ∷ xs) ys = failure_append bs xs ys
failure_append bs (Done o c ∷ xs) ys = failure_append bs xs ys
failure_append bs (Fail o c k ∷ xs) ys = by (is_in o bs) (failure_append bs xs ys)
  where
    by : (t : Bool) → first_failure bs (xs ++ ys) ≡ option_or (first_failure bs xs) (first_failure bs ys) → cond t (Some (Failed o k)) (first_failure bs (xs ++ ys)) ≡ option_or (cond t (Some (Failed o k)) (first_failure bs xs)) (first_failure bs ys)
    by true rest = refl
    by false rest = rest
failure_append bs (Close ∷ xs) ys = failure_append bs xs ys

-- counts over what a list has
pub count_within : (p q : BundleNo → Bool) (bs : List BundleNo) → ((b : BundleNo) → is_in b bs ≡ true → p b ≡ q b) → count_by p bs ≡ count_by q bs
count_within p q [] same = refl
count_within p q (b ∷ bs) same =
    omega (arith, count-cons p b bs, count-cons q b bs, ap one_if (same b (ap (λ t. t || is_in b bs) (eq-eqb b.0 b.0 refl))), count_within p q bs (λ c is. same c (right (eqb b.0 c.0) is)))
  where
    right : (s : Bool) {t : Bool} → t ≡ true → (s || t) ≡ true
    right true is = refl
    right false is = is

pub count_done : (p : BundleNo → Bool) (b : BundleNo) (bs : List BundleNo) → no_repeats bs ≡ true → count_by (λ c. not (p c || eqb b.0 c.0)) bs + one_if (is_in b bs && not (p b)) ≡ count_by (λ c. not (p c)) bs
count_done p b [] once = refl
count_done p b (c ∷ bs) once =
    let parts = and_parts (not (is_in c bs)) (no_repeats bs) once in
    let rest = count_done p b bs parts.1 in
    elim (cases_eq c.0 b.0) [
      | inl same ↦
          let it : c ≡ b = ap (λ n. let r : BundleNo = record { 0 = n } in r) same in
          let out : is_in b bs ≡ false = ap (λ d. is_in d bs) (sym it) ∙ not-true (is_in c bs) parts.0 in
          let head : one_if (not (p c || eqb b.0 c.0)) ≡ 0 = ap (λ t. one_if (not (p c || t))) (eq-eqb b.0 c.0 (sym same)) ∙ ap (λ t. one_if (not t)) (to_true (p c)) in
          let here : one_if ((eqb c.0 b.0 || is_in b bs) && not (p b)) ≡ one_if (not (p c)) = ap (λ t. one_if ((t || is_in b bs) && not (p b))) (eq-eqb c.0 b.0 same) ∙ ap (λ d. one_if (not (p d))) (sym it) in
          let none : one_if (is_in b bs && not (p b)) ≡ 0 = ap (λ t. one_if (t && not (p b))) out in
          omega (arith, rest, count-cons (λ (d : BundleNo). not (p d || eqb b.0 d.0)) c bs, count-cons (λ (d : BundleNo). not (p d)) c bs)
      | inr other ↦
          let head : one_if (not (p c || eqb b.0 c.0)) ≡ one_if (not (p c)) = ap (λ t. one_if (not (p c || t))) (ne_eqb b.0 c.0 (λ same. other (sym same))) ∙ ap (λ t. one_if (not t)) (or-false (p c)) in
          let here : one_if ((eqb c.0 b.0 || is_in b bs) && not (p b)) ≡ one_if (is_in b bs && not (p b)) = ap (λ t. one_if ((t || is_in b bs) && not (p b))) (ne_eqb c.0 b.0 other) in
          omega (arith, rest, count-cons (λ (d : BundleNo). not (p d || eqb b.0 d.0)) c bs, count-cons (λ (d : BundleNo). not (p d)) c bs)
    ]
  where
    to_true : (t : Bool) → (t || true) ≡ true
    to_true true = refl
    to_true false = refl

-- a bundle is at one place at most
abbrev pub Apart : Rows → List Event → BundleNo → Type 0
Apart rows h b = (is_resident rows h b ≡ true → (is_fetched h b ≡ false) × (is_queued rows h b ≡ false)) × (is_fetched h b ≡ true → (is_resident rows h b ≡ false) × (is_queued rows h b ≡ false))

module _ (rows : Rows) (limit : ℕ) where
  pub needs_kept : (h : List Event) (e : Event) (op : OpId) → list_any (is_load_of op) h ≡ true → needs_of_op rows (h ++ e ∷ []) op ≡ needs_of_op rows h op
  unfolding needs_of_op
  needs_kept h e op has =
      let found = find_some (is_load_of op) h has in
      ap (λ (o : Option Event). option_map_or (needs_of_event rows) o []) (find-append (is_load_of op) h (e ∷ []) ∙ ap (λ (o : Option Event). option_or o (find (is_load_of op) (e ∷ []))) found.1.0 ∙ sym found.1.0)

  pub needs_new : (h : List Event) (op : OpId) (caller : ℕ) (ask : Ask) → list_any (is_load_of op) h ≡ false → needs_of_op rows (h ++ Load op caller ask ∷ []) op ≡ needs_of rows ask
  unfolding needs_of_op
  needs_new h op caller ask none =
      ap (λ (o : Option Event). option_map_or (needs_of_event rows) o [])
      (find-append (is_load_of op) h (Load op caller ask ∷ []) ∙ ap (λ (o : Option Event). option_or o (find (is_load_of op) (Load op caller ask ∷ []))) (find_none (is_load_of op) h none) ∙ ap (λ t. cond t (Some (Load op caller ask)) None) (eq-eqb op.0 op.0 refl))

  -- the rows of an operation stay, and a new one's are those that its ask finds
  pub found_kept : (h : List Event) (e : Event) (op : OpId) → list_any (is_load_of op) h ≡ true → rows_of_op rows (h ++ e ∷ []) op ≡ rows_of_op rows h op
  unfolding rows_of_op
  found_kept h e op has =
      let found = find_some (is_load_of op) h has in
      ap (λ (o : Option Event). option_map_or (rows_of_event rows) o []) (find-append (is_load_of op) h (e ∷ []) ∙ ap (λ (o : Option Event). option_or o (find (is_load_of op) (e ∷ []))) found.1.0 ∙ sym found.1.0)

  pub found_new : (h : List Event) (op : OpId) (caller : ℕ) (ask : Ask) → list_any (is_load_of op) h ≡ false → rows_of_op rows (h ++ Load op caller ask ∷ []) op ≡ rows_of_ask rows ask
  unfolding rows_of_op
  found_new h op caller ask none =
      ap (λ (o : Option Event). option_map_or (rows_of_event rows) o [])
      (find-append (is_load_of op) h (Load op caller ask ∷ []) ∙ ap (λ (o : Option Event). option_or o (find (is_load_of op) (Load op caller ask ∷ []))) (find_none (is_load_of op) h none) ∙ ap (λ t. cond t (Some (Load op caller ask)) None) (eq-eqb op.0 op.0 refl))

  pub op_needs_once : (h : List Event) (op : OpId) → no_repeats (needs_of_op rows h op) ≡ true
  unfolding needs_of_op
  op_needs_once h op = at (find (is_load_of op) h)
    where
      at : (o : Option Event) → no_repeats (option_map_or (needs_of_event rows) o []) ≡ true
      at None = refl
      at (Some e) = needs_once rows e

  -- a bundle that an unreleased operation needs is counted
  pub needed_counted : (h : List Event) → Legal rows limit h → (op : OpId) (b : BundleNo) → is_unreleased h op ≡ true → is_in b (needs_of_op rows h op) ≡ true → 0 < count_of rows h b
  unfolding count_of needs_of_op
  needed_counted h legal op b is asked =
      let closed = closed_load rows limit h op is in
      let picks : is_in b (needs_of_event rows closed.0) ≡ true = ap (λ (o : Option Event). is_in b (option_map_or (needs_of_event rows) o [])) (sym closed.1.0) ∙ asked in
      omega (arith, opened_some (λ e. is_in b (needs_of_event rows e)) (is_load_of op) h closed.0 closed.1.0 closed.1.1 picks)

  pub unreleased_before : (h : List Event) (e : Event) → Legal rows limit (h ++ e ∷ []) → (op : OpId) → is_load_of op e ≡ false → is_unreleased (h ++ e ∷ []) op ≡ true → is_unreleased h op ≡ true
  unreleased_before h e legal op other is = elim (cases_Bool (is_acquire_of op e)) [
    | inl this ↦ by_acquire e (legal.answers h e [] refl) this
    | inr none ↦
        let parts = unreleased_parts (h ++ e ∷ []) op is in
        let loaded : list_any (is_load_of op) h ≡ true = sym (list_any_push (is_load_of op) h e ∙ ap (λ t. list_any (is_load_of op) h || t) other ∙ or-false (list_any (is_load_of op) h)) ∙ parts.0 in
        let pos : 0 < held (h ++ e ∷ []) op = parts.1 in
        let no_more : one_if (is_acquire_of op e) ≡ 0 = ap one_if none in
        unreleased_is h op ∙ ap (ltb 0) (references_held h op loaded) ∙ lt-ltb 0 (held h op) (omega (arith, acquires_push h e op, releases_push h e op))
  ]
    where
      by_acquire : (x : Event) → IsAnswer rows limit h x → is_acquire_of op x ≡ true → is_unreleased h op ≡ true
      by_acquire (Acquire o c) answer this = let f = acquire_facts rows limit h o c answer in subst (λ (w : OpId). is_unreleased h w ≡ true) (same_op o op this) f.has
      by_acquire (Load o c k) answer this = absurd (false≢true this)
      by_acquire (Release o c) answer this = absurd (false≢true this)
      by_acquire (Take o c) answer this = absurd (false≢true this)
      by_acquire (Done o c) answer this = absurd (false≢true this)
      by_acquire (Fail o c k) answer this = absurd (false≢true this)
      by_acquire Close answer this = absurd (false≢true this)

  module _ (h : List Event) (e : Event) (legal : Legal rows limit (h ++ e ∷ [])) (op : OpId) (now : is_unreleased (h ++ e ∷ []) op ≡ true) (was : is_unreleased h op ≡ true) where
    loaded : list_any (is_load_of op) h ≡ true
    loaded = (unreleased_parts h op was).0

    pub failure_push : first_failure (needs_of_op rows (h ++ e ∷ []) op) (since_load op (h ++ e ∷ [])) ≡ option_or (first_failure (needs_of_op rows h op) (since_load op h)) (first_failure (needs_of_op rows h op) (e ∷ []))
    failure_push =
        ap (λ (bs : List BundleNo). first_failure bs (since_load op (h ++ e ∷ []))) (needs_kept h e op loaded)
        ∙ ap (first_failure (needs_of_op rows h op)) (since_push op h e loaded)
        ∙ failure_append (needs_of_op rows h op) (since_load op h) (e ∷ [])

    pub resident_needed : (b : BundleNo) → is_in b (needs_of_op rows h op) ≡ true → is_resident rows (h ++ e ∷ []) b ≡ (is_resident rows h b || is_done_of b e)
    resident_needed b asked =
        let counted = needed_counted (h ++ e ∷ []) legal op b now (ap (is_in b) (needs_kept h e op loaded) ∙ asked) in
        resident_push rows h e b ∙ ap (λ t. (is_resident rows h b || is_done_of b e) && t) (lt-ltb 0 (count_of rows (h ++ e ∷ []) b) counted) ∙ and-true (is_resident rows h b || is_done_of b e)

    pub missing_push : count_by (λ b. not (is_resident rows (h ++ e ∷ []) b)) (needs_of_op rows (h ++ e ∷ []) op) ≡ count_by (λ b. not (is_resident rows h b || is_done_of b e)) (needs_of_op rows h op)
    missing_push =
        ap (count_by (λ b. not (is_resident rows (h ++ e ∷ []) b))) (needs_kept h e op loaded)
        ∙ count_within (λ b. not (is_resident rows (h ++ e ∷ []) b)) (λ b. not (is_resident rows h b || is_done_of b e)) (needs_of_op rows h op) (λ b asked. ap not (resident_needed b asked))

    pub waits_push : (b : BundleNo) → (is_in b (needs_of_op rows (h ++ e ∷ []) op) && not (is_resident rows (h ++ e ∷ []) b)) ≡ (is_in b (needs_of_op rows h op) && not (is_resident rows h b || is_done_of b e))
    waits_push b = ap (λ (bs : List BundleNo). is_in b bs && not (is_resident rows (h ++ e ∷ []) b)) (needs_kept h e op loaded) ∙ at (is_in b (needs_of_op rows h op)) (resident_needed b)
      where
        at : (t : Bool) → (t ≡ true → is_resident rows (h ++ e ∷ []) b ≡ (is_resident rows h b || is_done_of b e)) → (t && not (is_resident rows (h ++ e ∷ []) b)) ≡ (t && not (is_resident rows h b || is_done_of b e))
        at true same = ap not (same refl)
        at false same = refl

  apart_first : (b : BundleNo) → Apart rows [] b
  unfolding is_resident is_fetched is_queued
  apart_first b = ((λ is. absurd (false≢true is)), (λ is. absurd (false≢true is)))

  -- the three after an event, as Booleans: r, f, q before; d, t, n for its Done, Take and end; g where it begins to wait; c where it counts on
  keep_take : (r f q c : Bool) → ((r ≡ true → (f ≡ false) × (q ≡ false)) × (f ≡ true → (r ≡ false) × (q ≡ false))) → q ≡ true
      → (((((r || false) && c) ≡ true) → (((f && true) || true) ≡ false) × ((((q && false) || false) && c) ≡ false)) × ((((f && true) || true) ≡ true) → (((r || false) && c) ≡ false) × ((((q && false) || false) && c) ≡ false)))
  keep_take true f q c was queued = absurd (false≢true (sym (was.0 refl).1 ∙ queued))
  keep_take false true q c was queued = absurd (false≢true (sym (was.1 refl).1 ∙ queued))
  keep_take false false true c was queued = ((λ is. absurd (false≢true is)), (λ is. (refl, refl)))
  keep_take false false false c was queued = absurd (false≢true queued)

  keep_end : (r f q d c : Bool) → ((r ≡ true → (f ≡ false) × (q ≡ false)) × (f ≡ true → (r ≡ false) × (q ≡ false))) → f ≡ true
      → (((((r || d) && c) ≡ true) → (((f && false) || false) ≡ false) × ((((q && true) || false) && c) ≡ false)) × ((((f && false) || false) ≡ true) → (((r || d) && c) ≡ false) × ((((q && true) || false) && c) ≡ false)))
  keep_end r true true d c was fetched = absurd (false≢true (sym (was.1 refl).1))
  keep_end r true false d c was fetched = ((λ is. (refl, refl)), (λ is. absurd (false≢true is)))
  keep_end r false q d c was fetched = absurd (false≢true fetched)

  keep_other : (r f q a c : Bool) → ((r ≡ true → (f ≡ false) × (q ≡ false)) × (f ≡ true → (r ≡ false) × (q ≡ false)))
      → (((((r || false) && c) ≡ true) → (((f && true) || false) ≡ false) × ((((q && true) || ((a && not r) && not f)) && c) ≡ false)) × ((((f && true) || false) ≡ true) → (((r || false) && c) ≡ false) × ((((q && true) || ((a && not r) && not f)) && c) ≡ false)))
  keep_other true true q a c was = absurd (false≢true (sym (was.0 refl).0))
  keep_other true false true a c was = absurd (false≢true (sym (was.0 refl).1))
  keep_other true false false true c was = ((λ is. (refl, refl)), (λ is. absurd (false≢true is)))
  keep_other true false false false c was = ((λ is. (refl, refl)), (λ is. absurd (false≢true is)))
  keep_other false true true a c was = absurd (false≢true (sym (was.1 refl).1))
  keep_other false true false true c was = ((λ is. absurd (false≢true is)), (λ is. (refl, refl)))
  keep_other false true false false c was = ((λ is. absurd (false≢true is)), (λ is. (refl, refl)))
  keep_other false false q a c was = ((λ is. absurd (false≢true is)), (λ is. absurd (false≢true is)))

  abbrev Three : Bool → Bool → Bool → Type 0
  Three r f q = (r ≡ true → (f ≡ false) × (q ≡ false)) × (f ≡ true → (r ≡ false) × (q ≡ false))

  apart_by : (h : List Event) (e : Event) (b : BundleNo) → Three ((is_resident rows h b || is_done_of b e) && counts_on rows h e b) ((is_fetched h b && not (is_end_of b e)) || is_take_of b e) (((is_queued rows h b && not (is_take_of b e)) || begins rows h e b) && counts_on rows h e b) → Apart rows (h ++ e ∷ []) b
  apart_by h e b three =
      subst (λ r. Three r (is_fetched (h ++ e ∷ []) b) (is_queued rows (h ++ e ∷ []) b)) (sym (resident_push rows h e b))
      (subst (λ f. Three ((is_resident rows h b || is_done_of b e) && counts_on rows h e b) f (is_queued rows (h ++ e ∷ []) b)) (sym (fetched_push rows h e b))
      (subst (λ q. Three ((is_resident rows h b || is_done_of b e) && counts_on rows h e b) ((is_fetched h b && not (is_end_of b e)) || is_take_of b e) q) (sym (queued_push rows h e b)) three))

  -- resident, fetched and queued exclude one another
  pub apart : (h : List Event) → Legal rows limit h → (b : BundleNo) → Apart rows h b
  apart = by_events rows limit (λ h. (b : BundleNo) → Apart rows h b) apart_first (λ h e legal answer before b. apart_by h e b (three h e answer b (before b)))
    where
      taken : (h : List Event) (o : BundleNo) (w : ℕ) (b : BundleNo) → IsAnswer rows limit h (Take o w) → (t : Bool) → eqb o.0 b.0 ≡ t → Apart rows h b → Three ((is_resident rows h b || false) && counts_on rows h (Take o w) b) ((is_fetched h b && true) || t) (((is_queued rows h b && not t) || false) && counts_on rows h (Take o w) b)
      taken h o w b answer true is was = keep_take (is_resident rows h b) (is_fetched h b) (is_queued rows h b) (counts_on rows h (Take o w) b) was (ap (is_queued rows h) (sym (same_bundle o b is)) ∙ take_facts rows limit h o w answer)
      taken h o w b answer false is was = keep_other (is_resident rows h b) (is_fetched h b) (is_queued rows h b) false (counts_on rows h (Take o w) b) was

      ended : (h : List Event) (e : Event) (o : BundleNo) (w : ℕ) (b : BundleNo) → is_fetched_by h o w ≡ true → (t : Bool) → eqb o.0 b.0 ≡ t → (d : Bool) → (t ≡ false → d ≡ false) → Apart rows h b → Three ((is_resident rows h b || d) && counts_on rows h e b) ((is_fetched h b && not t) || false) (((is_queued rows h b && true) || false) && counts_on rows h e b)
      ended h e o w b by true is d only was = keep_end (is_resident rows h b) (is_fetched h b) (is_queued rows h b) d (counts_on rows h e b) was (ap (is_fetched h) (sym (same_bundle o b is)) ∙ fetched_by_some h o w by)
      ended h e o w b by false is d only was =
          subst (λ x. Three ((is_resident rows h b || x) && counts_on rows h e b) ((is_fetched h b && true) || false) (((is_queued rows h b && true) || false) && counts_on rows h e b)) (sym (only refl))
          (keep_other (is_resident rows h b) (is_fetched h b) (is_queued rows h b) false (counts_on rows h e b) was)

      three : (h : List Event) (e : Event) → IsAnswer rows limit h e → (b : BundleNo) → Apart rows h b → Three ((is_resident rows h b || is_done_of b e) && counts_on rows h e b) ((is_fetched h b && not (is_end_of b e)) || is_take_of b e) (((is_queued rows h b && not (is_take_of b e)) || begins rows h e b) && counts_on rows h e b)
      three h (Load op c k) answer b was = keep_other (is_resident rows h b) (is_fetched h b) (is_queued rows h b) (is_in b (needs_of_event rows (Load op c k))) (counts_on rows h (Load op c k) b) was
      three h (Acquire o c) answer b was = keep_other (is_resident rows h b) (is_fetched h b) (is_queued rows h b) false (counts_on rows h (Acquire o c) b) was
      three h (Release o c) answer b was = keep_other (is_resident rows h b) (is_fetched h b) (is_queued rows h b) false (counts_on rows h (Release o c) b) was
      three h (Take o w) answer b was = taken h o w b answer (eqb o.0 b.0) refl was
      three h (Done o w) answer b was = ended h (Done o w) o w b (done_facts rows limit h o w answer) (eqb o.0 b.0) refl (eqb o.0 b.0) (λ is. is) was
      three h (Fail o w k) answer b was = ended h (Fail o w k) o w b (fail_facts rows limit h o w k answer) (eqb o.0 b.0) refl false (λ is. refl) was
      three h Close answer b was = keep_other (is_resident rows h b) (is_fetched h b) (is_queued rows h b) false (counts_on rows h Close b) was

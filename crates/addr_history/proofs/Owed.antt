-- What is used and owed together stays within the limit, at each event of a legal history.
use Rattle.std.proofs.Common.{◌≡◌, ◌⊎◌, inl, inr, ℕ, ◌+◌, ◌*◌, ◌≤◌, ◌<◌, zero, suc, Bool, true, false, ◌&&◌, ◌||◌, not, eqb, List, [], ◌∷◌, ◌++◌, length, map, refl, sym, ◌∙◌, ap, subst, arith, length-append, if◌then◌else◌}
use Rattle.std.proofs.lemmas.Bool.{false≢true, and_parts, or_cases, ne_eqb, eq-eqb, cases_eq}
use Rattle.std.specs.List.{count_by, range_with_len}
use Rattle.addr_base.specs.declared.ids.BundleNo.{BundleNo}
use Rattle.addr_base.specs.declared.ids.OpId.{OpId}
use Rattle.addr_locate.specs.Rows.{Rows}
use Rattle.addr_history.specs.declared.ask.Ask.{Ask}
use Rattle.addr_history.specs.declared.event.Event.{Event}
use Rattle.addr_history.specs.declared.event.Event.TheVariants.{Load, Acquire, Release, Take, Done, Fail, Close}
use Rattle.addr_history.specs.Events.{is_in, is_close, is_take_of, is_end_of, needs_of, needs_of_event}
use Rattle.addr_history.specs.Counts.{is_closed, references_in}
use Rattle.addr_history.specs.Places.{is_resident, is_fetched, is_fetched_by, is_queued, is_absent, bundles_of}
use Rattle.addr_history.specs.Answers.{reserved, needed}
use Rattle.addr_history.specs.Legal.{IsAnswer, Legal}
use Rattle.addr_history.proofs.Points.{list_any_push}
use Rattle.addr_history.proofs.Steps.{counts_on, begins, fetched_push, queued_push}
use Rattle.addr_history.proofs.Legality.{load_facts, acquire_facts, release_facts, done_facts, fail_facts, close_facts, by_events}
use Rattle.addr_history.proofs.Counting.{one_if, count-cons, KeepsReferences, held_at, references_calm, references_load, references_acquire, references_release}
use Rattle.addr_history.proofs.Ranges.{Sound, same_bundle, queued_below, take_facts, fetched_below, fetched_by_some}

-- counts against one another, element by element
count_le2 : {X : Type 0} (p q r : X → Bool) → ((x : X) → one_if (p x) ≤ one_if (q x) + one_if (r x)) → (xs : List X) → count_by p xs ≤ count_by q xs + count_by r xs
count_le2 p q r le [] = omega arith
count_le2 p q r le (x ∷ xs) = omega (arith, le x, count-cons p x xs, count-cons q x xs, count-cons r x xs, count_le2 p q r le xs)

pub count_ge2 : {X : Type 0} (p q r : X → Bool) → ((x : X) → one_if (p x) + one_if (q x) ≤ one_if (r x)) → (xs : List X) → count_by p xs + count_by q xs ≤ count_by r xs
count_ge2 p q r le [] = omega arith
count_ge2 p q r le (x ∷ xs) = omega (arith, le x, count-cons p x xs, count-cons q x xs, count-cons r x xs, count_ge2 p q r le xs)

pub count_none : {X : Type 0} (xs : List X) → count_by (λ x. false) xs ≡ 0
count_none [] = refl
count_none (x ∷ xs) = omega (arith, count-cons (λ (y : _). false) x xs, count_none xs)

count_le : {X : Type 0} (p q : X → Bool) → ((x : X) → p x ≡ true → q x ≡ true) → (xs : List X) → count_by p xs ≤ count_by q xs
count_le {X} p q implies xs = omega (arith, count_le2 p q (λ x. false) at xs, count_none xs)
  where
    by : (s t : Bool) → (s ≡ true → t ≡ true) → one_if s ≤ one_if t + 0
    by false t implied = omega arith
    by true true implied = omega arith
    by true false implied = absurd (false≢true (implied refl))

    at : (x : X) → one_if (p x) ≤ one_if (q x) + 0
    at x = by (p x) (q x) (implies x)

-- one bundle among the numbers from one on
abbrev pub numbers : ℕ → ℕ → List BundleNo
numbers from n = map (λ m. record { 0 = m }) (range_with_len from n)

count_past : (p : BundleNo → Bool) (b : BundleNo) (n from : ℕ) → b.0 < from → count_by (λ c. eqb b.0 c.0 && p c) (numbers from n) ≡ 0
count_past p b zero from lt = refl
count_past p b (suc n) from lt =
    let head : BundleNo = record { 0 = from } in
    let off : one_if (eqb b.0 from && p head) ≡ 0 = ap (λ t. one_if (t && p head)) (ne_eqb b.0 from (λ same. omega arith)) in
    omega (arith, count-cons (λ (c : BundleNo). eqb b.0 c.0 && p c) head (numbers (from + 1) n), count_past p b n (from + 1) (omega arith))

pub count_one : (p : BundleNo → Bool) (b : BundleNo) (n from : ℕ) → count_by (λ c. eqb b.0 c.0 && p c) (numbers from n) ≤ one_if (p b)
count_one p b zero from = omega arith
count_one p b (suc n) from = elim (cases_eq b.0 from) [
  | inl same ↦
      let head : BundleNo = record { 0 = from } in
      let here : one_if (eqb b.0 from && p head) ≡ one_if (p b) = ap (λ t. one_if (t && p head)) (eq-eqb b.0 from same) ∙ ap (λ c. one_if (p c)) (sym (same_bundle b head (eq-eqb b.0 from same))) in
      omega (arith, count-cons (λ (c : BundleNo). eqb b.0 c.0 && p c) head (numbers (from + 1) n), count_past p b n (from + 1) (omega arith))
  | inr other ↦
      let head : BundleNo = record { 0 = from } in
      let off : one_if (eqb b.0 from && p head) ≡ 0 = ap (λ t. one_if (t && p head)) (ne_eqb b.0 from other) in
      omega (arith, count-cons (λ (c : BundleNo). eqb b.0 c.0 && p c) head (numbers (from + 1) n), count_one p b n (from + 1))
]

pub count_in_range : (b : BundleNo) (n from : ℕ) → from ≤ b.0 → b.0 < from + n → 1 ≤ count_by (λ c. eqb b.0 c.0) (numbers from n)
count_in_range b zero from le lt = absurd (omega arith)
count_in_range b (suc n) from le lt = elim (cases_eq b.0 from) [
  | inl same ↦
      let head : BundleNo = record { 0 = from } in
      let here : one_if (eqb b.0 from) ≡ 1 = ap one_if (eq-eqb b.0 from same) in
      omega (arith, count-cons (λ (c : BundleNo). eqb b.0 c.0) head (numbers (from + 1) n))
  | inr other ↦
      let head : BundleNo = record { 0 = from } in
      omega (arith, count-cons (λ (c : BundleNo). eqb b.0 c.0) head (numbers (from + 1) n), count_in_range b n (from + 1) (omega arith) (omega arith))
]

-- no more bundles of a list among all than the list has
pub count_chosen : (p : BundleNo → Bool) (bs : List BundleNo) (n from : ℕ) → count_by (λ c. is_in c bs && p c) (numbers from n) ≤ count_by p bs
count_chosen p [] n from = omega (arith, count_none (numbers from n))
count_chosen p (b ∷ bs) n from =
    omega (arith, count_le2 (λ c. is_in c (b ∷ bs) && p c) (λ c. eqb b.0 c.0 && p c) (λ c. is_in c bs && p c) at (numbers from n), count_one p b n from, count-cons p b bs, count_chosen p bs n from)
  where
    by : (s t u : Bool) → one_if ((s || t) && u) ≤ one_if (s && u) + one_if (t && u)
    by true t true = omega arith
    by true t false = omega arith
    by false t u = omega arith

    at : (c : BundleNo) → one_if (is_in c (b ∷ bs) && p c) ≤ one_if (eqb b.0 c.0 && p c) + one_if (is_in c bs && p c)
    at c = by (eqb b.0 c.0) (is_in c bs) (p c)

pub closed_push : (h : List Event) (e : Event) → is_closed (h ++ e ∷ []) ≡ (is_closed h || is_close e)
unfolding is_closed
closed_push h e = list_any_push is_close h e

abbrev owed : List Event → ℕ
owed h = if is_closed h then 0 else 1

owed_same : (h : List Event) (e : Event) → is_close e ≡ false → owed (h ++ e ∷ []) ≡ owed h
owed_same h e other = ap (λ t. let n : ℕ = if t then 0 else 1 in n) (closed_push h e ∙ ap (λ t. is_closed h || t) other ∙ or-false (is_closed h))
  where
    or-false : (t : Bool) → (t || false) ≡ t
    or-false true = refl
    or-false false = refl

module _ (rows : Rows) where
  abbrev waiting : List Event → ℕ
  waiting h = count_by (is_queued rows h) (bundles_of rows)

  abbrev fetching : List Event → ℕ
  fetching h = count_by (is_fetched h) (bundles_of rows)

  reserved_is : (h : List Event) → reserved rows h ≡ references_in h + 2 * waiting h + fetching h + owed h
  unfolding reserved
  reserved_is h = refl

  -- who is queued after an event was queued before, unless the event asks for it
  queued_before : (h : List Event) (e : Event) (b : BundleNo) → is_queued rows (h ++ e ∷ []) b ≡ true → ((is_queued rows h b ≡ true) × (not (is_take_of b e) ≡ true)) ⊎ (begins rows h e b ≡ true)
  queued_before h e b is =
      let parts = and_parts ((is_queued rows h b && not (is_take_of b e)) || begins rows h e b) (counts_on rows h e b) (sym (queued_push rows h e b) ∙ is) in
      elim (or_cases (is_queued rows h b && not (is_take_of b e)) (begins rows h e b) parts.0) [
        | inl old ↦ inl (and_parts (is_queued rows h b) (not (is_take_of b e)) old)
        | inr new ↦ inr new
      ]

  begins_asked : (h : List Event) (e : Event) (b : BundleNo) → begins rows h e b ≡ true → is_in b (needs_of_event rows e) ≡ true
  begins_asked h e b is = (and_parts (is_in b (needs_of_event rows e)) (not (is_resident rows h b)) (and_parts (is_in b (needs_of_event rows e) && not (is_resident rows h b)) (not (is_fetched h b)) is).0).0

  waiting_falls : (h : List Event) (e : Event) → ((b : BundleNo) → is_in b (needs_of_event rows e) ≡ false) → waiting (h ++ e ∷ []) ≤ waiting h
  waiting_falls h e nothing = count_le (is_queued rows (h ++ e ∷ [])) (is_queued rows h) at (bundles_of rows)
    where
      at : (b : BundleNo) → is_queued rows (h ++ e ∷ []) b ≡ true → is_queued rows h b ≡ true
      at b is = elim (queued_before h e b is) [
        | inl old ↦ old.0
        | inr new ↦ absurd (false≢true (sym (nothing b) ∙ begins_asked h e b new))
      ]

  fetching_falls : (h : List Event) (e : Event) → ((b : BundleNo) → is_take_of b e ≡ false) → fetching (h ++ e ∷ []) ≤ fetching h
  fetching_falls h e other = count_le (is_fetched (h ++ e ∷ [])) (is_fetched h) at (bundles_of rows)
    where
      at : (b : BundleNo) → is_fetched (h ++ e ∷ []) b ≡ true → is_fetched h b ≡ true
      at b is = elim (or_cases (is_fetched h b && not (is_end_of b e)) (is_take_of b e) (sym (fetched_push rows h e b) ∙ is)) [
        | inl old ↦ (and_parts (is_fetched h b) (not (is_end_of b e)) old).0
        | inr new ↦ absurd (false≢true (sym (other b) ∙ new))
      ]

  -- a Load lets no more wait than the absent bundles that it needs
  waiting_load : (h : List Event) (op : OpId) (caller : ℕ) (ask : Ask) → waiting (h ++ Load op caller ask ∷ []) ≤ waiting h + count_by (is_absent rows h) (needs_of rows ask)
  unfolding is_absent
  waiting_load h op caller ask =
      omega (arith, count_le2 (is_queued rows (h ++ e ∷ [])) (is_queued rows h) (λ c. is_in c (needs_of rows ask) && is_absent rows h c) at (bundles_of rows), count_chosen (is_absent rows h) (needs_of rows ask) (length rows.bundles) 0)
    where
      e : Event
      e = Load op caller ask

      by : (q r f n : Bool) → ((n && not r) && not f) ≡ true → 1 ≤ one_if q + one_if (n && ((not r && not f) && not q))
      by true r f n is = omega arith
      by false false false true is = omega arith
      by false true f true is = absurd (false≢true is)
      by false false true true is = absurd (false≢true is)
      by false r f false is = absurd (false≢true is)

      some : (t : Bool) → one_if t ≤ 1
      some true = omega arith
      some false = omega arith

      old_one : (t n : Bool) → t ≡ true → 1 ≤ one_if t + one_if n
      old_one true n is = omega arith
      old_one false n is = absurd (false≢true is)

      or_none : (t : Bool) (n : ℕ) → (t ≡ true → 1 ≤ n) → one_if t ≤ n
      or_none true n one = one refl
      or_none false n one = omega arith

      at : (c : BundleNo) → one_if (is_queued rows (h ++ e ∷ []) c) ≤ one_if (is_queued rows h c) + one_if (is_in c (needs_of rows ask) && is_absent rows h c)
      at c =
          or_none (is_queued rows (h ++ e ∷ []) c) (one_if (is_queued rows h c) + one_if (is_in c (needs_of rows ask) && is_absent rows h c))
          (λ is. elim (queued_before h e c is) [
            | inl old ↦ old_one (is_queued rows h c) (is_in c (needs_of rows ask) && is_absent rows h c) old.0
            | inr new ↦ by (is_queued rows h c) (is_resident rows h c) (is_fetched h c) (is_in c (needs_of rows ask)) new
          ])

  -- a Take of a queued bundle
  waiting_take : (h : List Event) (b : BundleNo) (worker : ℕ) → is_queued rows h b ≡ true → b.0 < length rows.bundles → waiting (h ++ Take b worker ∷ []) + 1 ≤ waiting h
  waiting_take h b worker queued below =
      omega (arith, count_ge2 (is_queued rows (h ++ Take b worker ∷ [])) (λ c. eqb b.0 c.0) (is_queued rows h) at (bundles_of rows), count_in_range b (length rows.bundles) 0 (omega arith) (omega arith))
    where
      by : (s t q : Bool) → (s ≡ true → (q ≡ true) × (not t ≡ true)) → (t ≡ true → q ≡ true) → one_if s + one_if t ≤ one_if q
      by true true q one two = absurd (false≢true (one refl).1)
      by true false true one two = omega arith
      by true false false one two = absurd (false≢true (one refl).0)
      by false true true one two = omega arith
      by false true false one two = absurd (false≢true (two refl))
      by false false q one two = omega arith

      was : (c : BundleNo) → is_queued rows (h ++ Take b worker ∷ []) c ≡ true → (is_queued rows h c ≡ true) × (not (eqb b.0 c.0) ≡ true)
      was c is = elim (queued_before h (Take b worker) c is) [
        | inl old ↦ old
        | inr new ↦ absurd (false≢true (begins_asked h (Take b worker) c new))
      ]

      at : (c : BundleNo) → one_if (is_queued rows (h ++ Take b worker ∷ []) c) + one_if (eqb b.0 c.0) ≤ one_if (is_queued rows h c)
      at c = by (is_queued rows (h ++ Take b worker ∷ []) c) (eqb b.0 c.0) (is_queued rows h c) (was c) (λ same. subst (λ d. is_queued rows h d ≡ true) (same_bundle b c same) queued)

  fetching_take : (h : List Event) (b : BundleNo) (worker : ℕ) → fetching (h ++ Take b worker ∷ []) ≤ fetching h + 1
  fetching_take h b worker =
      omega (arith, count_le2 (is_fetched (h ++ Take b worker ∷ [])) (is_fetched h) (λ c. eqb b.0 c.0 && true) at (bundles_of rows), count_one (λ c. true) b (length rows.bundles) 0)
    where
      by : (s t : Bool) → one_if ((s && true) || t) ≤ one_if s + one_if (t && true)
      by true t = omega arith
      by false true = omega arith
      by false false = omega arith

      at : (c : BundleNo) → one_if (is_fetched (h ++ Take b worker ∷ []) c) ≤ one_if (is_fetched h c) + one_if (eqb b.0 c.0 && true)
      at c = subst (λ t. one_if t ≤ one_if (is_fetched h c) + one_if (eqb b.0 c.0 && true)) (sym (fetched_push rows h (Take b worker) c)) (by (is_fetched h c) (eqb b.0 c.0))

  -- an end of a fetched bundle
  fetching_ends : (h : List Event) (e : Event) (b : BundleNo) → ((c : BundleNo) → is_end_of c e ≡ eqb b.0 c.0) → ((c : BundleNo) → is_take_of c e ≡ false) → is_fetched h b ≡ true → b.0 < length rows.bundles → fetching (h ++ e ∷ []) + 1 ≤ fetching h
  fetching_ends h e b ends takes fetched below =
      omega (arith, count_ge2 (is_fetched (h ++ e ∷ [])) (λ c. eqb b.0 c.0) (is_fetched h) at (bundles_of rows), count_in_range b (length rows.bundles) 0 (omega arith) (omega arith))
    where
      by : (f t : Bool) → (t ≡ true → f ≡ true) → one_if ((f && not t) || false) + one_if t ≤ one_if f
      by true true one = omega arith
      by true false one = omega arith
      by false true one = absurd (false≢true (one refl))
      by false false one = omega arith

      is : (c : BundleNo) → is_fetched (h ++ e ∷ []) c ≡ ((is_fetched h c && not (eqb b.0 c.0)) || false)
      is c = fetched_push rows h e c ∙ ap (λ t. (is_fetched h c && not t) || is_take_of c e) (ends c) ∙ ap (λ t. (is_fetched h c && not (eqb b.0 c.0)) || t) (takes c)

      at : (c : BundleNo) → one_if (is_fetched (h ++ e ∷ []) c) + one_if (eqb b.0 c.0) ≤ one_if (is_fetched h c)
      at c = subst (λ t. one_if t + one_if (eqb b.0 c.0) ≤ one_if (is_fetched h c)) (sym (is c)) (by (is_fetched h c) (eqb b.0 c.0) (λ same. subst (λ d. is_fetched h d ≡ true) (same_bundle b c same) fetched))

module _ (rows : Rows) (limit : ℕ) where
  pub references_same : (h : List Event) (e : Event) → KeepsReferences e → held_at h e ≡ 0 → references_in (h ++ e ∷ []) ≡ references_in h
  references_same h e calm none = omega (arith, references_calm h e calm, none)

  owed_load : (h : List Event) → Legal rows limit h → (op : OpId) (caller : ℕ) (ask : Ask) → IsAnswer rows limit h (Load op caller ask) → reserved rows (h ++ Load op caller ask ∷ []) + 1 ≤ reserved rows h + needed rows h ask
  unfolding needed
  owed_load h legal op caller ask answer =
      let e = Load op caller ask in
      omega (
        arith,
        reserved_is rows h,
        reserved_is rows (h ++ e ∷ []),
        references_load rows limit h legal op caller ask answer,
        waiting_load rows h op caller ask,
        fetching_falls rows h e (λ b. refl),
        owed_same h e refl,
      )

  owed_acquire : (h : List Event) → Legal rows limit h → (op : OpId) (caller : ℕ) → IsAnswer rows limit h (Acquire op caller) → reserved rows (h ++ Acquire op caller ∷ []) ≤ reserved rows h + 1
  owed_acquire h legal op caller answer =
      let e = Acquire op caller in
      let f = acquire_facts rows limit h op caller answer in
      omega (
        arith,
        reserved_is rows h,
        reserved_is rows (h ++ e ∷ []),
        references_acquire rows limit h legal op caller f.has,
        waiting_falls rows h e (λ b. refl),
        fetching_falls rows h e (λ b. refl),
        owed_same h e refl,
      )

  -- an event that isn't a Load or an Acquire was owed
  abbrev WasOwed : List Event → Event → Type 0
  WasOwed h e = reserved rows (h ++ e ∷ []) + 1 ≤ reserved rows h

  owed_release : (h : List Event) → Legal rows limit h → (op : OpId) (caller : ℕ) → IsAnswer rows limit h (Release op caller) → WasOwed h (Release op caller)
  owed_release h legal op caller answer =
      let e = Release op caller in
      omega (
        arith,
        reserved_is rows h,
        reserved_is rows (h ++ e ∷ []),
        references_release rows limit h legal op caller (release_facts rows limit h op caller answer),
        waiting_falls rows h e (λ b. refl),
        fetching_falls rows h e (λ b. refl),
        owed_same h e refl,
      )

  owed_take : Sound rows → (h : List Event) (b : BundleNo) (worker : ℕ) → IsAnswer rows limit h (Take b worker) → WasOwed h (Take b worker)
  owed_take sound h b worker answer =
      let e = Take b worker in
      let queued = take_facts rows limit h b worker answer in
      omega (
        arith,
        reserved_is rows h,
        reserved_is rows (h ++ e ∷ []),
        references_same h e (λ o. (refl, refl)) refl,
        waiting_take rows h b worker queued (queued_below rows sound h b queued),
        fetching_take rows h b worker,
        owed_same h e refl,
      )

  owed_end : Sound rows → (h : List Event) → Legal rows limit h → (e : Event) (b : BundleNo) (worker : ℕ) → is_fetched_by h b worker ≡ true → ((c : BundleNo) → is_end_of c e ≡ eqb b.0 c.0) → ((c : BundleNo) → is_take_of c e ≡ false) → ((c : BundleNo) → is_in c (needs_of_event rows e) ≡ false) → KeepsReferences e → held_at h e ≡ 0 → is_close e ≡ false → WasOwed h e
  owed_end sound h legal e b worker by ends takes asks calm none close =
      let fetched = fetched_by_some h b worker by in
      omega (
        arith,
        reserved_is rows h,
        reserved_is rows (h ++ e ∷ []),
        references_same h e calm none,
        waiting_falls rows h e asks,
        fetching_ends rows h e b ends takes fetched (fetched_below rows limit sound h legal b fetched),
        owed_same h e close,
      )

  owed_close : (h : List Event) → IsAnswer rows limit h Close → WasOwed h Close
  owed_close h answer =
      let opened_now = close_facts rows limit h answer in
      let before : owed h ≡ 1 = ap (λ t. let n : ℕ = if t then 0 else 1 in n) opened_now in
      let after : owed (h ++ Close ∷ []) ≡ 0 = ap (λ t. let n : ℕ = if t then 0 else 1 in n) (closed_push h Close ∙ ap (λ t. t || true) opened_now) in
      omega (
        arith,
        reserved_is rows h,
        reserved_is rows (h ++ Close ∷ []),
        references_same h Close (λ o. (refl, refl)) refl,
        waiting_falls rows h Close (λ b. refl),
        fetching_falls rows h Close (λ b. refl),
      )

  pub owed_event : Sound rows → (h : List Event) → Legal rows limit h → (e : Event) → IsAnswer rows limit h e → length h + reserved rows h ≤ limit → length (h ++ e ∷ []) + reserved rows (h ++ e ∷ []) ≤ limit
  owed_event sound h legal (Load op c k) answer le = let f = load_facts rows limit h op c k answer in omega (arith, length-append h (Load op c k ∷ []), owed_load h legal op c k answer, f.room)
  owed_event sound h legal (Acquire o c) answer le = let f = acquire_facts rows limit h o c answer in omega (arith, length-append h (Acquire o c ∷ []), owed_acquire h legal o c answer, f.room)
  owed_event sound h legal (Release o c) answer le = omega (arith, length-append h (Release o c ∷ []), owed_release h legal o c answer)
  owed_event sound h legal (Take o c) answer le = omega (arith, length-append h (Take o c ∷ []), owed_take sound h o c answer)
  owed_event sound h legal (Done o c) answer le = omega (arith, length-append h (Done o c ∷ []), owed_end sound h legal (Done o c) o c (done_facts rows limit h o c answer) (λ d. refl) (λ d. refl) (λ d. refl) (λ d. (refl, refl)) refl refl)
  owed_event sound h legal (Fail o c k) answer le = omega (arith, length-append h (Fail o c k ∷ []), owed_end sound h legal (Fail o c k) o c (fail_facts rows limit h o c k answer) (λ d. refl) (λ d. refl) (λ d. refl) (λ d. (refl, refl)) refl refl)
  owed_event sound h legal Close answer le = omega (arith, length-append h (Close ∷ []), owed_close h answer)

nothing_waits : (rows : Rows) (bs : List BundleNo) → (count_by (is_queued rows []) bs ≡ 0) × (count_by (is_fetched []) bs ≡ 0)
unfolding is_queued is_fetched
nothing_waits rows bs = (count_none bs, count_none bs)

reserved_first : (rows : Rows) → reserved rows [] ≡ 1
unfolding reserved references_in is_closed
reserved_first rows = let none = nothing_waits rows (bundles_of rows) in omega (arith, none.0, none.1)

-- a legal history never passes the limit
pub within_limit : (rows : Rows) (limit : ℕ) → Sound rows → 1 ≤ limit → (h : List Event) → Legal rows limit h → length h + reserved rows h ≤ limit
within_limit rows limit sound positive =
    by_events rows limit (λ h. length h + reserved rows h ≤ limit) (omega (arith, reserved_first rows)) (λ h e legal answer le. owed_event rows limit sound h legal e answer le)

-- What each event does to the count of a bundle, and to who is resident; which numbers operations have.
use Rattle.std.proofs.Common.{◌≡◌, inl, inr, ℕ, ◌+◌, ◌-◌, ◌≤◌, ◌<◌, Bool, true, false, ◌&&◌, ◌||◌, cond, eqb, ltb, List, [], ◌∷◌, ◌++◌, length, Option, refl, sym, ◌∙◌, ap, subst, add-zero, arith, find}
use Rattle.std.proofs.lemmas.Bool.{false≢true, and_parts, or_cases, or_left, eq-eqb, ltb-true, lt-ltb, cases_lt}
use Rattle.std.proofs.lemmas.List.Sums.{count_by-le-length}
use Rattle.std.specs.List.{list_any}
use Rattle.std.specs.Option.{option_map_or}
use Rattle.addr_base.specs.declared.cause.Cause.{Cause}
use Rattle.addr_base.specs.declared.ids.BundleNo.{BundleNo}
use Rattle.addr_base.specs.declared.ids.OpId.{OpId}
use Rattle.addr_locate.specs.Rows.{Rows}
use Rattle.addr_history.specs.declared.ask.Ask.{Ask}
use Rattle.addr_history.specs.declared.event.Event.{Event}
use Rattle.addr_history.specs.declared.event.Event.TheVariants.{Load, Acquire, Release, Take, Done, Fail, Close}
use Rattle.addr_history.specs.Events.{is_in, is_load, is_load_of, is_done_of, needs_of, needs_of_event}
use Rattle.addr_history.specs.Counts.{references_of, is_open_load, is_unreleased, loads_of, count_of, needs_of_op}
use Rattle.addr_history.specs.Places.{is_resident}
use Rattle.addr_history.specs.Legal.{IsAnswer, Legal}
use Rattle.addr_history.proofs.Points.{list_any_push}
use Rattle.addr_history.proofs.Steps.{counts_on, resident_push}
use Rattle.addr_history.proofs.Legality.{load_facts, by_events, loads_push, held, references_held, unreleased_is, unreleased_parts}
use Rattle.addr_history.proofs.Counting.{one_if, KeepsReferences, count_same, count_push, opened_load, opened_closed, closed_load, references_kept, references_taken, references_given, same_op}

-- an event that opens no operation, and after which the same ones are unreleased
abbrev pub IsCalm : List Event → Event → Type 0
IsCalm h e = (is_load e ≡ false) × ((op : OpId) → is_unreleased (h ++ e ∷ []) op ≡ is_unreleased h op)

pub no_load_of : (op : OpId) (e : Event) → is_load e ≡ false → is_load_of op e ≡ false
no_load_of op (Load o c k) other = absurd (false≢true (sym other))
no_load_of op (Acquire o c) other = refl
no_load_of op (Release o c) other = refl
no_load_of op (Take o w) other = refl
no_load_of op (Done o w) other = refl
no_load_of op (Fail o w k) other = refl
no_load_of op Close other = refl

-- so are a Take, a Done, a Fail and the Close; an Acquire; and a Release that leaves a reference
keeping_calm : (h : List Event) (e : Event) → is_load e ≡ false → KeepsReferences e → IsCalm h e
keeping_calm h e other keeps = (other, λ op. unreleased_is (h ++ e ∷ []) op ∙ ap (ltb 0) (references_kept h e op (no_load_of op e other) (keeps op).0 (keeps op).1) ∙ sym (unreleased_is h op))

pub take_calm : (h : List Event) (o : BundleNo) (w : ℕ) → IsCalm h (Take o w)
take_calm h o w = keeping_calm h (Take o w) refl (λ op. (refl, refl))

pub done_calm : (h : List Event) (o : BundleNo) (w : ℕ) → IsCalm h (Done o w)
done_calm h o w = keeping_calm h (Done o w) refl (λ op. (refl, refl))

pub fail_calm : (h : List Event) (o : BundleNo) (w : ℕ) (k : Cause) → IsCalm h (Fail o w k)
fail_calm h o w k = keeping_calm h (Fail o w k) refl (λ op. (refl, refl))

pub close_calm : (h : List Event) → IsCalm h Close
close_calm h = keeping_calm h Close refl (λ op. (refl, refl))

pub acquire_calm : (h : List Event) (o : OpId) (caller : ℕ) → is_unreleased h o ≡ true → IsCalm h (Acquire o caller)
acquire_calm h o caller has = (refl, λ op. unreleased_is (h ++ Acquire o caller ∷ []) op ∙ ap (ltb 0) (references_taken h o caller has op) ∙ by op (eqb op.0 o.0) refl ∙ sym (unreleased_is h op))
  where
    by : (op : OpId) (t : Bool) → eqb op.0 o.0 ≡ t → ltb 0 (references_of h op + one_if t) ≡ ltb 0 (references_of h op)
    by op true same = lt-ltb 0 (references_of h op + 1) (omega arith) ∙ sym (ap (λ (p : OpId). ltb 0 (references_of h p)) (same_op op o same) ∙ sym (unreleased_is h o) ∙ has)
    by op false other = ap (ltb 0) (add-zero (references_of h op))

pub left_calm : (h : List Event) (o : OpId) (caller : ℕ) → 1 < references_of h o → IsCalm h (Release o caller)
left_calm h o caller more = (refl, λ op. unreleased_is (h ++ Release o caller ∷ []) op ∙ ap (ltb 0) (references_given h o caller op) ∙ by op (eqb op.0 o.0) refl ∙ sym (unreleased_is h op))
  where
    by : (op : OpId) (t : Bool) → eqb op.0 o.0 ≡ t → ltb 0 (references_of h op - one_if t) ≡ ltb 0 (references_of h op)
    by op true same =
        let enough : 1 < references_of h op = subst (λ (p : OpId). 1 < references_of h p) (sym (same_op op o same)) more in
        lt-ltb 0 (references_of h op - 1) (omega (arith, enough)) ∙ sym (lt-ltb 0 (references_of h op) (omega (arith, enough)))
    by op false other = ap (ltb 0) (let same : references_of h op - 0 ≡ references_of h op = omega arith in same)

pub none_loaded : loads_of [] ≡ 0
unfolding loads_of
none_loaded = refl

-- the last reference of an operation
last_held : (h : List Event) (op : OpId) → is_unreleased h op ≡ true → references_of h op ≤ 1 → held h op ≡ 1
last_held h op is last =
    let parts = unreleased_parts h op is in
    let some : 0 < held h op = parts.1 in
    let same : references_of h op ≡ held h op = references_held h op parts.0 in
    omega (arith, some, same, last)

right : (s : Bool) {t : Bool} → t ≡ true → (s || t) ≡ true
right true is = refl
right false is = is

pub count_le : (rows : Rows) (h : List Event) (b : BundleNo) → count_of rows h b ≤ length h
unfolding count_of
count_le rows h b = count_by-le-length (λ e. is_open_load h e && is_in b (needs_of_event rows e)) h

-- a calm event leaves each count
pub count_calm : (rows : Rows) (h : List Event) (e : Event) (b : BundleNo) → IsCalm h e → count_of rows (h ++ e ∷ []) b ≡ count_of rows h b
unfolding count_of
count_calm rows h e b calm =
    let same = count_same (λ x. is_open_load (h ++ e ∷ []) x && is_in b (needs_of_event rows x)) (λ x. is_open_load h x && is_in b (needs_of_event rows x)) (λ x. ap (λ t. t && is_in b (needs_of_event rows x)) (at x)) (h ++ e ∷ []) in
    let more = count_push (λ x. is_open_load h x && is_in b (needs_of_event rows x)) h e in
    let none = opens_none e calm.0 in
    omega (arith, same, more, none)
  where
    at : (x : Event) → is_open_load (h ++ e ∷ []) x ≡ is_open_load h x
    at (Load o c k) = sym (unreleased_is (h ++ e ∷ []) o) ∙ calm.1 o ∙ unreleased_is h o
    at (Acquire o c) = refl
    at (Release o c) = refl
    at (Take o w) = refl
    at (Done o w) = refl
    at (Fail o w k) = refl
    at Close = refl

    opens_none : (x : Event) → is_load x ≡ false → one_if (is_open_load h x && is_in b (needs_of_event rows x)) ≡ 0
    opens_none (Load op c k) other = absurd (false≢true (sym other))
    opens_none (Acquire op c) other = refl
    opens_none (Release op c) other = refl
    opens_none (Take o w) other = refl
    opens_none (Done o w) other = refl
    opens_none (Fail o w k) other = refl
    opens_none Close other = refl

module _ (rows : Rows) (limit : ℕ) where
  -- one more for each bundle that a Load needs, one less for each that an operation needs that gives its last reference back
  pub count_load : (h : List Event) → Legal rows limit h → (op : OpId) (caller : ℕ) (ask : Ask) → IsAnswer rows limit h (Load op caller ask) → (b : BundleNo) → count_of rows (h ++ Load op caller ask ∷ []) b ≡ count_of rows h b + one_if (is_in b (needs_of rows ask))
  unfolding count_of
  count_load h legal op caller ask answer b = opened_load rows limit (λ x. is_in b (needs_of_event rows x)) h legal op caller ask answer

  pub count_release : (h : List Event) → Legal rows limit h → (op : OpId) (caller : ℕ) → is_unreleased h op ≡ true → references_of h op ≤ 1 → (b : BundleNo) → count_of rows (h ++ Release op caller ∷ []) b + one_if (is_in b (needs_of_op rows h op)) ≡ count_of rows h b
  unfolding count_of needs_of_op
  count_release h legal op caller is last b =
      let closed = closed_load rows limit h op is in
      let needs : one_if (is_in b (option_map_or (needs_of_event rows) (find (is_load_of op) h) [])) ≡ one_if (is_in b (needs_of_event rows closed.0)) = ap (λ (o : Option Event). one_if (is_in b (option_map_or (needs_of_event rows) o []))) closed.1.0 in
      omega (arith, needs, opened_closed rows limit (λ x. is_in b (needs_of_event rows x)) h legal op caller (last_held h op is last) closed.0 closed.1.0)

  -- an operation's number is below that of the next exactly where it was loaded
  pub below_loaded : (h : List Event) → Legal rows limit h → (op : OpId) → op.0 < loads_of h → list_any (is_load_of op) h ≡ true
  below_loaded = by_events rows limit (λ h. (op : OpId) → op.0 < loads_of h → list_any (is_load_of op) h ≡ true) first step
    where
      first : (op : OpId) → op.0 < loads_of [] → list_any (is_load_of op) [] ≡ true
      first op lt = absurd (omega (arith, none_loaded))

      here : (h : List Event) (e : Event) → IsAnswer rows limit h e → (op : OpId) → op.0 < loads_of h + cond (is_load e) 1 0 → loads_of h ≤ op.0 → is_load_of op e ≡ true
      here h (Load o c k) answer op lt le = let f = load_facts rows limit h o c k answer in eq-eqb o.0 op.0 (omega (arith, f.number))
      here h (Acquire o c) answer op lt le = absurd (omega arith)
      here h (Release o c) answer op lt le = absurd (omega arith)
      here h (Take o c) answer op lt le = absurd (omega arith)
      here h (Done o c) answer op lt le = absurd (omega arith)
      here h (Fail o c k) answer op lt le = absurd (omega arith)
      here h Close answer op lt le = absurd (omega arith)

      step : (h : List Event) (e : Event) → Legal rows limit h → IsAnswer rows limit h e → ((op : OpId) → op.0 < loads_of h → list_any (is_load_of op) h ≡ true) → (op : OpId) → op.0 < loads_of (h ++ e ∷ []) → list_any (is_load_of op) (h ++ e ∷ []) ≡ true
      step h e legal answer before op lt = list_any_push (is_load_of op) h e ∙ elim (cases_lt op.0 (loads_of h)) [
        | inl less ↦ or_left (list_any (is_load_of op) h) (is_load_of op e) (before op less)
        | inr le ↦ right (list_any (is_load_of op) h) (here h e answer op (omega (arith, loads_push h e)) le)
      ]

  pub none_resident : (b : BundleNo) → is_resident rows [] b ≡ false
  unfolding is_resident
  none_resident b = refl

  -- a resident bundle is counted
  pub resident_counted : (h : List Event) → Legal rows limit h → (b : BundleNo) → is_resident rows h b ≡ true → ltb 0 (count_of rows h b) ≡ true
  resident_counted = by_events rows limit (λ h. (b : BundleNo) → is_resident rows h b ≡ true → ltb 0 (count_of rows h b) ≡ true) (λ b is. absurd (false≢true (sym (none_resident b) ∙ is))) (λ h e legal answer before b is. (and_parts (is_resident rows h b || is_done_of b e) (counts_on rows h e b) (sym (resident_push rows h e b) ∙ is)).1)

  -- who is resident stays so, where the count doesn't fall
  pub stays_resident : (h : List Event) (e : Event) → Legal rows limit h → ((b : BundleNo) → count_of rows h b ≤ count_of rows (h ++ e ∷ []) b) → (b : BundleNo) → is_resident rows h b ≡ true → is_resident rows (h ++ e ∷ []) b ≡ true
  stays_resident h e legal rises b is =
      resident_push rows h e b
      ∙ ap (λ t. (t || is_done_of b e) && counts_on rows h e b) is
      ∙ lt-ltb 0 (count_of rows (h ++ e ∷ []) b) (omega (arith, rises b, ltb-true 0 (count_of rows h b) (resident_counted h legal b is)))

  -- who is resident was so, but where a Done brought it
  pub was_resident : (h : List Event) (e : Event) (b : BundleNo) → is_done_of b e ≡ false → is_resident rows (h ++ e ∷ []) b ≡ true → is_resident rows h b ≡ true
  was_resident h e b other is = elim (or_cases (is_resident rows h b) (is_done_of b e) (and_parts (is_resident rows h b || is_done_of b e) (counts_on rows h e b) (sym (resident_push rows h e b) ∙ is)).0) [
    | inl old ↦ old
    | inr new ↦ absurd (false≢true (sym other ∙ new))
  ]

  -- a Load leaves the same bundles resident
  pub load_stays : (h : List Event) → Legal rows limit h → (op : OpId) (caller : ℕ) (ask : Ask) → IsAnswer rows limit h (Load op caller ask) → (b : BundleNo) → is_resident rows h b ≡ true → is_resident rows (h ++ Load op caller ask ∷ []) b ≡ true
  load_stays h legal op caller ask answer = stays_resident h (Load op caller ask) legal (λ b. omega (arith, count_load h legal op caller ask answer b))

  pub same_resident : (h : List Event) → Legal rows limit h → (op : OpId) (caller : ℕ) (ask : Ask) → IsAnswer rows limit h (Load op caller ask) → (b : BundleNo) → is_resident rows (h ++ Load op caller ask ∷ []) b ≡ is_resident rows h b
  same_resident h legal op caller ask answer b = both (is_resident rows (h ++ Load op caller ask ∷ []) b) (is_resident rows h b) (was_resident h (Load op caller ask) b refl) (load_stays h legal op caller ask answer b)
    where
      both : (s t : Bool) → (s ≡ true → t ≡ true) → (t ≡ true → s ≡ true) → s ≡ t
      both true true to back = refl
      both true false to back = sym (to refl)
      both false true to back = back refl
      both false false to back = refl

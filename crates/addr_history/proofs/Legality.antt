-- Legal histories, event by event; the numbers of their operations.
use Rattle.std.proofs.Common.{◌⊎◌, inl, inr, ◌≡◌, ℕ, ◌+◌, ◌-◌, ◌≤◌, ◌<◌, Bool, true, false, ◌||◌, not, cond, ltb, List, [], ◌∷◌, ◌++◌, length, Ok, Err, if◌then◌else◌, refl, sym, ◌∙◌, ap, subst, append_assoc, arith, add-zero, eqb}
use Rattle.std.proofs.lemmas.Bool.{cases_lt, false≢true, ltb-false, ltb-true, ne_eqb}
use Rattle.std.proofs.lemmas.List.{append-nil}
use Rattle.std.proofs.lemmas.List.Sums.{sum_by_push}
use Rattle.std.specs.List.{list_any}
use Rattle.addr_base.specs.declared.ids.BundleNo.{BundleNo}
use Rattle.addr_base.specs.declared.ids.OpId.{OpId}
use Rattle.addr_locate.specs.Merge.{merged}
use Rattle.addr_locate.specs.Rows.{Rows}
use Rattle.addr_history.specs.declared.ask.Ask.{Ask}
use Rattle.addr_history.specs.declared.error.AcquireErr.{AcquireErr}
use Rattle.addr_history.specs.declared.error.AcquireErr.TheVariants as acquires
use Rattle.addr_history.specs.declared.error.LoadErr.{LoadErr}
use Rattle.addr_history.specs.declared.error.LoadErr.TheVariants.{Closed, NoLocation, JournalFull}
use Rattle.addr_history.specs.declared.event.Event.{Event}
use Rattle.addr_history.specs.declared.event.Event.TheVariants.{Load, Acquire, Release, Take, Done, Fail, Close}
use Rattle.addr_history.specs.Events.{is_load, is_load_of, is_acquire_of, is_release_of}
use Rattle.addr_history.specs.Counts.{is_closed, acquires_of, releases_of, references_of, is_unreleased, loads_of}
use Rattle.addr_history.specs.Places.{is_fetched_by}
use Rattle.addr_history.specs.Answers.{reserved, needed, first_missing, has_no_row, load_reply, load_adds, acquire_reply, acquire_adds, release_adds, done_adds, fail_adds, close_adds}
use Rattle.addr_history.specs.Legal.{IsAnswer, Legal}
use Rattle.addr_history.proofs.Points.{list_any_push}

-- what an accepted load says
pub record Loaded (rows : Rows) (limit : ℕ) (h : List Event) (op : OpId) (ask : Ask) : Type 0 where
  pub opened : is_closed h ≡ false
  pub room : length h + reserved rows h + needed rows h ask ≤ limit
  pub number : op.0 ≡ loads_of h

nothing_added : (e : Event) → [] ≡ e ∷ [] → ⊥
nothing_added e is = cc

same_op : (a b : OpId) (c d : ℕ) (k l : Ask) → Load a c k ∷ [] ≡ Load b d l ∷ [] → a ≡ b
same_op a b c d k l is = cc

pub load_facts : (rows : Rows) (limit : ℕ) (h : List Event) (op : OpId) (caller : ℕ) (ask : Ask) → IsAnswer rows limit h (Load op caller ask) → Loaded rows limit h op ask
unfolding load_reply
load_facts rows limit h op caller ask answer = by_closed (is_closed h) refl answer
  where
    full : LoadErr
    full = JournalFull (length h) (reserved rows h) (needed rows h ask)

    total : ℕ
    total = length h + reserved rows h + needed rows h ask

    by_room : (t : Bool) → ltb limit total ≡ t → is_closed h ≡ false → load_adds (if t then Err full else Ok (record { 0 = loads_of h })) caller ask ≡ Load op caller ask ∷ [] → Loaded rows limit h op ask
    by_room true is opened given = absurd (nothing_added _ given)
    by_room false is opened given = record { opened = opened; room = ltb-false limit total is; number = sym (ap (λ (o : OpId). o.0) (same_op (record { 0 = loads_of h }) op caller caller ask ask given)) }

    by_none : (t : Bool) → is_closed h ≡ false → load_adds (if t then Err (NoLocation (first_missing rows ask)) else if ltb limit total then Err full else Ok (record { 0 = loads_of h })) caller ask ≡ Load op caller ask ∷ [] → Loaded rows limit h op ask
    by_none true opened given = absurd (nothing_added _ given)
    by_none false opened given = by_room (ltb limit total) refl opened given

    by_closed : (t : Bool) → is_closed h ≡ t → load_adds (if t then Err Closed else if has_no_row (merged rows.assets ask.keys ask.mode ask.kind) then Err (NoLocation (first_missing rows ask)) else if ltb limit total then Err full else Ok (record { 0 = loads_of h })) caller ask ≡ Load op caller ask ∷ [] → Loaded rows limit h op ask
    by_closed true is given = absurd (nothing_added _ given)
    by_closed false is given = by_none (has_no_row (merged rows.assets ask.keys ask.mode ask.kind)) is given

-- what an accepted Acquire says
pub record Acquired (rows : Rows) (limit : ℕ) (h : List Event) (op : OpId) : Type 0 where
  pub has : is_unreleased h op ≡ true
  pub room : length h + reserved rows h + 2 ≤ limit

pub acquire_facts : (rows : Rows) (limit : ℕ) (h : List Event) (op : OpId) (caller : ℕ) → IsAnswer rows limit h (Acquire op caller) → Acquired rows limit h op
unfolding acquire_reply
acquire_facts rows limit h op caller answer = by_has (is_unreleased h op) refl answer
  where
    full : AcquireErr
    full = acquires.JournalFull (length h) (reserved rows h) 2

    total : ℕ
    total = length h + reserved rows h + 2

    by_room : (t : Bool) → ltb limit total ≡ t → is_unreleased h op ≡ true → acquire_adds (if t then Err full else Ok tt) caller op ≡ Acquire op caller ∷ [] → Acquired rows limit h op
    by_room true is has given = absurd (nothing_added _ given)
    by_room false is has given = record { has = has; room = ltb-false limit total is }

    by_has : (t : Bool) → is_unreleased h op ≡ t → acquire_adds (if not t then Err acquires.NoHandle else if ltb limit total then Err full else Ok tt) caller op ≡ Acquire op caller ∷ [] → Acquired rows limit h op
    by_has true is given = by_room (ltb limit total) refl is given
    by_has false is given = absurd (nothing_added _ given)

-- an event that is added on a test alone
passed : (t : Bool) (e : Event) → (if t then e ∷ [] else []) ≡ e ∷ [] → t ≡ true
passed true e is = refl
passed false e is = absurd (nothing_added e is)

failed : (t : Bool) (e : Event) → (if t then [] else e ∷ []) ≡ e ∷ [] → t ≡ false
failed true e is = absurd (nothing_added e is)
failed false e is = refl

module _ (rows : Rows) (limit : ℕ) where
  pub release_facts : (h : List Event) (op : OpId) (caller : ℕ) → IsAnswer rows limit h (Release op caller) → is_unreleased h op ≡ true
  unfolding release_adds
  release_facts h op caller answer = passed (is_unreleased h op) (Release op caller) answer

  pub done_facts : (h : List Event) (b : BundleNo) (worker : ℕ) → IsAnswer rows limit h (Done b worker) → is_fetched_by h b worker ≡ true
  unfolding done_adds
  done_facts h b worker answer = passed (is_fetched_by h b worker) (Done b worker) answer

  pub fail_facts : (h : List Event) (b : BundleNo) (worker : ℕ) (cause : _) → IsAnswer rows limit h (Fail b worker cause) → is_fetched_by h b worker ≡ true
  unfolding fail_adds
  fail_facts h b worker cause answer = passed (is_fetched_by h b worker) (Fail b worker cause) answer

  pub close_facts : (h : List Event) → IsAnswer rows limit h Close → is_closed h ≡ false
  unfolding close_adds
  close_facts h answer = failed (is_closed h) Close answer

  pub prefix : (before after : List Event) → Legal rows limit (before ++ after) → Legal rows limit before
  prefix before after legal = record { answers = λ p e a is. legal.answers p e (a ++ after) (ap (λ (l : List Event). l ++ after) is ∙ append_assoc p (e ∷ a) after) }

  pub empty : Legal rows limit []
  empty = record { answers = λ p e a is. absurd (no_event p e a is) }
    where
      no_event : (p : List Event) (e : Event) (a : List Event) → [] ≡ p ++ e ∷ a → ⊥
      no_event [] e a is = cc
      no_event (x ∷ p) e a is = cc

  -- what holds of the empty history, and goes on with each answer, holds of each legal one
  pub by_events : (P : List Event → Type 0) → P [] → ((h : List Event) (e : Event) → Legal rows limit h → IsAnswer rows limit h e → P h → P (h ++ e ∷ [])) → (h : List Event) → Legal rows limit h → P h
  by_events P base step h legal = go [] h base legal
    where
      go : (before after : List Event) → P before → Legal rows limit (before ++ after) → P (before ++ after)
      go before [] so_far legal = subst P (sym (append-nil before)) so_far
      go before (e ∷ after) so_far legal =
          let here : (before ++ e ∷ []) ++ after ≡ before ++ e ∷ after = append_assoc before (e ∷ []) after in
          subst P here (go (before ++ e ∷ []) after (step before e (prefix before (e ∷ after) legal) (legal.answers before e after refl) so_far) (subst (Legal rows limit) (sym here) legal))

  -- one answer more
  pub extend : (h : List Event) (e : Event) → Legal rows limit h → IsAnswer rows limit h e → Legal rows limit (h ++ e ∷ [])
  extend h e legal answer = record { answers = λ p x a is. at p x a is }
    where
      split : (h p : List Event) (x : Event) (a : List Event) → h ++ e ∷ [] ≡ p ++ x ∷ a → ((g : List Event) × (h ≡ p ++ x ∷ g)) ⊎ ((p ≡ h) × (x ≡ e))
      split [] [] x a is = inr (refl, cc)
      split [] (y ∷ []) x a is = cc
      split [] (y ∷ z ∷ p) x a is = cc
      split (y ∷ h) [] x a is = inl (h, cc)
      split (y ∷ h) (z ∷ p) x a is =
          let tail : h ++ e ∷ [] ≡ p ++ x ∷ a = cc in
          let head : y ≡ z = cc in
          elim (split h p x a tail) [
            | inl (g, same) ↦ inl (g, ap (λ (l : List Event). y ∷ l) same ∙ ap (λ v. v ∷ p ++ x ∷ g) head)
            | inr (same, here) ↦ inr (ap (λ (l : List Event). z ∷ l) same ∙ ap (λ v. v ∷ h) (sym head), here)
          ]

      at : (p : List Event) (x : Event) (a : List Event) → h ++ e ∷ [] ≡ p ++ x ∷ a → IsAnswer rows limit p x
      at p x a is = elim (split h p x a is) [
        | inl (g, same) ↦ legal.answers p x g same
        | inr (same, here) ↦ subst (λ y. IsAnswer rows limit p y) (sym here) (subst (λ (l : List Event). IsAnswer rows limit l e) (sym same) answer)
      ]

pub loads_push : (h : List Event) (e : Event) → loads_of (h ++ e ∷ []) ≡ loads_of h + cond (is_load e) 1 0
unfolding loads_of
loads_push h e = sum_by_push (λ x. cond (is_load x) 1 0) h e

none_changed : (op : OpId) → (acquires_of [] op ≡ 0) × (releases_of [] op ≡ 0)
unfolding acquires_of releases_of
none_changed op = (refl, refl)

pub acquires_push : (h : List Event) (e : Event) (op : OpId) → acquires_of (h ++ e ∷ []) op ≡ acquires_of h op + cond (is_acquire_of op e) 1 0
unfolding acquires_of
acquires_push h e op = sum_by_push (λ x. cond (is_acquire_of op x) 1 0) h e

pub releases_push : (h : List Event) (e : Event) (op : OpId) → releases_of (h ++ e ∷ []) op ≡ releases_of h op + cond (is_release_of op e) 1 0
unfolding releases_of
releases_push h e op = sum_by_push (λ x. cond (is_release_of op x) 1 0) h e

-- the references of an operation whose Load is there
abbrev pub held : List Event → OpId → ℕ
held h op = 1 + acquires_of h op - releases_of h op

pub references_held : (h : List Event) (op : OpId) → list_any (is_load_of op) h ≡ true → references_of h op ≡ held h op
unfolding references_of
references_held h op has = ap (λ t. let n : ℕ = if t then held h op else 0 in n) has

-- an unreleased operation's Load is there, and it has references
pub unreleased_parts : (h : List Event) (op : OpId) → is_unreleased h op ≡ true → (list_any (is_load_of op) h ≡ true) × (0 < held h op)
unfolding is_unreleased references_of
unreleased_parts h op is = by (list_any (is_load_of op) h) is
  where
    by : (t : Bool) → ltb 0 (if t then held h op else 0) ≡ true → (t ≡ true) × (0 < held h op)
    by true given = (refl, ltb-true 0 (held h op) given)
    by false given = absurd (false≢true given)

pub unreleased_is : (h : List Event) (op : OpId) → is_unreleased h op ≡ ltb 0 (references_of h op)
unfolding is_unreleased
unreleased_is h op = refl

module _ (rows : Rows) (limit : ℕ) where
  -- a history has no Load of an operation that is still to come
  pub no_load_past : (h : List Event) → Legal rows limit h → (op : OpId) → loads_of h ≤ op.0 → list_any (is_load_of op) h ≡ false
  no_load_past = by_events rows limit (λ h. (op : OpId) → loads_of h ≤ op.0 → list_any (is_load_of op) h ≡ false) (λ op le. refl) step
    where
      here : (h : List Event) (e : Event) → IsAnswer rows limit h e → (op : OpId) → loads_of h + cond (is_load e) 1 0 ≤ op.0 → is_load_of op e ≡ false
      here h (Load o c k) answer op le = let f = load_facts rows limit h o c k answer in ne_eqb o.0 op.0 (λ same. omega (arith, f.number, same))
      here h (Acquire o c) answer op le = refl
      here h (Release o c) answer op le = refl
      here h (Take o c) answer op le = refl
      here h (Done o c) answer op le = refl
      here h (Fail o c k) answer op le = refl
      here h Close answer op le = refl

      step : (h : List Event) (e : Event) → Legal rows limit h → IsAnswer rows limit h e → ((op : OpId) → loads_of h ≤ op.0 → list_any (is_load_of op) h ≡ false) → (op : OpId) → loads_of (h ++ e ∷ []) ≤ op.0 → list_any (is_load_of op) (h ++ e ∷ []) ≡ false
      step h e legal answer before op le =
          let grown : loads_of h + cond (is_load e) 1 0 ≤ op.0 = omega (arith, loads_push h e) in
          list_any_push (is_load_of op) h e
          ∙ ap (λ t. t || is_load_of op e) (before op (omega (arith, loads_push h e)))
          ∙ here h e answer op grown

  pub load_below : (h : List Event) → Legal rows limit h → (op : OpId) → list_any (is_load_of op) h ≡ true → op.0 < loads_of h
  load_below h legal op has = elim (cases_le (loads_of h) op.0) [
    | inl le ↦ absurd (false≢true (sym (no_load_past h legal op le) ∙ has))
    | inr lt ↦ lt
  ]
    where
      cases_le : (m n : ℕ) → (m ≤ n) ⊎ (n < m)
      cases_le m n = elim (cases_lt n m) [ inl lt ↦ inr lt | inr le ↦ inl le ]

  -- nor an Acquire or a Release of one
  abbrev Unchanged : List Event → Type 0
  Unchanged h = (op : OpId) → loads_of h ≤ op.0 → (acquires_of h op ≡ 0) × (releases_of h op ≡ 0)

  pub no_change_past : (h : List Event) → Legal rows limit h → Unchanged h
  no_change_past = by_events rows limit Unchanged (λ op le. none_changed op) step
    where
      apart : (h : List Event) → Legal rows limit h → (o op : OpId) → is_unreleased h o ≡ true → loads_of h ≤ op.0 → eqb o.0 op.0 ≡ false
      apart h legal o op has le =
          let below : o.0 < loads_of h = load_below h legal o (unreleased_parts h o has).0 in
          ne_eqb o.0 op.0 (λ same. omega arith)

      here : (h : List Event) (e : Event) → Legal rows limit h → IsAnswer rows limit h e → (op : OpId) → loads_of h ≤ op.0 → (is_acquire_of op e ≡ false) × (is_release_of op e ≡ false)
      here h (Load o c k) legal answer op le = (refl, refl)
      here h (Acquire o c) legal answer op le = let f = acquire_facts rows limit h o c answer in (apart h legal o op f.has le, refl)
      here h (Release o c) legal answer op le = (refl, apart h legal o op (release_facts rows limit h o c answer) le)
      here h (Take o c) legal answer op le = (refl, refl)
      here h (Done o c) legal answer op le = (refl, refl)
      here h (Fail o c k) legal answer op le = (refl, refl)
      here h Close legal answer op le = (refl, refl)

      step : (h : List Event) (e : Event) → Legal rows limit h → IsAnswer rows limit h e → Unchanged h → Unchanged (h ++ e ∷ [])
      step h e legal answer before op le =
          let less : loads_of h ≤ op.0 = omega (arith, loads_push h e) in
          let none = before op less in
          let neither = here h e legal answer op less in
          (acquires_push h e op ∙ ap (λ t. acquires_of h op + cond t 1 0) neither.0 ∙ add-zero (acquires_of h op) ∙ none.0, releases_push h e op ∙ ap (λ t. releases_of h op + cond t 1 0) neither.1 ∙ add-zero (releases_of h op) ∙ none.1)

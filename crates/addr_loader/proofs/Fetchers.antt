-- In a legal history a bundle is fetched by one worker at most, until that worker ends it.
use Rattle.std.proofs.Common.{◌≡◌, ◌⊎◌, inl, inr, ℕ, Bool, true, false, ◌&&◌, ◌||◌, not, cond, eqb, List, [], ◌∷◌, ◌++◌, filter, Option, Some, None, refl, sym, ◌∙◌, ap, subst, append_assoc, eq-eqb}
use Rattle.std.proofs.lemmas.Bool.{false≢true, and_parts, or_cases, or_left, eqb-true, not-true}
use Rattle.std.proofs.lemmas.List.{append-nil}
use Rattle.addr_base.specs.declared.cause.Cause.{Cause}
use Rattle.addr_base.specs.declared.ids.BundleNo.{BundleNo}
use Rattle.addr_locate.specs.Rows.{Rows}
use Rattle.addr_history.specs.declared.event.Event.{Event}
use Rattle.addr_history.specs.declared.event.Event.TheVariants.{Load, Acquire, Release, Take, Done, Fail, Close}
use Rattle.addr_history.specs.Events.{is_in, is_take_of, is_take_by, is_end_of, needs_of_event}
use Rattle.addr_history.specs.Places.{is_resident, is_fetched, is_fetched_by, is_queued}
use Rattle.addr_history.specs.Legal.{IsAnswer, Legal}
use Rattle.addr_history.proofs.Steps.{fetched_push, fetched_by_push, queued_push, counts_on, begins}
use Rattle.addr_history.proofs.Legality.{by_events, prefix, done_facts, fail_facts}
use Rattle.addr_history.proofs.Ranges.{take_facts, fetched_by_some, same_bundle}
use Rattle.addr_history.specs.Events.{number_of}
use Rattle.addr_turn.specs.OneHistory.{own, is_number}

no_rows : Rows
no_rows = record { bundles = []; assets = []; keys = []; kinds = [] }

fetched_nothing : (b : BundleNo) → is_fetched [] b ≡ false
unfolding is_fetched
fetched_nothing b = refl

by_nobody : (b : BundleNo) (w : ℕ) → is_fetched_by [] b w ≡ false
unfolding is_fetched_by
by_nobody b w = refl

module _ (rows : Rows) (limit : ℕ) where
  -- a bundle that is queued isn't being fetched
  abbrev Apart : List Event → Type 0
  Apart h = (b : BundleNo) → is_queued rows h b ≡ true → is_fetched h b ≡ true → ⊥

  asked_not_taken : (e : Event) (b : BundleNo) → is_in b (needs_of_event rows e) ≡ true → is_take_of b e ≡ true → ⊥
  asked_not_taken (Load op c k) b asked taken = false≢true taken
  asked_not_taken (Acquire op c) b asked taken = false≢true taken
  asked_not_taken (Release op c) b asked taken = false≢true taken
  asked_not_taken (Take o w) b asked taken = false≢true asked
  asked_not_taken (Done o w) b asked taken = false≢true taken
  asked_not_taken (Fail o w c) b asked taken = false≢true taken
  asked_not_taken Close b asked taken = false≢true taken

  not_both : (x : Bool) → not x ≡ true → x ≡ true → ⊥
  not_both true a b = false≢true a
  not_both false a b = false≢true b

  pub queued_apart : (h : List Event) → Legal rows limit h → Apart h
  queued_apart = by_events rows limit Apart (λ b q f. false≢true (sym (fetched_nothing b) ∙ f)) step
    where
      step : (h : List Event) (e : Event) → Legal rows limit h → IsAnswer rows limit h e → Apart h → Apart (h ++ e ∷ [])
      step h e legal answer before b q f =
          let waits = (and_parts ((is_queued rows h b && not (is_take_of b e)) || begins rows h e b) (counts_on rows h e b) (sym (queued_push rows h e b) ∙ q)).0 in
          elim (or_cases (is_fetched h b && not (is_end_of b e)) (is_take_of b e) (sym (fetched_push rows h e b) ∙ f)) [
            | inl old ↦ elim (or_cases (is_queued rows h b && not (is_take_of b e)) (begins rows h e b) waits) [
              | inl was ↦ before b (and_parts (is_queued rows h b) (not (is_take_of b e)) was).0 (and_parts (is_fetched h b) (not (is_end_of b e)) old).0
              | inr new ↦ not_both (is_fetched h b) (and_parts (is_in b (needs_of_event rows e) && not (is_resident rows h b)) (not (is_fetched h b)) new).1 (and_parts (is_fetched h b) (not (is_end_of b e)) old).0
            ]
            | inr taken ↦ elim (or_cases (is_queued rows h b && not (is_take_of b e)) (begins rows h e b) waits) [
              | inl was ↦ not_both (is_take_of b e) (and_parts (is_queued rows h b) (not (is_take_of b e)) was).1 taken
              | inr new ↦ asked_not_taken e b (and_parts (is_in b (needs_of_event rows e)) (not (is_resident rows h b)) (and_parts (is_in b (needs_of_event rows e) && not (is_resident rows h b)) (not (is_fetched h b)) new).0).0 taken
            ]
          ]

  -- one worker at most fetches a bundle
  abbrev Alone : List Event → Type 0
  Alone h = (b : BundleNo) (x y : ℕ) → is_fetched_by h b x ≡ true → is_fetched_by h b y ≡ true → x ≡ y

  taken_queued : (h : List Event) (e : Event) (b : BundleNo) (w : ℕ) → IsAnswer rows limit h e → is_take_by b w e ≡ true → is_queued rows h b ≡ true
  taken_queued h (Take o x) b w answer is = let same = same_bundle o b (and_parts (eqb o.0 b.0) (eqb x w) is).0 in subst (λ (z : BundleNo). is_queued rows h z ≡ true) same (take_facts rows limit h o x answer)
  taken_queued h (Load op c k) b w answer is = absurd (false≢true is)
  taken_queued h (Acquire op c) b w answer is = absurd (false≢true is)
  taken_queued h (Release op c) b w answer is = absurd (false≢true is)
  taken_queued h (Done o x) b w answer is = absurd (false≢true is)
  taken_queued h (Fail o x c) b w answer is = absurd (false≢true is)
  taken_queued h Close b w answer is = absurd (false≢true is)

  both_took : (e : Event) (b : BundleNo) (x y : ℕ) → is_take_by b x e ≡ true → is_take_by b y e ≡ true → x ≡ y
  both_took (Take o w) b x y p q = sym (eqb-true w x (and_parts (eqb o.0 b.0) (eqb w x) p).1) ∙ eqb-true w y (and_parts (eqb o.0 b.0) (eqb w y) q).1
  both_took (Load op c k) b x y p q = absurd (false≢true p)
  both_took (Acquire op c) b x y p q = absurd (false≢true p)
  both_took (Release op c) b x y p q = absurd (false≢true p)
  both_took (Done o w) b x y p q = absurd (false≢true p)
  both_took (Fail o w c) b x y p q = absurd (false≢true p)
  both_took Close b x y p q = absurd (false≢true p)

  pub alone : (h : List Event) → Legal rows limit h → Alone h
  alone = by_events rows limit Alone (λ b x y p q. absurd (false≢true (sym (by_nobody b x) ∙ p))) step
    where
      old_of : (h : List Event) (e : Event) (b : BundleNo) (x : ℕ) → (is_fetched_by h b x && not (is_end_of b e)) ≡ true → is_fetched_by h b x ≡ true
      old_of h e b x p = (and_parts (is_fetched_by h b x) (not (is_end_of b e)) p).0

      mixed : (h : List Event) (e : Event) (b : BundleNo) (x y : ℕ) → Legal rows limit h → IsAnswer rows limit h e → is_fetched_by h b x ≡ true → is_take_by b y e ≡ true → ⊥
      mixed h e b x y legal answer old new = queued_apart h legal b (taken_queued h e b y answer new) (fetched_by_some h b x old)

      step : (h : List Event) (e : Event) → Legal rows limit h → IsAnswer rows limit h e → Alone h → Alone (h ++ e ∷ [])
      step h e legal answer before b x y p q = elim (or_cases (is_fetched_by h b x && not (is_end_of b e)) (is_take_by b x e) (sym (fetched_by_push rows h e b x) ∙ p)) [
        | inl old ↦ elim (or_cases (is_fetched_by h b y && not (is_end_of b e)) (is_take_by b y e) (sym (fetched_by_push rows h e b y) ∙ q)) [
          | inl also ↦ before b x y (old_of h e b x old) (old_of h e b y also)
          | inr new ↦ absurd (mixed h e b x y legal answer (old_of h e b x old) new)
        ]
        | inr new ↦ elim (or_cases (is_fetched_by h b y && not (is_end_of b e)) (is_take_by b y e) (sym (fetched_by_push rows h e b y) ∙ q)) [
          | inl old ↦ absurd (mixed h e b y x legal answer (old_of h e b y old) new)
          | inr also ↦ both_took e b x y new also
        ]
      ]

  -- who isn't the event's worker doesn't end what another fetches
  ends_own : (h : List Event) (e : Event) (b : BundleNo) (n : ℕ) → Legal rows limit h → IsAnswer rows limit h e → is_fetched_by h b n ≡ true → is_number (number_of e) n ≡ false → is_end_of b e ≡ false
  ends_own h (Load op c k) b n legal answer is other = refl
  ends_own h (Acquire op c) b n legal answer is other = refl
  ends_own h (Release op c) b n legal answer is other = refl
  ends_own h (Take o w) b n legal answer is other = refl
  ends_own h Close b n legal answer is other = refl
  ends_own h (Done o w) b n legal answer is other = at (eqb o.0 b.0) refl
    where
      at : (t : Bool) → eqb o.0 b.0 ≡ t → eqb o.0 b.0 ≡ false
      at false same = same
      at true same = let by : is_fetched_by h b w ≡ true = subst (λ (z : BundleNo). is_fetched_by h z w ≡ true) (same_bundle o b same) (done_facts rows limit h o w answer) in
          absurd (false≢true (sym other ∙ eq-eqb w n (alone h legal b w n by is)))
  ends_own h (Fail o w c) b n legal answer is other = at (eqb o.0 b.0) refl
    where
      at : (t : Bool) → eqb o.0 b.0 ≡ t → eqb o.0 b.0 ≡ false
      at false same = same
      at true same = let by : is_fetched_by h b w ≡ true = subst (λ (z : BundleNo). is_fetched_by h z w ≡ true) (same_bundle o b same) (fail_facts rows limit h o w c answer) in
          absurd (false≢true (sym other ∙ eq-eqb w n (alone h legal b w n by is)))

  own_parts : (n : ℕ) (e : Event) (zs : List Event) → own number_of n (e ∷ zs) ≡ [] → (is_number (number_of e) n ≡ false) × (own number_of n zs ≡ [])
  unfolding own
  own_parts n e zs none = at (is_number (number_of e) n) refl none
    where
      at : (t : Bool) → is_number (number_of e) n ≡ t → cond t (e ∷ own number_of n zs) (own number_of n zs) ≡ [] → (is_number (number_of e) n ≡ false) × (own number_of n zs ≡ [])
      at true is none = absurd (cc)
      at false is none = (is, none)

  -- what a worker fetches it still fetches while it makes no event
  pub still : (h zs : List Event) (b : BundleNo) (n : ℕ) → Legal rows limit (h ++ zs) → own number_of n zs ≡ [] → is_fetched_by h b n ≡ true → is_fetched_by (h ++ zs) b n ≡ true
  still h [] b n legal none is = subst (λ (l : List Event). is_fetched_by l b n ≡ true) (sym (append-nil h)) is
  still h (e ∷ zs) b n legal none is =
      let parts = own_parts n e zs none in
      let here : (h ++ e ∷ []) ++ zs ≡ h ++ e ∷ zs = append_assoc h (e ∷ []) zs in
      let on : is_end_of b e ≡ false = ends_own h e b n (prefix rows limit h (e ∷ zs) legal) (legal.answers h e zs refl) is parts.0 in
      let next : is_fetched_by (h ++ e ∷ []) b n ≡ true = fetched_by_push rows h e b n ∙ (ap (λ t. (t && not (is_end_of b e)) || is_take_by b n e) is ∙ ap (λ t. not t || is_take_by b n e) on) in
      subst (λ (l : List Event). is_fetched_by l b n ≡ true) here (still (h ++ e ∷ []) zs b n (subst (Legal rows limit) (sym here) legal) parts.1 next)

  -- what a worker has just taken it fetches
  pub just_taken : (h : List Event) (b : BundleNo) (n : ℕ) → is_fetched_by (h ++ Take b n ∷ []) b n ≡ true
  just_taken h b n = fetched_by_push rows h (Take b n) b n ∙ at (is_fetched_by h b n) (eqb b.0 b.0) (eqb n n) (eq-eqb b.0 b.0 refl) (eq-eqb n n refl)
    where
      at : (x y z : Bool) → y ≡ true → z ≡ true → ((x && true) || (y && z)) ≡ true
      at true y z p q = refl
      at false true true p q = refl
      at false true false p q = absurd (false≢true q)
      at false false z p q = absurd (false≢true p)

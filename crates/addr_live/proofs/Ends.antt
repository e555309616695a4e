-- The last history: whose its changes are, that nothing is queued, and that each Take has its end.
use Rattle.std.proofs.Common.{◌≡◌, ◌⊎◌, inl, inr, ℕ, zero, suc, ◌+◌, ◌≤◌, ◌<◌, Bool, true, false, not, ◌||◌, ◌&&◌, cond, rules, List, [], ◌∷◌, ◌++◌, filter, length, refl, sym, ap, ap₂, ◌∙◌, subst, Option, Some, None, append_assoc, arith, eqb, slice_get, MatchOption}
use Rattle.std.specs.List.{list_any}
use Rattle.std.specs.Option.{option_map_or}
use Rattle.std.proofs.lemmas.Bool.{false≢true, and_parts, or_cases, eqb-true, eq-eqb, not-true}
use Rattle.std.proofs.lemmas.List.{append-nil}
use Rattle.std.proofs.lemmas.List.Elements.{filter-append}
use mathlib.Core.Option.{some, some-injective, some-ne-none}
use lib.ListN.{get_elem?}
use Rattle.addr_base.specs.declared.cause.Cause.{Cause}
use Rattle.addr_base.specs.declared.ids.BundleNo.{BundleNo}
use Rattle.addr_locate.specs.Rows.{Rows}
use Rattle.addr_locate.specs.Merge.{distinct}
use Rattle.addr_history.specs.Answers.{take_reply}
use Rattle.addr_history.specs.Counts.{is_closed}
use Rattle.addr_history.specs.Events.{is_in, is_close, needs_of_event, is_take_of, some_event, over_events}
use Rattle.addr_history.specs.Places.{is_queued, queue, waits, is_resident, is_fetched}
use Rattle.addr_history.specs.Legal.{Legal, IsAnswer}
use Rattle.addr_history.specs.declared.answers.Next.TheVariants as next
use Rattle.addr_history.specs.declared.event.Event.{Event}
use Rattle.addr_history.specs.declared.event.Event.TheVariants.{Load, Acquire, Release, Take, Done, Fail, Close}
use Rattle.addr_history.proofs.Legality.{by_events, close_facts, load_facts, prefix}
use Rattle.addr_history.proofs.Points.{list_any_push}
use Rattle.addr_history.proofs.Ranges.{same_bundle, first_is_queued}
use Rattle.addr_history.proofs.Steps.{queued_push, counts_on, begins}
use Rattle.addr_history.specs.Events.{number_of}
use Rattle.addr_turn.specs.OneHistory.{own, is_number, At, Accounted}
use Rattle.addr_loader.specs.Turn.{Knowledge}
use Rattle.addr_loader.specs.Chain.{Fetching, events_of, end_of}
use Rattle.addr_live.specs.Steps.{is_change, is_work}
use Rattle.addr_live.proofs.Finals.{strays, is_stray, strays_more}

-- each Take of the list is followed by its end
abbrev pub Ended : ℕ → List Event → Type 0
Ended n es = (us : List Event) (b : BundleNo) (vs : List Event) → es ≡ us ++ Take b n ∷ vs → (cause : Option Cause) × (rest : List Event) × (vs ≡ end_of n b cause ∷ rest)

-- a change by another number than the script's
abbrev pub is_foreign : Event → Bool
is_foreign (Load op c k) = not (eqb c 0)
is_foreign (Acquire op c) = not (eqb c 0)
is_foreign (Release op c) = not (eqb c 0)
is_foreign (Take b w) = false
is_foreign (Done b w) = false
is_foreign (Fail b w c) = false
is_foreign Close = false

closed_push : (h : List Event) (e : Event) → is_closed (h ++ e ∷ []) ≡ (is_closed h || is_close e)
unfolding is_closed
closed_push h e = list_any_push is_close h e

closed_nothing : is_closed [] ≡ false
unfolding is_closed
closed_nothing = refl

or_false : (a b : Bool) → (a || b) ≡ false → (a ≡ false) × (b ≡ false)
or_false true b is = absurd (false≢true (sym is))
or_false false b is = (refl, is)

-- there is one Close at most, and nothing else is stray
pub one_stray : (rows : Rows) (limit : ℕ) (h : List Event) → Legal rows limit h → list_any is_foreign h ≡ false → strays h ≤ 1
one_stray rows limit h legal home = (all h legal home).0
  where
    P : List Event → Type 0
    P h = list_any is_foreign h ≡ false → (strays h ≤ 1) × (is_closed h ≡ false → strays h ≡ 0)

    one : (h : List Event) (e : Event) → is_stray e ≡ false → strays (h ++ e ∷ []) ≡ strays h
    one h e is = let m = strays_more h (e ∷ []) in let k : cond (is_stray e) 1 0 ≡ 0 = ap (λ (b : Bool). let n : ℕ = cond b 1 0 in n) is in omega (arith, m, k)

    same : (h : List Event) (e : Event) → is_stray e ≡ false → is_close e ≡ false → (strays h ≤ 1) × (is_closed h ≡ false → strays h ≡ 0) → (strays (h ++ e ∷ []) ≤ 1) × (is_closed (h ++ e ∷ []) ≡ false → strays (h ++ e ∷ []) ≡ 0)
    same h e stray close before = let k = one h e stray in let l = before.0 in (omega (arith, k, l), λ unshut. k ∙ before.1 (or_false (is_closed h) (is_close e) (sym (closed_push h e) ∙ unshut)).0)

    step : (h : List Event) (e : Event) → IsAnswer rows limit h e → (list_any is_foreign h ≡ false → (strays h ≤ 1) × (is_closed h ≡ false → strays h ≡ 0)) → list_any is_foreign (h ++ e ∷ []) ≡ false → (strays (h ++ e ∷ []) ≤ 1) × (is_closed (h ++ e ∷ []) ≡ false → strays (h ++ e ∷ []) ≡ 0)
    step h e answer before home = let parts = or_false (list_any is_foreign h) (is_foreign e) (sym (list_any_push is_foreign h e) ∙ home) in by h e answer (before parts.0) parts.1
      where
        by : (h : List Event) (e : Event) → IsAnswer rows limit h e → (strays h ≤ 1) × (is_closed h ≡ false → strays h ≡ 0) → is_foreign e ≡ false → (strays (h ++ e ∷ []) ≤ 1) × (is_closed (h ++ e ∷ []) ≡ false → strays (h ++ e ∷ []) ≡ 0)
        by h (Load op c k) answer before home = same h (Load op c k) home refl before
        by h (Acquire op c) answer before home = same h (Acquire op c) home refl before
        by h (Release op c) answer before home = same h (Release op c) home refl before
        by h (Take b w) answer before home = same h (Take b w) refl refl before
        by h (Done b w) answer before home = same h (Done b w) refl refl before
        by h (Fail b w k) answer before home = same h (Fail b w k) refl refl before
        by h Close answer before home = let none = before.1 (close_facts rows limit h answer) in let m = strays_more h (Close ∷ []) in (omega (arith, none, m), λ unshut. absurd (false≢true (sym (or_false (is_closed h) true (sym (closed_push h Close) ∙ unshut)).1)))

    all : (h : List Event) → Legal rows limit h → list_any is_foreign h ≡ false → (strays h ≤ 1) × (is_closed h ≡ false → strays h ≡ 0)
    all = by_events rows limit (λ h. list_any is_foreign h ≡ false → (strays h ≤ 1) × (is_closed h ≡ false → strays h ≡ 0)) (λ home. (omega arith, λ unshut. refl)) (λ h e legal answer before. step h e answer before)

none_any : (q : Event → Bool) (h : List Event) → ((p : ℕ) (e : Event) → At h p e → q e ≡ false) → list_any q h ≡ false
none_any q [] never = refl
none_any q (x ∷ h) never = ap₂ ◌||◌ (never 0 x refl) (none_any q h (λ p e at. never (suc p) e at))

pub own_member : (n : ℕ) (l : List Event) (i : ℕ) (e : Event) → At (own number_of n l) i e → is_number (number_of e) n ≡ true
unfolding own
own_member n [] i e at = absurd (some-ne-none e (sym at))
own_member n (x ∷ l) i e at = by (is_number (number_of x) n) refl i at (own_member n l)
  where
    by : (t : Bool) → is_number (number_of x) n ≡ t → (i : ℕ) → At (cond t (x ∷ own number_of n l) (own number_of n l)) i e → ((i : ℕ) (e : Event) → At (own number_of n l) i e → is_number (number_of e) n ≡ true) → is_number (number_of e) n ≡ true
    by true is zero at rest = ap (λ (z : Event). is_number (number_of z) n) (sym (some-injective x e at)) ∙ is
    by true is (suc i) at rest = rest i e at
    by false is i at rest = rest i e at

-- what a worker does is no change
worked_only : (n : ℕ) (xs : List Fetching) (j : ℕ) (e : Event) → At (events_of n xs) j e → is_foreign e ≡ false
worked_only n [] j e at = absurd (some-ne-none e (sym at))
worked_only n (x ∷ xs) zero e at = ap is_foreign (sym (some-injective (Take x.b n) e at))
worked_only n (x ∷ xs) (suc zero) e at = ap is_foreign (sym (some-injective (end_of n x.b x.cause) e at)) ∙ ending x.cause
  where
    ending : (c : Option Cause) → is_foreign (end_of n x.b c) ≡ false
    ending None = refl
    ending (Some c) = refl
worked_only n (x ∷ xs) (suc (suc j)) e at = worked_only n xs j e at

-- each pass that was met into it recorded fetches alone
abbrev pub AllWorked : List (ℕ × List Event) → Type 0
AllWorked others = (i k : ℕ) (es : List Event) → At others i (k, es) → (xs : List Fetching) × (es ≡ events_of k xs)

-- each change that has a number is the script's
pub home : (v : Knowledge) (h : List Event) → own number_of 0 h ≡ v.mine → AllWorked v.others → ((p : ℕ) (e : Event) → At h p e → Accounted number_of v p e) → list_any is_foreign h ≡ false
home v h mine others accounted = none_any is_foreign h (λ p e at. by p e (accounted p e at))
  where
    found : (e : Event) (c : ℕ) → number_of e ≡ Some c → is_foreign e ≡ not (eqb c 0) → ((i : ℕ) × At v.mine i e) ⊎ ((i : ℕ) × (es : List Event) × (j : ℕ) × At v.others i (c, es) × At es j e) → is_foreign e ≡ false
    found e c is foreign (inl m) = foreign ∙ ap not (sym (ap (λ (o : Option ℕ). is_number o 0) is) ∙ own_member 0 h m.0 e (subst (λ (l : List Event). At l m.0 e) (sym mine) m.1))
    found e c is foreign (inr o) = let w = others o.0 c o.1 o.3 in worked_only c w.0 o.2 e (subst (λ (l : List Event). At l o.2 e) w.1 o.4)

    by : (p : ℕ) (e : Event) → MatchOption (number_of e) ((i : ℕ) × At v.bare i p) (λ k. ((i : ℕ) × At v.mine i e) ⊎ ((i : ℕ) × (es : List Event) × (j : ℕ) × At v.others i (k, es) × At es j e)) → is_foreign e ≡ false
    by p (Load op c k) a = found (Load op c k) c refl refl a
    by p (Acquire op c) a = found (Acquire op c) c refl refl a
    by p (Release op c) a = found (Release op c) c refl refl a
    by p (Take b w) a = refl
    by p (Done b w) a = refl
    by p (Fail b w k) a = refl
    by p Close a = refl

-- nothing is queued once Close has come and nothing was queued
member_filtered : (p : BundleNo → Bool) (b : BundleNo) (bs : List BundleNo) → is_in b bs ≡ true → p b ≡ true → filter p bs ≡ [] → ⊥
member_filtered p b [] there is none = false≢true there
member_filtered p b (c ∷ bs) there is none = elim (or_cases (eqb c.0 b.0) (is_in b bs) there) [
  | inl here ↦ clash (p c) (ap p (same_bundle c b here) ∙ is) none
  | inr later ↦ rest (p c) none (member_filtered p b bs later is)
]
  where
    clash : (t : Bool) → t ≡ true → cond t (c ∷ filter p bs) (filter p bs) ≡ [] → ⊥
    clash true is none = cc
    clash false is none = false≢true is

    rest : (t : Bool) → cond t (c ∷ filter p bs) (filter p bs) ≡ [] → (filter p bs ≡ [] → ⊥) → ⊥
    rest true none never = cc
    rest false none never = never none

append_none : (xs ys : List BundleNo) → xs ++ ys ≡ [] → (xs ≡ []) × (ys ≡ [])
append_none [] ys is = (refl, is)
append_none (x ∷ xs) ys is = absurd (cc)

queued_somewhere : (rows : Rows) (b : BundleNo) (before h : List Event) → some_event (waits rows b) before h ≡ true → over_events (λ p e a. filter (λ c. waits rows c p e a) (needs_of_event rows e)) before h ≡ [] → ⊥
queued_somewhere rows b before [] is none = false≢true is
queued_somewhere rows b before (e ∷ h) is none =
    let parts = append_none (filter (λ c. waits rows c before e h) (needs_of_event rows e)) (over_events (λ p x a. filter (λ c. waits rows c p x a) (needs_of_event rows x)) (before ++ e ∷ []) h) none in
    elim (or_cases (waits rows b before e h) (some_event (waits rows b) (before ++ e ∷ []) h) is) [
      | inl here ↦ member_filtered (λ c. waits rows c before e h) b (needs_of_event rows e) (asked here) here parts.0
      | inr later ↦ queued_somewhere rows b (before ++ e ∷ []) h later parts.1
    ]
  where
    asked : waits rows b before e h ≡ true → is_in b (needs_of_event rows e) ≡ true
    asked is = search (and_parts, rules)

distinct_none : (bs : List BundleNo) → distinct bs ≡ [] → bs ≡ []
distinct_none [] is = refl
distinct_none (b ∷ bs) is = absurd (cc)

pub in_queue : (rows : Rows) (h : List Event) (b : BundleNo) → is_queued rows h b ≡ true → queue rows h ≡ [] → ⊥
unfolding is_queued queue
in_queue rows h b is none = queued_somewhere rows b [] h is (distinct_none _ none)

no_first : (bs : List BundleNo) → ((b : BundleNo) → slice_get bs 0 ≡ Some b → ⊥) → bs ≡ []
no_first [] never = refl
no_first (b ∷ bs) never = absurd (never b refl)

pub over : (rows : Rows) (h : List Event) → take_reply rows h ≡ next.End → (is_closed h ≡ true) × (queue rows h ≡ [])
unfolding take_reply
over rows h is = at (queue rows h) (is_closed h) is
  where
    at : (q : List BundleNo) (t : Bool) → option_map_or next.Bundle (slice_get q 0) (cond t next.End next.Idle) ≡ next.End → (t ≡ true) × (q ≡ [])
    at [] true is = (refl, refl)
    at [] false is = cc
    at (b ∷ q) t is = cc

closed_load : (rows : Rows) (limit : ℕ) (h : List Event) (e : Event) (b : BundleNo) → IsAnswer rows limit h e → is_closed h ≡ true → is_in b (needs_of_event rows e) ≡ true → ⊥
closed_load rows limit h (Load op c k) b answer shut asked = let l = load_facts rows limit h op c k answer in false≢true (sym l.opened ∙ shut)
closed_load rows limit h (Acquire op c) b answer shut asked = false≢true asked
closed_load rows limit h (Release op c) b answer shut asked = false≢true asked
closed_load rows limit h (Take o w) b answer shut asked = false≢true asked
closed_load rows limit h (Done o w) b answer shut asked = false≢true asked
closed_load rows limit h (Fail o w c) b answer shut asked = false≢true asked
closed_load rows limit h Close b answer shut asked = false≢true asked

-- it stays empty
pub stays_over : (rows : Rows) (limit : ℕ) (g zs : List Event) → Legal rows limit (g ++ zs) → is_closed g ≡ true → queue rows g ≡ [] → queue rows (g ++ zs) ≡ []
stays_over rows limit g [] legal shut none = ap (queue rows) (append-nil g) ∙ none
stays_over rows limit g (e ∷ zs) legal shut none =
    let here : (g ++ e ∷ []) ++ zs ≡ g ++ e ∷ zs = append_assoc g (e ∷ []) zs in
    let next : queue rows (g ++ e ∷ []) ≡ [] = no_first (queue rows (g ++ e ∷ [])) (λ b first. never b (first_is_queued rows (g ++ e ∷ []) b first)) in
    subst (λ (l : List Event). queue rows l ≡ []) here (stays_over rows limit (g ++ e ∷ []) zs (subst (Legal rows limit) (sym here) legal) (closed_push g e ∙ ap (λ (t : Bool). t || is_close e) shut) next)
  where
    never : (b : BundleNo) → is_queued rows (g ++ e ∷ []) b ≡ true → ⊥
    never b is = elim (or_cases (is_queued rows g b && not (is_take_of b e)) (begins rows g e b) (and_parts ((is_queued rows g b && not (is_take_of b e)) || begins rows g e b) (counts_on rows g e b) (sym (queued_push rows g e b) ∙ is)).0) [
      | inl was ↦ in_queue rows g b (and_parts (is_queued rows g b) (not (is_take_of b e)) was).0 none
      | inr new ↦ closed_load rows limit g e b (legal.answers g e zs refl) shut (and_parts (is_in b (needs_of_event rows e)) (not (is_resident rows g b)) (and_parts (is_in b (needs_of_event rows e) && not (is_resident rows g b)) (not (is_fetched g b)) new).0).0
    ]

-- each Take among a worker's events is followed by its end
pub events_ended : (n : ℕ) (xs : List Fetching) → Ended n (events_of n xs)
events_ended n [] [] b vs is = absurd (cc)
events_ended n [] (u ∷ us) b vs is = absurd (cc)
events_ended n (x ∷ xs) [] b vs is = let rest : end_of n x.b x.cause ∷ events_of n xs ≡ vs = cc in let first : x.b ≡ b = cc in (x.cause, events_of n xs, sym rest ∙ ap (λ (c : BundleNo). end_of n c x.cause ∷ events_of n xs) first)
events_ended n (x ∷ xs) (u ∷ []) b vs is = absurd (clash x.cause (let tail : end_of n x.b x.cause ∷ events_of n xs ≡ Take b n ∷ vs = cc in tail))
  where
    clash : (c : Option Cause) → end_of n x.b c ∷ events_of n xs ≡ Take b n ∷ vs → ⊥
    clash None is = cc
    clash (Some c) is = cc
events_ended n (x ∷ xs) (u ∷ t ∷ us) b vs is = events_ended n xs us b vs (let tail : events_of n xs ≡ us ++ Take b n ∷ vs = cc in tail)

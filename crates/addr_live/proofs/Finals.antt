-- What a whole run says of the last history: its changes are the script's, nothing is queued, and each Take has its end.
use Rattle.std.proofs.Common.{◌≡◌, ◌⊎◌, inl, inr, ℕ, zero, suc, ◌+◌, ◌≤◌, ◌<◌, Bool, true, false, not, cond, List, [], ◌∷◌, ◌++◌, filter, length, length-append, refl, sym, ap, ap₂, ◌∙◌, subst, Option, Some, None, append_assoc, arith, eqb, slice_get}
use Rattle.std.proofs.lemmas.Bool.{false≢true, and_parts, or_cases, eqb-true, eq-eqb, not-true}
use Rattle.std.proofs.lemmas.List.{append-nil}
use Rattle.std.proofs.lemmas.List.Elements.{filter-append}
use Rattle.addr_base.specs.declared.ids.BundleNo.{BundleNo}
use Rattle.addr_locate.specs.Rows.{Rows}
use Rattle.addr_history.specs.Answers.{release_adds, close_adds, take_reply}
use Rattle.addr_history.specs.Counts.{is_unreleased, is_closed}
use Rattle.addr_history.specs.Legal.{Legal, IsAnswer}
use Rattle.addr_history.specs.declared.event.Event.{Event}
use Rattle.addr_history.specs.declared.event.Event.TheVariants.{Load, Acquire, Release, Take, Done, Fail, Close}
use Rattle.addr_history.proofs.Legality.{by_events, close_facts}
use Rattle.addr_history.specs.Events.{number_of}
use Rattle.addr_turn.specs.OneHistory.{own, is_number}
use Rattle.addr_loader.specs.Chain.{Fetching, events_of, end_of}
use Rattle.std.specs.List.{AllByRecursion}
use Rattle.addr_live.specs.Steps.{Step, is_change, is_work, IsAdded, IsQuiet, Runs, changes}

-- a Close, or a change of another number than the script's
abbrev pub is_stray : Event → Bool
is_stray (Load op c k) = not (eqb c 0)
is_stray (Acquire op c) = not (eqb c 0)
is_stray (Release op c) = not (eqb c 0)
is_stray Close = true
is_stray (Take b w) = false
is_stray (Done b w) = false
is_stray (Fail b w c) = false

abbrev pub strays : List Event → ℕ
strays [] = 0
strays (e ∷ es) = cond (is_stray e) 1 0 + strays es

pub strays_more : (xs ys : List Event) → strays (xs ++ ys) ≡ strays xs + strays ys
strays_more [] ys = omega arith
strays_more (x ∷ xs) ys = let h = strays_more xs ys in omega (arith, h)

own_first : (e : Event) (es : List Event) → own number_of 0 (e ∷ es) ≡ cond (is_number (number_of e) 0) (e ∷ own number_of 0 es) (own number_of 0 es)
unfolding own
own_first e es = refl

-- with no stray event and no change of the script's there is no change
quiet_gap : (gap : List Event) → IsQuiet 0 gap → strays gap ≡ 0 → filter is_change gap ≡ []
quiet_gap [] quiet none = refl
quiet_gap (Load op c k ∷ es) quiet none = absurd (at (eqb c 0) refl)
  where
    at : (t : Bool) → eqb c 0 ≡ t → ⊥
    at true is = let first : own number_of 0 (Load op c k ∷ es) ≡ Load op c k ∷ own number_of 0 es = own_first (Load op c k) es ∙ ap (λ (b : Bool). cond b (Load op c k ∷ own number_of 0 es) (own number_of 0 es)) is in let clash = sym quiet ∙ ap (filter is_change) first in cc
    at false is = let one : cond (not (eqb c 0)) 1 0 ≡ 1 = ap (λ (b : Bool). let n : ℕ = cond (not b) 1 0 in n) is in omega (arith, none, one)
quiet_gap (Acquire op c ∷ es) quiet none = absurd (at (eqb c 0) refl)
  where
    at : (t : Bool) → eqb c 0 ≡ t → ⊥
    at true is = let first : own number_of 0 (Acquire op c ∷ es) ≡ Acquire op c ∷ own number_of 0 es = own_first (Acquire op c) es ∙ ap (λ (b : Bool). cond b (Acquire op c ∷ own number_of 0 es) (own number_of 0 es)) is in let clash = sym quiet ∙ ap (filter is_change) first in cc
    at false is = let one : cond (not (eqb c 0)) 1 0 ≡ 1 = ap (λ (b : Bool). let n : ℕ = cond (not b) 1 0 in n) is in omega (arith, none, one)
quiet_gap (Release op c ∷ es) quiet none = absurd (at (eqb c 0) refl)
  where
    at : (t : Bool) → eqb c 0 ≡ t → ⊥
    at true is = let first : own number_of 0 (Release op c ∷ es) ≡ Release op c ∷ own number_of 0 es = own_first (Release op c) es ∙ ap (λ (b : Bool). cond b (Release op c ∷ own number_of 0 es) (own number_of 0 es)) is in let clash = sym quiet ∙ ap (filter is_change) first in cc
    at false is = let one : cond (not (eqb c 0)) 1 0 ≡ 1 = ap (λ (b : Bool). let n : ℕ = cond (not b) 1 0 in n) is in omega (arith, none, one)
quiet_gap (Close ∷ es) quiet none = absurd (omega (arith, none))
quiet_gap (Take b w ∷ es) quiet none = quiet_gap es (rest (eqb w 0) refl) (omega (arith, none))
  where
    rest : (t : Bool) → eqb w 0 ≡ t → IsQuiet 0 es
    rest true is = sym (ap (filter is_change) (own_first (Take b w) es ∙ ap (λ (x : Bool). cond x (Take b w ∷ own number_of 0 es) (own number_of 0 es)) is)) ∙ quiet
    rest false is = sym (ap (filter is_change) (own_first (Take b w) es ∙ ap (λ (x : Bool). cond x (Take b w ∷ own number_of 0 es) (own number_of 0 es)) is)) ∙ quiet
quiet_gap (Done b w ∷ es) quiet none = quiet_gap es (rest (eqb w 0) refl) (omega (arith, none))
  where
    rest : (t : Bool) → eqb w 0 ≡ t → IsQuiet 0 es
    rest true is = sym (ap (filter is_change) (own_first (Done b w) es ∙ ap (λ (x : Bool). cond x (Done b w ∷ own number_of 0 es) (own number_of 0 es)) is)) ∙ quiet
    rest false is = sym (ap (filter is_change) (own_first (Done b w) es ∙ ap (λ (x : Bool). cond x (Done b w ∷ own number_of 0 es) (own number_of 0 es)) is)) ∙ quiet
quiet_gap (Fail b w k ∷ es) quiet none = quiet_gap es (rest (eqb w 0) refl) (omega (arith, none))
  where
    rest : (t : Bool) → eqb w 0 ≡ t → IsQuiet 0 es
    rest true is = sym (ap (filter is_change) (own_first (Fail b w k) es ∙ ap (λ (x : Bool). cond x (Fail b w k ∷ own number_of 0 es) (own number_of 0 es)) is)) ∙ quiet
    rest false is = sym (ap (filter is_change) (own_first (Fail b w k) es ∙ ap (λ (x : Bool). cond x (Fail b w k ∷ own number_of 0 es) (own number_of 0 es)) is)) ∙ quiet

-- what a call adds is a change
all_changes : (es : List Event) → IsAdded es → filter is_change es ≡ es
all_changes es (inl none) = ap (filter is_change) none ∙ sym none
all_changes es (inr (e, only, change)) = ap (filter is_change) only ∙ (ap (λ (t : Bool). let l : List Event = cond t (e ∷ []) [] in l) change ∙ sym only)

-- the events between the calls, counted; where none of them is stray, the changes are the calls'
pub record Between (from : List Event) (ss : List Step) (last : List Event) : Type 0 where
  pub n : ℕ
  pub counted : strays last ≡ strays from + n + strays (changes ss)
  pub changes_are : n ≡ 0 → filter is_change last ≡ filter is_change from ++ changes ss

pub between : (from : List Event) (ss : List Step) (last : List Event) → AllByRecursion (λ s. IsAdded s.added) ss → Runs from ss last → Between from ss last
between from [] last each r = record {
  n = strays r.0;
  counted = (let h = strays_more from r.0 in let l : strays (from ++ r.0) ≡ strays last = ap strays r.1 in omega (arith, h, l));
  changes_are = λ none. ap (filter is_change) (sym r.1) ∙ (filter-append is_change from r.0 ∙ ap (λ (z : List Event). filter is_change from ++ z) (quiet_gap r.0 r.2 none));
}
between from (s ∷ ss) last each r =
    let rest = between (s.before ++ s.added) ss last each.1 r.3 in
    let h = strays_more from r.0 in
    let l : strays (from ++ r.0) ≡ strays s.before = ap strays r.1 in
    let a = strays_more s.before s.added in
    let m = strays_more s.added (changes ss) in
    record {
      n = strays r.0 + rest.n;
      counted = (let k = rest.counted in omega (arith, h, l, a, m, k));
      changes_are = λ none.
          let gap = quiet_gap r.0 r.2 (omega (arith, none)) in
          let upto : filter is_change s.before ≡ filter is_change from = ap (filter is_change) (sym r.1) ∙ (filter-append is_change from r.0 ∙ (ap (λ (z : List Event). filter is_change from ++ z) gap ∙ append-nil (filter is_change from))) in
          rest.changes_are (omega (arith, none))
          ∙ (ap (λ (z : List Event). z ++ changes ss) (filter-append is_change s.before s.added ∙ ap₂ ◌++◌ upto (all_changes s.added each.0)) ∙ append_assoc (filter is_change from) s.added (changes ss));
    }

-- where there is one stray event at most, and it is a Close of the script's
pub changes_are : (ss : List Step) (h : List Event) → AllByRecursion (λ s. IsAdded s.added) ss → Runs [] ss h → strays h ≤ 1 → 0 < strays (changes ss) → filter is_change h ≡ changes ss
changes_are ss h each r one some = let b = between [] ss h each r in let k = b.counted in b.changes_are (omega (arith, k, one, some))

pub stray_made : (z x y : List Event) → z ≡ x ++ Close ∷ y → 0 < strays z
stray_made z x y is = let m = strays_more x (Close ∷ y) in let k : strays z ≡ strays (x ++ Close ∷ y) = ap strays is in omega (arith, m, k)

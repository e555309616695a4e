-- Counts in legal histories, one event more at a time; and the bundles of each operation, kept by its number.
use Rattle.std.proofs.Common.{◌≡◌, inl, inr, ℕ, ◌+◌, ◌<◌, ◌≤◌, Bool, true, false, ◌&&◌, ◌||◌, not, cond, eqb, List, [], ◌∷◌, ◌++◌, Option, Some, None, refl, sym, ◌∙◌, ap, subst, arith, find, ltb, ◌-◌, append_assoc, length, if◌then◌else◌}
use Rattle.std.proofs.lemmas.Bool.{false≢true, eqb-true, ne_eqb, eq-eqb, cases_eq, lt-ltb, ltb-true, ltb-false}
use Rattle.std.proofs.lemmas.List.Sums.{sum_by_push, sum_by-cons, count_by-le-length}
use Rattle.std.proofs.lemmas.List.Folds.{find-append}
use Rattle.std.specs.List.{list_any, count_by, sum_by}
use Rattle.std.specs.Option.{option_or}
use Rattle.addr_base.specs.declared.ids.OpId.{OpId}
use Rattle.addr_locate.specs.Rows.{Rows}
use Rattle.addr_history.specs.declared.ask.Ask.{Ask}
use Rattle.addr_history.specs.declared.event.Event.{Event}
use Rattle.addr_history.specs.declared.event.Event.TheVariants.{Load, Acquire, Release, Take, Done, Fail, Close}
use Rattle.addr_history.specs.Events.{is_load_of, is_acquire_of, is_release_of}
use Rattle.addr_history.specs.Counts.{acquires_of, releases_of, references_of, is_unreleased, is_open_load, references_at, references_in, loads_of}
use Rattle.addr_history.specs.Legal.{IsAnswer, Legal}
use Rattle.addr_history.proofs.Points.{and-true, or-false, list_any_push}
use Rattle.addr_history.proofs.Legality.{load_facts, by_events, acquires_push, releases_push, held, references_held, unreleased_is, load_below, no_change_past, unreleased_parts}

-- counts in general
abbrev pub one_if : Bool → ℕ
one_if t = cond t 1 0

pub count-cons : {X : Type 0} (p : X → Bool) (x : X) (xs : List X) → count_by p (x ∷ xs) ≡ cond (p x) 1 0 + count_by p xs
count-cons p x xs = sum_by-cons (λ y. cond (p y) 1 0) x xs

pub count_push : {X : Type 0} (p : X → Bool) (xs : List X) (x : X) → count_by p (xs ++ x ∷ []) ≡ count_by p xs + cond (p x) 1 0
count_push p xs x = sum_by_push (λ y. cond (p y) 1 0) xs x

pub count_same : {X : Type 0} (p q : X → Bool) → ((x : X) → p x ≡ q x) → (xs : List X) → count_by p xs ≡ count_by q xs
count_same p q same [] = refl
count_same p q same (x ∷ xs) = count-cons p x xs ∙ ap (λ t. cond t 1 0 + count_by p xs) (same x) ∙ ap (λ n. cond (q x) 1 0 + n) (count_same p q same xs) ∙ sym (count-cons q x xs)

-- what two tests count together
pub count_sum : {X : Type 0} (p q r : X → Bool) → ((x : X) → cond (p x) 1 0 + cond (q x) 1 0 ≡ cond (r x) 1 0) → (xs : List X) → count_by p xs + count_by q xs ≡ count_by r xs
count_sum p q r same [] = refl
count_sum p q r same (x ∷ xs) = omega (arith, same x, count-cons p x xs, count-cons q x xs, count-cons r x xs, count_sum p q r same xs)

eqb_turned : (a b : ℕ) → eqb a b ≡ eqb b a
eqb_turned a b = elim (cases_eq a b) [
  | inl same ↦ eq-eqb a b same ∙ sym (eq-eqb b a (sym same))
  | inr other ↦ ne_eqb a b other ∙ sym (ne_eqb b a (λ same. other (sym same)))
]

pub find_some : {X : Type 0} (p : X → Bool) (xs : List X) → list_any p xs ≡ true → (x : X) × ((find p xs ≡ Some x) × (p x ≡ true))
find_some p [] has = absurd (false≢true has)
find_some {X} p (x ∷ xs) has = at (p x) refl has (λ given. find_some p xs given)
  where
    at : (t : Bool) → p x ≡ t → (t || list_any p xs) ≡ true → (list_any p xs ≡ true → (y : X) × ((find p xs ≡ Some y) × (p y ≡ true))) → (y : X) × ((cond t (Some x) (find p xs) ≡ Some y) × (p y ≡ true))
    at true is given rest = (x, (refl, is))
    at false is given rest = rest given

pub find_none : {X : Type 0} (p : X → Bool) (xs : List X) → list_any p xs ≡ false → find p xs ≡ None
find_none p [] none = refl
find_none p (x ∷ xs) none = at (p x) none (λ given. find_none p xs given)
  where
    at : (t : Bool) → (t || list_any p xs) ≡ false → (list_any p xs ≡ false → find p xs ≡ None) → cond t (Some x) (find p xs) ≡ None
    at true given rest = absurd (false≢true (sym given))
    at false given rest = rest given

pub sum_same : {X : Type 0} (f g : X → ℕ) → ((x : X) → f x ≡ g x) → (xs : List X) → sum_by f xs ≡ sum_by g xs
sum_same f g same [] = refl
sum_same f g same (x ∷ xs) = omega (arith, sum_by-cons f x xs, sum_by-cons g x xs, same x, sum_same f g same xs)

-- a sum and a count together
pub sum_more : {X : Type 0} (f : X → ℕ) (p : X → Bool) (g : X → ℕ) → ((x : X) → f x + one_if (p x) ≡ g x) → (xs : List X) → sum_by f xs + count_by p xs ≡ sum_by g xs
sum_more f p g same [] = refl
sum_more f p g same (x ∷ xs) = omega (arith, sum_by-cons f x xs, count-cons p x xs, sum_by-cons g x xs, same x, sum_more f p g same xs)

-- a sum over a history looks at the history's own events alone
pub sum_members : (h : List Event) (f g : Event → ℕ) → ((before : List Event) (x : Event) (after : List Event) → before ++ x ∷ after ≡ h → f x ≡ g x) → sum_by f h ≡ sum_by g h
sum_members h f g same = go [] h refl
  where
    go : (before xs : List Event) → before ++ xs ≡ h → sum_by f xs ≡ sum_by g xs
    go before [] is = refl
    go before (x ∷ xs) is = omega (arith, sum_by-cons f x xs, sum_by-cons g x xs, same before x xs is, go (before ++ x ∷ []) xs (append_assoc before (x ∷ []) xs ∙ is))

-- the references of the operation whose Load it is, where that Load is there
abbrev pub held_at : List Event → Event → ℕ
held_at h (Load op caller ask) = held h op
held_at h _ = 0

at_load : (h before : List Event) (x : Event) (after : List Event) → before ++ x ∷ after ≡ h → references_at h x ≡ held_at h x
at_load h before (Load o c k) after is = references_held h o (subst (λ (l : List Event). list_any (is_load_of o) l ≡ true) is (has before))
  where
    right : (x : Bool) {y : Bool} → y ≡ true → (x || y) ≡ true
    right true is = refl
    right false is = is

    has : (p : List Event) → list_any (is_load_of o) (p ++ Load o c k ∷ after) ≡ true
    has [] = ap (λ t. t || list_any (is_load_of o) after) (eq-eqb o.0 o.0 refl)
    has (y ∷ p) = right (is_load_of o y) (has p)
at_load h before (Acquire o c) after is = refl
at_load h before (Release o c) after is = refl
at_load h before (Take o c) after is = refl
at_load h before (Done o c) after is = refl
at_load h before (Fail o c k) after is = refl
at_load h before Close after is = refl

-- an event that is no Acquire and no Release
abbrev pub KeepsReferences : Event → Type 0
KeepsReferences e = (op : OpId) → (is_acquire_of op e ≡ false) × (is_release_of op e ≡ false)

pub held_calm : (h : List Event) (e : Event) → KeepsReferences e → (op : OpId) → held (h ++ e ∷ []) op ≡ held h op
held_calm h e calm op = omega (arith, acquires_push h e op, releases_push h e op, ap one_if (calm op).0, ap one_if (calm op).1)

pub held_acquire : (h : List Event) (op : OpId) (caller : ℕ) (o : OpId) → held (h ++ Acquire op caller ∷ []) o ≡ 1 + (acquires_of h o + one_if (eqb o.0 op.0)) - releases_of h o
held_acquire h op caller o = omega (arith, acquires_push h (Acquire op caller) o, releases_push h (Acquire op caller) o, ap one_if (eqb_turned op.0 o.0))

pub held_release : (h : List Event) (op : OpId) (caller : ℕ) (o : OpId) → held (h ++ Release op caller ∷ []) o ≡ held h o - one_if (eqb o.0 op.0)
held_release h op caller o = omega (arith, acquires_push h (Release op caller) o, releases_push h (Release op caller) o, ap one_if (eqb_turned op.0 o.0))

held_at_calm : (h : List Event) (e : Event) → KeepsReferences e → (x : Event) → held_at (h ++ e ∷ []) x ≡ held_at h x
held_at_calm h e calm (Load o c k) = held_calm h e calm o
held_at_calm h e calm (Acquire o c) = refl
held_at_calm h e calm (Release o c) = refl
held_at_calm h e calm (Take o c) = refl
held_at_calm h e calm (Done o c) = refl
held_at_calm h e calm (Fail o c k) = refl
held_at_calm h e calm Close = refl

pub same_op : (a b : OpId) → eqb a.0 b.0 ≡ true → a ≡ b
same_op a b is = ap (λ n. let r : OpId = record { 0 = n } in r) (eqb-true a.0 b.0 is)

-- one reference more, or one less, of the operation alone
held_at_acquire : (h : List Event) (op : OpId) (caller : ℕ) → 0 < held h op → (x : Event) → held_at h x + one_if (is_load_of op x) ≡ held_at (h ++ Acquire op caller ∷ []) x
held_at_acquire h op caller has (Load o c k) = by (eqb o.0 op.0) refl
  where
    by : (t : Bool) → eqb o.0 op.0 ≡ t → held h o + one_if t ≡ held (h ++ Acquire op caller ∷ []) o
    by true is = let same : held h o ≡ held h op = ap (held h) (same_op o op is) in omega (arith, held_acquire h op caller o, ap one_if is)
    by false is = omega (arith, held_acquire h op caller o, ap one_if is)
held_at_acquire h op caller has (Acquire o c) = refl
held_at_acquire h op caller has (Release o c) = refl
held_at_acquire h op caller has (Take o c) = refl
held_at_acquire h op caller has (Done o c) = refl
held_at_acquire h op caller has (Fail o c k) = refl
held_at_acquire h op caller has Close = refl

held_at_release : (h : List Event) (op : OpId) (caller : ℕ) → 0 < held h op → (x : Event) → held_at (h ++ Release op caller ∷ []) x + one_if (is_load_of op x) ≡ held_at h x
held_at_release h op caller has (Load o c k) = by (eqb o.0 op.0) refl
  where
    by : (t : Bool) → eqb o.0 op.0 ≡ t → held (h ++ Release op caller ∷ []) o + one_if t ≡ held h o
    by true is = let same : held h o ≡ held h op = ap (held h) (same_op o op is) in omega (arith, held_release h op caller o, ap one_if is)
    by false is = omega (arith, held_release h op caller o, ap one_if is)
held_at_release h op caller has (Acquire o c) = refl
held_at_release h op caller has (Release o c) = refl
held_at_release h op caller has (Take o c) = refl
held_at_release h op caller has (Done o c) = refl
held_at_release h op caller has (Fail o c k) = refl
held_at_release h op caller has Close = refl

-- open operations among those that a test picks
module _ (N : Event → Bool) where
  abbrev pub opened : List Event → ℕ
  opened h = count_by (λ x. is_open_load h x && N x) h

  abbrev picked : List Event → Event → Bool
  picked h x = ltb 0 (held_at h x) && N x

  opened_held : (h : List Event) → opened h ≡ count_by (picked h) h
  opened_held h = sum_members h (λ x. one_if (is_open_load h x && N x)) (λ x. one_if (picked h x)) (λ before x after is. ap (λ n. one_if (ltb 0 n && N x)) (at_load h before x after is))

  -- where an event leaves open what was open
  opened_same : (h : List Event) (e : Event) → ((x : Event) → ltb 0 (held_at (h ++ e ∷ []) x) ≡ ltb 0 (held_at h x)) → opened (h ++ e ∷ []) ≡ opened h + one_if (picked h e)
  opened_same h e same =
      opened_held (h ++ e ∷ [])
      ∙ count_same (picked (h ++ e ∷ [])) (picked h) (λ x. ap (λ t. t && N x) (same x)) (h ++ e ∷ [])
      ∙ count_push (picked h) h e
      ∙ ap (λ n. n + one_if (picked h e)) (sym (opened_held h))

  pub opened_push : (h : List Event) (e : Event) → KeepsReferences e → opened (h ++ e ∷ []) ≡ opened h + one_if (picked h e)
  opened_push h e calm = opened_same h e (λ x. ap (ltb 0) (held_at_calm h e calm x))

  -- a Release of the last reference
  pub opened_release : (h : List Event) (op : OpId) (caller : ℕ) → held h op ≡ 1 → opened (h ++ Release op caller ∷ []) + count_by (λ x. is_load_of op x && N x) h ≡ opened h
  opened_release h op caller last =
      omega (
        arith,
        opened_held (h ++ Release op caller ∷ []),
        opened_held h,
        count_push (picked (h ++ Release op caller ∷ [])) h (Release op caller),
        count_sum (picked (h ++ Release op caller ∷ [])) (λ x. is_load_of op x && N x) (picked h) at h,
      )
    where
      at : (x : Event) → one_if (picked (h ++ Release op caller ∷ []) x) + one_if (is_load_of op x && N x) ≡ one_if (picked h x)
      at (Load o c k) = by (eqb o.0 op.0) refl
        where
          n : Bool
          n = N (Load o c k)

          by : (t : Bool) → eqb o.0 op.0 ≡ t → one_if (ltb 0 (held (h ++ Release op caller ∷ []) o) && n) + one_if (t && n) ≡ one_if (ltb 0 (held h o) && n)
          by true is =
              let before : held h o ≡ 1 = ap (held h) (same_op o op is) ∙ last in
              let after : held (h ++ Release op caller ∷ []) o ≡ 0 = omega (arith, held_release h op caller o, ap one_if is) in
              let old : one_if (ltb 0 (held h o) && n) ≡ one_if n = ap (λ m. one_if (ltb 0 m && n)) before in
              let new : one_if (ltb 0 (held (h ++ Release op caller ∷ []) o) && n) ≡ 0 = ap (λ m. one_if (ltb 0 m && n)) after in
              omega arith
          by false is =
              let same : held (h ++ Release op caller ∷ []) o ≡ held h o = omega (arith, held_release h op caller o, ap one_if is) in
              let one : one_if (ltb 0 (held (h ++ Release op caller ∷ []) o) && n) ≡ one_if (ltb 0 (held h o) && n) = ap (λ m. one_if (ltb 0 m && n)) same in
              omega arith
      at (Acquire o c) = refl
      at (Release o c) = refl
      at (Take o c) = refl
      at (Done o c) = refl
      at (Fail o c k) = refl
      at Close = refl

-- the sum of references
in_held : (h : List Event) → references_in h ≡ sum_by (held_at h) h
unfolding references_in
in_held h = sum_members h (references_at h) (held_at h) (at_load h)

pub references_calm : (h : List Event) (e : Event) → KeepsReferences e → references_in (h ++ e ∷ []) ≡ references_in h + held_at h e
references_calm h e calm =
    omega (arith, in_held (h ++ e ∷ []), in_held h, sum_same (held_at (h ++ e ∷ [])) (held_at h) (held_at_calm h e calm) (h ++ e ∷ []), sum_by_push (held_at h) h e)

references_more : (h : List Event) (op : OpId) (caller : ℕ) → 0 < held h op → references_in (h ++ Acquire op caller ∷ []) ≡ references_in h + count_by (is_load_of op) h
references_more h op caller has =
    let e = Acquire op caller in
    omega (arith, in_held (h ++ e ∷ []), in_held h, sum_by_push (held_at (h ++ e ∷ [])) h e, sum_more (held_at h) (is_load_of op) (held_at (h ++ e ∷ [])) (held_at_acquire h op caller has) h)

references_less : (h : List Event) (op : OpId) (caller : ℕ) → 0 < held h op → references_in (h ++ Release op caller ∷ []) + count_by (is_load_of op) h ≡ references_in h
references_less h op caller has =
    let e = Release op caller in
    omega (arith, in_held (h ++ e ∷ []), in_held h, sum_by_push (held_at (h ++ e ∷ [])) h e, sum_more (held_at (h ++ e ∷ [])) (is_load_of op) (held_at h) (held_at_release h op caller has) h)

module _ (rows : Rows) (limit : ℕ) where
  -- the Load of an operation is the only one, and stays the first
  load_is_new : (h : List Event) → Legal rows limit h → (e : Event) → IsAnswer rows limit h e → (op : OpId) → list_any (is_load_of op) h ≡ true → is_load_of op e ≡ false
  load_is_new h legal (Load o c k) answer op has = let f = load_facts rows limit h o c k answer in let below : op.0 < loads_of h = load_below rows limit h legal op has in ne_eqb o.0 op.0 (λ same. omega (arith, f.number))
  load_is_new h legal (Acquire o c) answer op has = refl
  load_is_new h legal (Release o c) answer op has = refl
  load_is_new h legal (Take o c) answer op has = refl
  load_is_new h legal (Done o c) answer op has = refl
  load_is_new h legal (Fail o c k) answer op has = refl
  load_is_new h legal Close answer op has = refl

  none_count : {X : Type 0} (p q : X → Bool) (xs : List X) → list_any p xs ≡ false → count_by (λ x. p x && q x) xs ≡ 0
  none_count p q [] none = refl
  none_count p q (x ∷ xs) none = count-cons (λ y. p y && q y) x xs ∙ at (p x) none (λ given. none_count p q xs given)
    where
      at : (t : Bool) → (t || list_any p xs) ≡ false → (list_any p xs ≡ false → count_by (λ y. p y && q y) xs ≡ 0) → cond (t && q x) 1 0 + count_by (λ y. p y && q y) xs ≡ 0
      at true given rest = absurd (false≢true (sym given))
      at false given rest = omega (arith, rest given)

  -- among the Loads of one operation there is one to count, the first
  abbrev Single : List Event → Type 0
  Single h = (op : OpId) (x : Event) → find (is_load_of op) h ≡ Some x → (T : Event → Bool) → count_by (λ y. is_load_of op y && T y) h ≡ one_if (T x)

  pub single : (h : List Event) → Legal rows limit h → Single h
  single = by_events rows limit Single (λ op x is T. cc) step
    where
      step : (h : List Event) (e : Event) → Legal rows limit h → IsAnswer rows limit h e → Single h → Single (h ++ e ∷ [])
      step h e legal answer before op x is T = by (list_any (is_load_of op) h) refl
        where
          joined : option_or (find (is_load_of op) h) (find (is_load_of op) (e ∷ [])) ≡ Some x
          joined = sym (find-append (is_load_of op) h (e ∷ [])) ∙ is

          last : (t : Bool) → is_load_of op e ≡ t → cond t (Some e) None ≡ Some x → one_if (is_load_of op e && T e) ≡ one_if (T x)
          last true loads given = ap (λ t. one_if (t && T e)) loads ∙ ap (λ y. one_if (T y)) (let same : e ≡ x = cc in same)
          last false loads given = cc

          by : (t : Bool) → list_any (is_load_of op) h ≡ t → count_by (λ y. is_load_of op y && T y) (h ++ e ∷ []) ≡ one_if (T x)
          by true has =
              let found = find_some (is_load_of op) h has in
              let same : find (is_load_of op) h ≡ Some x = found.1.0 ∙ sym (ap (λ (o : Option Event). option_or o (find (is_load_of op) (e ∷ []))) found.1.0) ∙ joined in
              let counted_before : count_by (λ y. is_load_of op y && T y) h ≡ one_if (T x) = before op x same T in
              let other : one_if (is_load_of op e && T e) ≡ 0 = ap (λ t. one_if (t && T e)) (load_is_new h legal e answer op has) in
              omega (arith, count_push (λ y. is_load_of op y && T y) h e)
          by false none =
              let nothing : count_by (λ y. is_load_of op y && T y) h ≡ 0 = none_count (is_load_of op) T h none in
              let only : cond (is_load_of op e) (Some e) None ≡ Some x = sym (ap (λ (o : Option Event). option_or o (find (is_load_of op) (e ∷ []))) (find_none (is_load_of op) h none)) ∙ joined in
              let here : one_if (is_load_of op e && T e) ≡ one_if (T x) = last (is_load_of op e) refl only in
              omega (arith, count_push (λ y. is_load_of op y && T y) h e)

  fresh_held : (h : List Event) → Legal rows limit h → (op : OpId) (caller : ℕ) (ask : Ask) → IsAnswer rows limit h (Load op caller ask) → held h op ≡ 1
  fresh_held h legal op caller ask answer =
      let f = load_facts rows limit h op caller ask answer in
      let le : loads_of h ≤ op.0 = omega (arith, f.number) in
      let none = no_change_past rows limit h legal op le in
      let acquired : acquires_of h op ≡ 0 = none.0 in
      let released : releases_of h op ≡ 0 = none.1 in
      omega arith

  pub opened_load : (N : Event → Bool) (h : List Event) → Legal rows limit h → (op : OpId) (caller : ℕ) (ask : Ask) → IsAnswer rows limit h (Load op caller ask) → opened N (h ++ Load op caller ask ∷ []) ≡ opened N h + one_if (N (Load op caller ask))
  opened_load N h legal op caller ask answer =
      opened_push N h (Load op caller ask) (λ o. (refl, refl)) ∙ ap (λ m. opened N h + one_if (ltb 0 m && N (Load op caller ask))) (fresh_held h legal op caller ask answer)

  -- an unreleased operation has one Load
  one_load : (h : List Event) → Legal rows limit h → (op : OpId) → list_any (is_load_of op) h ≡ true → count_by (is_load_of op) h ≡ 1
  one_load h legal op has =
      let found = find_some (is_load_of op) h has in
      count_same (is_load_of op) (λ y. is_load_of op y && true) (λ y. sym (and-true (is_load_of op y))) h ∙ single h legal op found.0 found.1.0 (λ y. true)

  pub references_load : (h : List Event) → Legal rows limit h → (op : OpId) (caller : ℕ) (ask : Ask) → IsAnswer rows limit h (Load op caller ask) → references_in (h ++ Load op caller ask ∷ []) ≡ references_in h + 1
  references_load h legal op caller ask answer =
      omega (arith, references_calm h (Load op caller ask) (λ o. (refl, refl)), fresh_held h legal op caller ask answer)

  pub references_acquire : (h : List Event) → Legal rows limit h → (op : OpId) (caller : ℕ) → is_unreleased h op ≡ true → references_in (h ++ Acquire op caller ∷ []) ≡ references_in h + 1
  references_acquire h legal op caller is =
      let parts = unreleased_parts h op is in
      omega (arith, references_more h op caller parts.1, one_load h legal op parts.0)

  pub references_release : (h : List Event) → Legal rows limit h → (op : OpId) (caller : ℕ) → is_unreleased h op ≡ true → references_in (h ++ Release op caller ∷ []) + 1 ≡ references_in h
  references_release h legal op caller is =
      let parts = unreleased_parts h op is in
      omega (arith, references_less h op caller parts.1, one_load h legal op parts.0)

  -- the Load that a Release closes
  pub closed_load : (h : List Event) (op : OpId) → is_unreleased h op ≡ true → (x : Event) × ((find (is_load_of op) h ≡ Some x) × (is_open_load h x ≡ true))
  closed_load h op is = (found.0, (found.1.0, opens found.0 found.1.1))
    where
      parts : (list_any (is_load_of op) h ≡ true) × (0 < held h op)
      parts = unreleased_parts h op is

      found : (x : Event) × ((find (is_load_of op) h ≡ Some x) × (is_load_of op x ≡ true))
      found = find_some (is_load_of op) h parts.0

      opens : (x : Event) → is_load_of op x ≡ true → is_open_load h x ≡ true
      opens (Load o c k) this = sym (unreleased_is h o) ∙ subst (λ (w : OpId). is_unreleased h w ≡ true) (sym (same_op o op this)) is
      opens (Acquire o c) this = absurd (false≢true this)
      opens (Release o c) this = absurd (false≢true this)
      opens (Take o c) this = absurd (false≢true this)
      opens (Done o c) this = absurd (false≢true this)
      opens (Fail o c k) this = absurd (false≢true this)
      opens Close this = absurd (false≢true this)

  pub opened_closed : (N : Event → Bool) (h : List Event) → Legal rows limit h → (op : OpId) (caller : ℕ) → held h op ≡ 1 → (x : Event) → find (is_load_of op) h ≡ Some x → opened N (h ++ Release op caller ∷ []) + one_if (N x) ≡ opened N h
  opened_closed N h legal op caller last x found =
      let one : count_by (λ y. is_load_of op y && N y) h ≡ one_if (N x) = single h legal op x found N in
      omega (arith, opened_release N h op caller last)

-- the references of one operation, one event on
pub references_none : (h : List Event) (op : OpId) → list_any (is_load_of op) h ≡ false → references_of h op ≡ 0
unfolding references_of
references_none h op none = ap (λ t. let n : ℕ = if t then held h op else 0 in n) none

pub references_le : (h : List Event) (op : OpId) → references_of h op ≤ length h + 1
unfolding references_of acquires_of releases_of
references_le h op = by (list_any (is_load_of op) h)
  where
    by : (t : Bool) → (if t then held h op else 0) ≤ length h + 1
    by true = omega (arith, count_by-le-length (is_acquire_of op) h)
    by false = omega arith

pub references_kept : (h : List Event) (e : Event) (op : OpId) → is_load_of op e ≡ false → is_acquire_of op e ≡ false → is_release_of op e ≡ false → references_of (h ++ e ∷ []) op ≡ references_of h op
unfolding references_of
references_kept h e op load acquire release =
    ap (λ t. let n : ℕ = if t then held (h ++ e ∷ []) op else 0 in n) (list_any_push (is_load_of op) h e ∙ ap (λ t. list_any (is_load_of op) h || t) load ∙ or-false (list_any (is_load_of op) h))
    ∙ ap (λ m. let n : ℕ = if list_any (is_load_of op) h then m else 0 in n) same
  where
    same : held (h ++ e ∷ []) op ≡ held h op
    same = omega (arith, acquires_push h e op, releases_push h e op, ap one_if acquire, ap one_if release)

pub references_given : (h : List Event) (o : OpId) (caller : ℕ) (op : OpId) → references_of (h ++ Release o caller ∷ []) op ≡ references_of h op - one_if (eqb op.0 o.0)
unfolding references_of
references_given h o caller op =
    ap (λ t. let n : ℕ = if t then held (h ++ Release o caller ∷ []) op else 0 in n) (list_any_push (is_load_of op) h (Release o caller) ∙ or-false (list_any (is_load_of op) h))
    ∙ by (list_any (is_load_of op) h)
  where
    by : (t : Bool) → (if t then held (h ++ Release o caller ∷ []) op else 0) ≡ (if t then held h op else 0) - one_if (eqb op.0 o.0)
    by true = held_release h o caller op
    by false = omega arith

pub references_taken : (h : List Event) (o : OpId) (caller : ℕ) → is_unreleased h o ≡ true → (op : OpId) → references_of (h ++ Acquire o caller ∷ []) op ≡ references_of h op + one_if (eqb op.0 o.0)
references_taken h o caller is op = by (eqb op.0 o.0) refl
  where
    parts : (list_any (is_load_of o) h ≡ true) × (0 < held h o)
    parts = unreleased_parts h o is

    by : (t : Bool) → eqb op.0 o.0 ≡ t → references_of (h ++ Acquire o caller ∷ []) op ≡ references_of h op + one_if t
    by true same =
        let it : op ≡ o = same_op op o same in
        let has : list_any (is_load_of o) (h ++ Acquire o caller ∷ []) ≡ true = list_any_push (is_load_of o) h (Acquire o caller) ∙ or-false (list_any (is_load_of o) h) ∙ parts.0 in
        let now : references_of (h ++ Acquire o caller ∷ []) op ≡ held (h ++ Acquire o caller ∷ []) o = ap (references_of (h ++ Acquire o caller ∷ [])) it ∙ references_held (h ++ Acquire o caller ∷ []) o has in
        let before : references_of h op ≡ held h o = ap (references_of h) it ∙ references_held h o parts.0 in
        let more : held (h ++ Acquire o caller ∷ []) o ≡ 1 + (acquires_of h o + one_if (eqb o.0 o.0)) - releases_of h o = held_acquire h o caller o in
        let one : one_if (eqb o.0 o.0) ≡ 1 = ap one_if (eq-eqb o.0 o.0 refl) in
        let pos = parts.1 in
        omega arith
    by false other = references_kept h (Acquire o caller) op refl (eqb_turned o.0 op.0 ∙ other) refl ∙ (let same : references_of h op ≡ references_of h op + 0 = omega arith in same)

module _ (rows : Rows) (limit : ℕ) where
  pub references_first : (h : List Event) → Legal rows limit h → (op : OpId) (caller : ℕ) (ask : Ask) → IsAnswer rows limit h (Load op caller ask) → references_of (h ++ Load op caller ask ∷ []) op ≡ 1
  references_first h legal op caller ask answer =
      references_held (h ++ Load op caller ask ∷ []) op (list_any_push (is_load_of op) h (Load op caller ask) ∙ ap (λ t. list_any (is_load_of op) h || t) (eq-eqb op.0 op.0 refl) ∙ or_true (list_any (is_load_of op) h))
      ∙ held_calm h (Load op caller ask) (λ o. (refl, refl)) op
      ∙ fresh_held rows limit h legal op caller ask answer
    where
      or_true : (t : Bool) → (t || true) ≡ true
      or_true true = refl
      or_true false = refl

-- some open operation is picked
pub opened_some : (N : Event → Bool) (q : Event → Bool) (h : List Event) (x : Event) → find q h ≡ Some x → is_open_load h x ≡ true → N x ≡ true → 1 ≤ opened N h
opened_some N q h x found opens picks = at_least (λ y. is_open_load h y && N y) h found (ap (λ t. t && N x) opens ∙ picks)
  where
    at_least : (p : Event → Bool) (xs : List Event) → find q xs ≡ Some x → p x ≡ true → 1 ≤ count_by p xs
    at_least p [] is passes = cc
    at_least p (y ∷ xs) is passes = by (q y) is (λ given. at_least p xs given passes)
      where
        by : (t : Bool) → cond t (Some y) (find q xs) ≡ Some x → (find q xs ≡ Some x → 1 ≤ count_by p xs) → 1 ≤ count_by p (y ∷ xs)
        by true given rest = let same : y ≡ x = cc in let one : one_if (p y) ≡ 1 = ap (λ (z : Event). one_if (p z)) same ∙ ap one_if passes in omega (arith, count-cons p y xs)
        by false given rest = omega (arith, count-cons p y xs, rest given)

any_counts : {X : Type 0} (p : X → Bool) (xs : List X) → list_any p xs ≡ ltb 0 (count_by p xs)
any_counts p [] = refl
any_counts p (x ∷ xs) = ap (λ t. p x || t) (any_counts p xs) ∙ by (p x) ∙ ap (ltb 0) (sym (count-cons p x xs))
  where
    by : (t : Bool) → (t || ltb 0 (count_by p xs)) ≡ ltb 0 (one_if t + count_by p xs)
    by true = sym (lt-ltb 0 (1 + count_by p xs) (omega arith))
    by false = ap (ltb 0) (let same : count_by p xs ≡ 0 + count_by p xs = omega arith in same)

-- where an operation was never acquired, its references are one from its Load to its first Release, and else none
pub one_or_none : (h : List Event) (op : OpId) → list_any (is_acquire_of op) h ≡ false → references_of h op ≡ (if list_any (is_load_of op) h && not (list_any (is_release_of op) h) then 1 else 0)
unfolding references_of acquires_of releases_of
one_or_none h op none = by (list_any (is_load_of op) h)
  where
    never : acquires_of h op ≤ 0
    never = ltb-false 0 (acquires_of h op) (sym (any_counts (is_acquire_of op) h) ∙ none)

    left : (t : Bool) → t ≡ ltb 0 (releases_of h op) → held h op ≡ (if not t then 1 else 0)
    left true is = let some : 0 < releases_of h op = ltb-true 0 (releases_of h op) (sym is) in omega (arith, never)
    left false is = let zero_now : releases_of h op ≤ 0 = ltb-false 0 (releases_of h op) (sym is) in omega (arith, never)

    by : (t : Bool) → (if t then held h op else 0) ≡ (if t && not (list_any (is_release_of op) h) then 1 else 0)
    by true = left (list_any (is_release_of op) h) (any_counts (is_release_of op) h)
    by false = refl

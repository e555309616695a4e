-- Lists of different bundles: cut where one stands, without it, and no longer than there are numbers; and their places in a ring.
use Rattle.std.proofs.Common.{◌≡◌, inl, inr, ℕ, ◌+◌, ◌<◌, Bool, true, false, ◌&&◌, ◌||◌, not, cond, eqb, ltb, List, [], ◌∷◌, ◌++◌, length, filter, refl, sym, ◌∙◌, ap, subst, arith, length-append}
use Rattle.std.proofs.lemmas.Bool.{false≢true, and_parts, or_cases, eqb-true, eq-eqb, ne_eqb, ltb-true, not-true, cases_eq}
use Rattle.std.proofs.lemmas.List.Folds.{list_any-append}
use Rattle.std.specs.List.{list_any}
use Rattle.addr_base.specs.declared.ids.BundleNo.{BundleNo}
use Rattle.addr_locate.specs.Rows.{no_repeats, are_bundles}
use Rattle.addr_history.proofs.Ranges.{same_bundle}

-- whether a number is that of one of some bundles
abbrev pub has : ℕ → List BundleNo → Bool
has n bs = list_any (λ c. eqb c.0 n) bs

has_head : (b : BundleNo) (bs : List BundleNo) → has b.0 (b ∷ bs) ≡ true
has_head b bs = ap (λ t. t || has b.0 bs) (eq-eqb b.0 b.0 refl)

right : (s : Bool) {t : Bool} → t ≡ true → (s || t) ≡ true
right true is = refl
right false is = is

-- whether a place of a ring is that of one of some bundles
abbrev pub stands : ℕ → List BundleNo → Bool
stands n bs = list_any (λ c. eqb (c.0 + 1) n) bs

eqb_next : (m n : ℕ) → eqb (m + 1) (n + 1) ≡ eqb m n
eqb_next m n = elim (cases_eq m n) [
  | inl same ↦ eq-eqb (m + 1) (n + 1) (omega arith) ∙ sym (eq-eqb m n same)
  | inr other ↦ ne_eqb (m + 1) (n + 1) (λ is. other (omega arith)) ∙ sym (ne_eqb m n other)
]

pub stands_at : (n : ℕ) (bs : List BundleNo) → stands (n + 1) bs ≡ has n bs
stands_at n [] = refl
stands_at n (c ∷ bs) = ap (λ t. t || stands (n + 1) bs) (eqb_next c.0 n) ∙ ap (λ t. eqb c.0 n || t) (stands_at n bs)

pub stands_nowhere : (bs : List BundleNo) → stands 0 bs ≡ false
stands_nowhere [] = refl
stands_nowhere (c ∷ bs) = ap (λ t. t || stands 0 bs) (ne_eqb (c.0 + 1) 0 (λ is. omega arith)) ∙ stands_nowhere bs

pub stands_head : (b : BundleNo) (bs : List BundleNo) → stands (b.0 + 1) (b ∷ bs) ≡ true
stands_head b bs = ap (λ t. t || stands (b.0 + 1) bs) (eq-eqb (b.0 + 1) (b.0 + 1) refl)

pub stands_later : (n : ℕ) (b : BundleNo) (bs : List BundleNo) → stands n bs ≡ true → stands n (b ∷ bs) ≡ true
stands_later n b bs is = right (eqb (b.0 + 1) n) is

other_than : (n : ℕ) (bs : List BundleNo) (x : ℕ) → has n bs ≡ false → has x bs ≡ true → x ≡ n → ⊥
other_than n bs x none is same = false≢true (sym none ∙ ap (λ k. has k bs) (sym same) ∙ is)

pub apart_two : (n : ℕ) (bs : List BundleNo) (x : ℕ) → stands n bs ≡ false → stands x bs ≡ true → x ≡ n → ⊥
apart_two n bs x none is same = false≢true (sym none ∙ ap (λ k. stands k bs) (sym same) ∙ is)

-- lists without repeats, cut
pub once_cut : (l s : List BundleNo) → no_repeats (l ++ s) ≡ true → (no_repeats l ≡ true) × (no_repeats s ≡ true) × ((x : ℕ) → stands x l ≡ true → stands x s ≡ false)
once_cut [] s once = (refl, once, λ x is. absurd (false≢true is))
once_cut (b ∷ l) s once =
    let parts = and_parts (not (has b.0 (l ++ s))) (no_repeats (l ++ s)) once in
    let rest = once_cut l s parts.1 in
    let none : (has b.0 l || has b.0 s) ≡ false = sym (list_any-append (λ c. eqb c.0 b.0) l s) ∙ not-true (has b.0 (l ++ s)) parts.0 in (
      both (first (has b.0 l) (has b.0 s) none) rest.0,
      rest.1,
      λ x is. elim (or_cases (eqb (b.0 + 1) x) (stands x l) is) [
        | inl here ↦ subst (λ n. stands n s ≡ false) (eqb-true (b.0 + 1) x here) (stands_at b.0 s ∙ second (has b.0 l) (has b.0 s) none)
        | inr later ↦ rest.2 x later
      ],
    )
  where
    first : (s t : Bool) → (s || t) ≡ false → s ≡ false
    first true t is = is
    first false t is = refl

    second : (s t : Bool) → (s || t) ≡ false → t ≡ false
    second true t is = absurd (false≢true (sym is))
    second false t is = is

    both : {s t : Bool} → s ≡ false → t ≡ true → (not s && t) ≡ true
    both {s} {t} a b = ap (λ u. not u && t) a ∙ b

-- a bundle that is there, with what stands before it and behind it
pub place_in : (b : BundleNo) (bs : List BundleNo) → has b.0 bs ≡ true → (l : List BundleNo) × ((r : List BundleNo) × (bs ≡ l ++ b ∷ r))
place_in b [] is = absurd (false≢true is)
place_in b (c ∷ bs) is = elim (or_cases (eqb c.0 b.0) (has b.0 bs) is) [
  | inl here ↦ ([], (bs, ap (λ d. d ∷ bs) (same_bundle c b here)))
  | inr later ↦ let found = place_in b bs later in (c ∷ found.0, (found.1.0, ap (λ (t : List BundleNo). c ∷ t) found.1.1))
]

without_all : (b : BundleNo) (bs : List BundleNo) → has b.0 bs ≡ false → filter (λ c. not (eqb c.0 b.0)) bs ≡ bs
without_all b [] none = refl
without_all b (c ∷ bs) none = by (eqb c.0 b.0) none (without_all b bs)
  where
    by : (t : Bool) → (t || has b.0 bs) ≡ false → (has b.0 bs ≡ false → filter (λ c. not (eqb c.0 b.0)) bs ≡ bs) → cond (not t) (c ∷ filter (λ c. not (eqb c.0 b.0)) bs) (filter (λ c. not (eqb c.0 b.0)) bs) ≡ c ∷ bs
    by true given rest = absurd (false≢true (sym given))
    by false given rest = ap (λ (t : List BundleNo). c ∷ t) (rest given)

pub without : (b : BundleNo) (l r : List BundleNo) → no_repeats (l ++ b ∷ r) ≡ true → filter (λ c. not (eqb c.0 b.0)) (l ++ b ∷ r) ≡ l ++ r
without b [] r once =
    let parts = and_parts (not (has b.0 r)) (no_repeats r) once in
    ap (λ t. cond (not t) (b ∷ filter (λ c. not (eqb c.0 b.0)) r) (filter (λ c. not (eqb c.0 b.0)) r)) (eq-eqb b.0 b.0 refl) ∙ without_all b r (not-true (has b.0 r) parts.0)
without b (c ∷ l) r once =
    let parts = and_parts (not (has c.0 (l ++ b ∷ r))) (no_repeats (l ++ b ∷ r)) once in
    let none : has c.0 (l ++ b ∷ r) ≡ false = not-true (has c.0 (l ++ b ∷ r)) parts.0 in
    let there : has b.0 (l ++ b ∷ r) ≡ true = list_any-append (λ d. eqb d.0 b.0) l (b ∷ r) ∙ right (has b.0 l) (has_head b r) in
    let other : eqb c.0 b.0 ≡ false = ne_eqb c.0 b.0 (λ same. other_than c.0 (l ++ b ∷ r) b.0 none there (sym same)) in
    ap (λ t. cond (not t) (c ∷ filter (λ d. not (eqb d.0 b.0)) (l ++ b ∷ r)) (filter (λ d. not (eqb d.0 b.0)) (l ++ b ∷ r))) other ∙ ap (λ (t : List BundleNo). c ∷ t) (without b l r parts.1)

pub one_less : (b : BundleNo) (bs : List BundleNo) → no_repeats bs ≡ true → has b.0 bs ≡ true → length (filter (λ c. not (eqb c.0 b.0)) bs) + 1 ≡ length bs
one_less b bs once is =
    let place = place_in b bs is in
    let l = place.0 in
    let r = place.1.0 in
    let cut : no_repeats (l ++ b ∷ r) ≡ true = subst (λ (t : List BundleNo). no_repeats t ≡ true) place.1.1 once in
    let left : filter (λ (c : BundleNo). not (eqb c.0 b.0)) bs ≡ l ++ r = ap (filter (λ (c : BundleNo). not (eqb c.0 b.0))) place.1.1 ∙ without b l r cut in
    omega (arith, ap length left, ap length place.1.1, length-append l r, length-append l (b ∷ r))

pub place_below : (n x : ℕ) (bs : List BundleNo) → are_bundles n bs ≡ true → stands x bs ≡ true → x < n + 1
place_below n x [] all is = absurd (false≢true is)
place_below n x (c ∷ bs) all is =
    let parts = and_parts (ltb c.0 n) (are_bundles n bs) all in
    elim (or_cases (eqb (c.0 + 1) x) (stands x bs) is) [
      | inl here ↦ omega (arith, eqb-true (c.0 + 1) x here, ltb-true c.0 n parts.0)
      | inr later ↦ place_below n x bs parts.1 later
    ]

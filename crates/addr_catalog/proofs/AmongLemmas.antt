-- Numbers among numbers: what filters and ranges have, and that lists turned round have the numbers that they had.
use Rattle.std.proofs.Common.{◌≡◌, ℕ, zero, suc, ◌==◌, ◌+◌, ◌≤◌, ◌<◌, Bool, true, false, ◌&&◌, List, [], ◌∷◌, length, filter, Option, Some, None, inl, inr, refl, sym, ap, ◌∙◌, arith}
use Rattle.std.specs.List.{list_any, filter_map, range_with_len}
use Rattle.std.proofs.lemmas.Bool.{false≢true, and_right, or_cases, or_left, or_right, cases_lt, eq-eqb, eqb-true}
use Rattle.addr_catalog.specs.Inverted.{is_among, list_at, first_with, lists_with}
use Rattle.addr_catalog.proofs.InvertedLemmas.{has}

pub both_imply : (a b : Bool) → (a ≡ true → b ≡ true) → (b ≡ true → a ≡ true) → a ≡ b
both_imply true true up down = refl
both_imply true false up down = sym (up refl)
both_imply false true up down = down refl
both_imply false false up down = refl

-- ---- what is among some numbers

pub any_found : (p : ℕ → Bool) (ns : List ℕ) (k : ℕ) → is_among ns k ≡ true → p k ≡ true → list_any p ns ≡ true
any_found p [] k there passes = absurd (false≢true there)
any_found p (n ∷ ns) k there passes = elim (or_cases (n == k) (is_among ns k) there) [
  | inl here ↦ or_left (p n) (list_any p ns) (ap p (eqb-true n k here) ∙ passes)
  | inr later ↦ or_right (p n) (list_any p ns) (any_found p ns k later passes)
]

pub found_number : (p : ℕ → Bool) (ns : List ℕ) → list_any p ns ≡ true → (k : ℕ) × (is_among ns k ≡ true) × (p k ≡ true)
found_number p [] there = absurd (false≢true there)
found_number p (n ∷ ns) there = elim (or_cases (p n) (list_any p ns) there) [
  | inl here ↦ (n, or_left (n == n) (is_among ns n) (eq-eqb n n refl), here)
  | inr later ↦ let found = found_number p ns later in (found.0, or_right (n == found.0) (is_among ns found.0) found.1, found.2)
]

pub among_kept : (p : ℕ → Bool) (ns : List ℕ) (k : ℕ) → is_among (filter p ns) k ≡ (is_among ns k && p k)
among_kept p [] k = refl
among_kept p (n ∷ ns) k = by_tests (p n) (n == k) refl refl (among_kept p ns k)
  where
    by_tests : (kept here : Bool) → p n ≡ kept → (n == k) ≡ here → is_among (filter p ns) k ≡ (is_among ns k && p k) → is_among (filter p (n ∷ ns)) k ≡ (is_among (n ∷ ns) k && p k)
    by_tests true true is same rest = let passes : p k ≡ true = ap p (sym (eqb-true n k same)) ∙ is in rw (is, same, passes) refl
    by_tests true false is other rest = rw (is, other) rest
    by_tests false true is same rest = let fails : p k ≡ false = ap p (sym (eqb-true n k same)) ∙ is in rw (is, same) (rest ∙ and_right (is_among ns k) (p k) fails ∙ sym fails)
    by_tests false false is other rest = rw (is, other) rest

-- ---- ranges

pub in_range : (from count k : ℕ) → from ≤ k → k < from + count → is_among (range_with_len from count) k ≡ true
in_range from zero k low high = absurd (omega (arith, low, high))
in_range from (suc count) k low high = elim (cases_lt from k) [
  | inl less ↦ or_right (from == k) (is_among (range_with_len (from + 1) count) k) (in_range (from + 1) count k (omega (arith, less)) (omega (arith, high)))
  | inr past ↦ or_left (from == k) (is_among (range_with_len (from + 1) count) k) (eq-eqb from k (omega (arith, low, past)))
]

-- what fails the test, or gives nothing, is passed over
pass_one : {X : Type 0} (g : ℕ → Option X) (p : ℕ → Bool) (n : ℕ) (ns : List ℕ) → (p n ≡ true → g n ≡ None) → filter_map g (filter p (n ∷ ns)) ≡ filter_map g (filter p ns)
pass_one g p n ns none = by_test (p n) refl
  where
    by_test : (kept : Bool) → p n ≡ kept → filter_map g (filter p (n ∷ ns)) ≡ filter_map g (filter p ns)
    by_test true is = rw (is, none is) refl
    by_test false is = rw is refl

none_in_range : {X : Type 0} (g : ℕ → Option X) (p : ℕ → Bool) (from count : ℕ) → ((m : ℕ) → from ≤ m → p m ≡ true → g m ≡ None) → filter_map g (filter p (range_with_len from count)) ≡ []
none_in_range g p from zero none = refl
none_in_range g p from (suc count) none =
    pass_one g p from (range_with_len (from + 1) count) (none from (omega arith)) ∙ none_in_range g p (from + 1) count (λ m low. none m (omega (arith, low)))

-- where one number of a range alone gives something, that is what is found
pub lone_in_range : {X : Type 0} (g : ℕ → Option X) (p : ℕ → Bool) (b : ℕ) (x : X) (from count : ℕ) → ((m : ℕ) → (m ≡ b → ⊥) → p m ≡ true → g m ≡ None) → p b ≡ true → g b ≡ Some x → from ≤ b → b < from + count → filter_map g (filter p (range_with_len from count)) ≡ x ∷ []
lone_in_range g p b x from zero others passes gives low high = absurd (omega (arith, low, high))
lone_in_range g p b x from (suc count) others passes gives low high = elim (cases_lt from b) [
  | inl less ↦ pass_one g p from (range_with_len (from + 1) count) (others from (λ e. omega (arith, e, less))) ∙ lone_in_range g p b x (from + 1) count others passes gives (omega (arith, less)) (omega (arith, high))
  | inr past ↦
      let same : from ≡ b = omega (arith, low, past) in
      let kept : p from ≡ true = ap p same ∙ passes in
      let found : g from ≡ Some x = ap g same ∙ gives in
      let rest = none_in_range g p (from + 1) count (λ m more. others m (λ e. omega (arith, e, more, past))) in
      rw (kept, found, rest) refl
]

-- ---- lists turned round

pub turned : (lists : List (List ℕ)) (k n : ℕ) → n < length lists → is_among (lists_with lists k) n ≡ is_among (list_at lists n) k
unfolding first_with
turned lists k n within = among_kept (has lists k) (range_with_len 0 (length lists)) n ∙ ap (λ b. b && is_among (list_at lists n) k) (in_range 0 (length lists) n (omega arith) (omega (arith, within)))

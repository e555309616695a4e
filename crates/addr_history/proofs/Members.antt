-- Lists of different bundles below a number: they are no longer than that number, and are counted among all bundles.
use Rattle.std.proofs.Common.{◌≡◌, inl, inr, ℕ, ◌+◌, ◌≤◌, ◌<◌, Bool, true, false, ◌&&◌, ◌||◌, not, eqb, ltb, List, [], ◌∷◌, length, refl, sym, ◌∙◌, ap, subst, arith}
use Rattle.std.proofs.lemmas.Bool.{false≢true, and_parts, or_cases, eqb-true, ltb-true, lt-ltb, not-true}
use Rattle.std.proofs.lemmas.List.{length-map}
use Rattle.std.proofs.lemmas.List.FromFn.{length-range_with_len}
use Rattle.std.proofs.lemmas.List.Sums.{count_by-le-length}
use Rattle.std.specs.List.{list_any, count_by, range_with_len}
use Rattle.addr_base.specs.declared.ids.BundleNo.{BundleNo}
use Rattle.addr_locate.specs.Rows.{no_repeats, are_bundles}
use Rattle.addr_history.specs.Events.{is_in}
use Rattle.addr_history.proofs.Points.{and-true}
use Rattle.addr_history.proofs.Counting.{one_if, count-cons, count_same}
use Rattle.addr_history.proofs.Ranges.{same_bundle}
use Rattle.addr_history.proofs.Owed.{numbers, count_ge2, count_in_range, count_chosen}

pub below_at : (n x : ℕ) (bs : List BundleNo) → are_bundles n bs ≡ true → list_any (λ c. eqb c.0 x) bs ≡ true → x < n
below_at n x [] all is = absurd (false≢true is)
below_at n x (c ∷ bs) all is =
    let parts = and_parts (ltb c.0 n) (are_bundles n bs) all in
    elim (or_cases (eqb c.0 x) (list_any (λ d. eqb d.0 x) bs) is) [
      | inl here ↦ subst (λ m. m < n) (eqb-true c.0 x here) (ltb-true c.0 n parts.0)
      | inr later ↦ below_at n x bs parts.1 later
    ]

at_least : (n : ℕ) (bs : List BundleNo) → are_bundles n bs ≡ true → no_repeats bs ≡ true → length bs ≤ count_by (λ c. is_in c bs) (numbers 0 n)
at_least n [] all once = omega arith
at_least n (b ∷ bs) all once =
    let below = and_parts (ltb b.0 n) (are_bundles n bs) all in
    let apart = and_parts (not (is_in b bs)) (no_repeats bs) once in
    omega (arith, at_least n bs below.1 apart.1, count_in_range b n 0 (omega arith) (omega (arith, ltb-true b.0 n below.0)), count_ge2 (λ c. eqb b.0 c.0) (λ c. is_in c bs) (λ c. is_in c (b ∷ bs)) (one (not-true (is_in b bs) apart.0)) (numbers 0 n))
  where
    by : (s t : Bool) → (s ≡ true → t ≡ false) → one_if s + one_if t ≤ one_if (s || t)
    by true true apart = absurd (false≢true (sym (apart refl)))
    by true false apart = omega arith
    by false t apart = omega arith

    one : is_in b bs ≡ false → (c : BundleNo) → one_if (eqb b.0 c.0) + one_if (is_in c bs) ≤ one_if (is_in c (b ∷ bs))
    one apart c = by (eqb b.0 c.0) (is_in c bs) (λ same. ap (λ d. is_in d bs) (sym (same_bundle b c same)) ∙ apart)

-- no more different bundles below a number than the number says
pub few_below : (n : ℕ) (bs : List BundleNo) → are_bundles n bs ≡ true → no_repeats bs ≡ true → length bs ≤ n
few_below n bs all once =
    omega (arith, at_least n bs all once, count_by-le-length (λ c. is_in c bs) (numbers 0 n), length-map (range_with_len 0 n) (λ k. let r : BundleNo = record { 0 = k } in r), length-range_with_len 0 n)

-- and one more that is different fits too
pub near_all : (n : ℕ) (bs : List BundleNo) (b : BundleNo) → are_bundles n bs ≡ true → no_repeats bs ≡ true → b.0 < n → is_in b bs ≡ false → length bs + 1 ≤ n
near_all n bs b all once lt new =
    let below : are_bundles n (b ∷ bs) ≡ true = ap (λ t. t && are_bundles n bs) (lt-ltb b.0 n lt) ∙ all in
    let apart : no_repeats (b ∷ bs) ≡ true = ap (λ t. not t && no_repeats bs) new ∙ once in
    omega (arith, few_below n (b ∷ bs) below apart)

all_count : (bs : List BundleNo) → count_by (λ c. true) bs ≡ length bs
all_count [] = refl
all_count (b ∷ bs) = omega (arith, all_count bs, count-cons (λ (c : BundleNo). true) b bs)

-- as many of all bundles stand in the list as it is long
pub members : (n : ℕ) (bs : List BundleNo) → are_bundles n bs ≡ true → no_repeats bs ≡ true → count_by (λ c. is_in c bs) (numbers 0 n) ≡ length bs
members n bs all once =
    omega (arith, at_least n bs all once, count_chosen (λ c. true) bs n 0, all_count bs, count_same (λ c. is_in c bs && true) (λ c. is_in c bs) (λ c. and-true (is_in c bs)) (numbers 0 n))

-- A text is cut at its first mark in one way.
use Rattle.std.proofs.Common.{◌≡◌, ◌==◌, ◌<◌, ◌+◌, ℕ, List, [], ◌∷◌, ◌++◌, Bool, true, false, refl, arith, length, take, drop, nat_lt, not, get_or, Some, None, position, ◌-◌, ap, sym, ◌∙◌}
use Rattle.std.proofs.lemmas.Bool.Decides.{nat_tests}
use Rattle.std.proofs.lemmas.Bool.{eqb-true}
use Rattle.std.proofs.lemmas.List.Sums.{split_at_first, passes_at_first, take_while-cons}
use Rattle.std.proofs.lemmas.List.{take_all, take_rest}
use Rattle.std.specs.List.{position_or_len, before_first, after_first}
use Rattle.addr_fields.specs.Fields.{has_byte, IsCut}

pub has_mark : (mark : ℕ) (before after : List ℕ) → has_byte mark (before ++ mark ∷ after) ≡ true
has_mark mark [] after = grind (arith, nat_tests)
has_mark mark (b ∷ before) after = let rest = has_mark mark before after in grind (arith, nat_tests, rest)

pub same_cut : (mark : ℕ) (a r b s : List ℕ) → has_byte mark a ≡ false → has_byte mark b ≡ false → a ++ mark ∷ r ≡ b ++ mark ∷ s → (a ≡ b) × (r ≡ s)
same_cut mark [] r [] s fa fb e = (refl, cc)
same_cut mark [] r (y ∷ b) s fa fb e = let same : y ≡ mark = cc in absurd (grind (arith, nat_tests))
same_cut mark (x ∷ a) r [] s fa fb e = let same : x ≡ mark = cc in absurd (grind (arith, nat_tests))
same_cut mark (x ∷ a) r (y ∷ b) s fa fb e =
    let rest_a : has_byte mark a ≡ false = grind (arith, nat_tests) in
    let rest_b : has_byte mark b ≡ false = grind (arith, nat_tests) in
    let rest : a ++ mark ∷ r ≡ b ++ mark ∷ s = cc in
    let same = same_cut mark a r b s rest_a rest_b rest in
    let head : x ≡ y = cc in (cc (same.0, head), same.1)

-- no byte before the first mark is the mark
pub before_is_free : (mark : ℕ) (xs : List ℕ) → has_byte mark (before_first (λ b. b == mark) xs) ≡ false
before_is_free mark [] = refl
before_is_free mark (x ∷ xs) = by_test (x == mark) refl (before_is_free mark xs) where
  by_test : (t : Bool) → (x == mark) ≡ t → has_byte mark (before_first (λ b. b == mark) xs) ≡ false → has_byte mark (before_first (λ b. b == mark) (x ∷ xs)) ≡ false
  by_test true e rest = rw (take_while-cons (λ b. not (b == mark)) x xs) (rw e refl)
  by_test false e rest = rw (take_while-cons (λ b. not (b == mark)) x xs) (rw e (rw e rest))

pub cut_there : (mark : ℕ) (xs : List ℕ) → position_or_len (λ b. b == mark) xs < length xs → IsCut mark xs (before_first (λ b. b == mark) xs) (after_first (λ b. b == mark) xs)
cut_there mark xs short =
    let at_mark : get_or xs (position_or_len (λ b. b == mark) xs) 0 ≡ mark = eqb-true _ _ (passes_at_first (λ b. b == mark) xs 0 short) in
    let whole = split_at_first (λ b. b == mark) xs 0 short in
    record { whole = whole ∙ ap (λ m. before_first (λ b. b == mark) xs ++ m ∷ after_first (λ b. b == mark) xs) at_mark; first = before_is_free mark xs }

pub cut_at_place : (mark : ℕ) (xs : List ℕ) (at : ℕ) → position (λ b. b == mark) xs ≡ Some at → IsCut mark xs (take at xs) (take (length xs - (at + 1)) (drop (at + 1) xs))
cut_at_place mark xs at found = by_test (nat_lt (position_or_len (λ b. b == mark) xs) (length xs)) refl where
  by_test : (t : Bool) → nat_lt (position_or_len (λ b. b == mark) xs) (length xs) ≡ t → IsCut mark xs (take at xs) (take (length xs - (at + 1)) (drop (at + 1) xs))
  by_test true e =
      let same : Some (position_or_len (λ b. b == mark) xs) ≡ Some at = rw e at found in
      let place : position_or_len (λ b. b == mark) xs ≡ at = cc in
      rw (take_rest xs (at + 1)) (rw place at (cut_there mark xs (grind (arith, nat_tests, e))))
  by_test false e = let same : None ≡ Some at = rw e at found in cc

pub no_place : (mark : ℕ) (xs : List ℕ) → position (λ b. b == mark) xs ≡ None → has_byte mark xs ≡ false
no_place mark xs none = by_test (nat_lt (position_or_len (λ b. b == mark) xs) (length xs)) refl where
  by_test : (t : Bool) → nat_lt (position_or_len (λ b. b == mark) xs) (length xs) ≡ t → has_byte mark xs ≡ false
  by_test true e = let same : Some (position_or_len (λ b. b == mark) xs) ≡ None = rw e at none in cc
  by_test false e =
      let all : take (position_or_len (λ b. b == mark) xs) xs ≡ xs = take_all _ xs (grind (arith, nat_tests, e)) in
      ap (has_byte mark) (sym all) ∙ before_is_free mark xs

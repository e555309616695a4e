-- Where the first element stands that passes a test, and that none passes.
use Rattle.std.proofs.Common.{◌≡◌, suc, ◌+◌, ◌<◌, ◌≤◌, Bool, true, false, ◌||◌, not, cond, ltb, List, [], ◌∷◌, length, Some, None, refl, sym, arith}
use Rattle.std.specs.List.{AllByRecursion, list_any, position, position_or_len}
use Rattle.std.proofs.lemmas.Bool.{ltb-false, cond_above}
use Rattle.std.proofs.lemmas.List.Elements.{recursion_from_All}
use Rattle.std.proofs.lemmas.List.Sums.{fails_before_first}

past_all : {X : Type 0} (p : X → Bool) (xs : List X) → AllByRecursion (λ x. p x ≡ false) xs → position_or_len p xs ≡ length xs
past_all p [] h = refl
past_all p (x ∷ xs) h = rw (h.0) (omega (arith, past_all p xs h.1))

-- a test that fails at each element passes at no place
pub none_passes : {X : Type 0} (p : X → Bool) (xs : List X) → AllByRecursion (λ x. p x ≡ false) xs → position p xs ≡ None
none_passes p xs h = sym (cond_above (position_or_len p xs) (length xs) (Some (position_or_len p xs)) None None (omega (arith, past_all p xs h)) refl)

none_is : {A : Type 0} (t : Bool) (x : A) → cond t (Some x) None ≡ None → t ≡ false
none_is true x e = absurd cc
none_is false x e = refl

pub all_fail : {X : Type 0} (p : X → Bool) (xs : List X) → position p xs ≡ None → AllByRecursion (λ x. p x ≡ false) xs
all_fail p xs e =
    let past : length xs ≤ position_or_len p xs = ltb-false _ _ (none_is (ltb (position_or_len p xs) (length xs)) (position_or_len p xs) e) in
    recursion_from_All (λ x. p x ≡ false) xs (λ k d lt. fails_before_first p xs k d (omega (arith, past, lt)))

-- where some element passes, the first one has a place
pub first_inside : {X : Type 0} (p : X → Bool) (xs : List X) → list_any p xs ≡ true → position_or_len p xs < length xs
first_inside p [] some = absurd cc
first_inside {X} p (x ∷ xs) some =
    elim (p x) as (λ t. (t || list_any p xs) ≡ true → cond (not t) (1 + position_or_len p xs) 0 < suc (length xs)) [
      | true ↦ λ e. omega arith
      | false ↦ λ e. let more = first_inside p xs e in omega (arith, more)
    ] some

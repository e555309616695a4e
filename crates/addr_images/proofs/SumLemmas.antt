-- Sums over numbers without repeats are at most the sum over all numbers below a bound.
use Rattle.std.proofs.Common.{◌≡◌, ◌<◌, ◌≤◌, ◌+◌, ℕ, zero, suc, Bool, true, false, not, cond, eqb, List, [], ◌∷◌, ◌++◌, length, get_or, take, sum_by, refl, sym, ap, subst, ◌∙◌, arith}
use Rattle.std.proofs.lemmas.Bool.{eqb-true, eq-eqb, false≢true}
use Rattle.std.proofs.lemmas.List.{take_more, take_all}
use Rattle.std.proofs.lemmas.List.Sums.{sum_by-cons, sum_by_push}
use Rattle.std.specs.List.{Contains, filter}
use Rattle.addr_walks.specs.Once.{AreOnce}
use Rattle.addr_walks.proofs.Lists.{Contains-here, Contains-later, filter-Contains, slice_get-Contains}

-- the weights of all numbers below a bound together
abbrev pub below : (ℕ → ℕ) → ℕ → ℕ
below w zero = 0
below w (suc n) = below w n + w n

-- no number stands again behind itself
abbrev Apart : List ℕ → Type 0
Apart [] = Unit {0}
Apart (m ∷ ms) = (Contains ms m → ⊥) × Apart ms

apart : (ns : List ℕ) → AreOnce ns → Apart ns
apart [] once = tt
apart (m ∷ ms) once = (
  λ again. (let at = slice_get-Contains ms m again in let same = once 0 (suc at.0) m refl at.1 in omega (arith, same)),
  apart ms (λ i j x here there. (let same = once (suc i) (suc j) x here there in omega (arith, same))),
)

abbrev is_not : ℕ → ℕ → Bool
is_not n m = not (eqb m n)

filter-all : (p : ℕ → Bool) (ms : List ℕ) → ((m : ℕ) → Contains ms m → p m ≡ true) → filter p ms ≡ ms
filter-all p [] each = refl
filter-all p (m ∷ ms) each = by_test (p m) (each m (Contains-here m ms)) (filter-all p ms (λ x here. each x (Contains-later m ms x here)))
  where
    by_test : (t : Bool) → t ≡ true → filter p ms ≡ ms → cond t (m ∷ filter p ms) (filter p ms) ≡ m ∷ ms
    by_test true is more = ap (λ xs. m ∷ xs) more
    by_test false is more = absurd (false≢true is)

filter-apart : (p : ℕ → Bool) (ms : List ℕ) → Apart ms → Apart (filter p ms)
filter-apart p [] ap' = tt
filter-apart p (m ∷ ms) ap' = by_test (p m) (filter-apart p ms ap'.1)
  where
    by_test : (t : Bool) → Apart (filter p ms) → Apart (cond t (m ∷ filter p ms) (filter p ms))
    by_test true more = ((λ again. ap'.0 (filter-Contains p ms m again).0), more)
    by_test false more = more

not-same : (n m : ℕ) → (m ≡ n → ⊥) → is_not n m ≡ true
not-same n m other = by_test (eqb m n) refl
  where
    by_test : (t : Bool) → eqb m n ≡ t → not t ≡ true
    by_test true is = absurd (other (eqb-true m n is))
    by_test false is = refl

is-other : (n m : ℕ) → is_not n m ≡ true → m ≡ n → ⊥
is-other n m passes same = false≢true (sym (ap not (eq-eqb m n same)) ∙ passes)

is-head : (n m : ℕ) → is_not n m ≡ false → m ≡ n
is-head n m fails = by_eq (eqb m n) refl fails
  where
    by_eq : (t : Bool) → eqb m n ≡ t → not t ≡ false → m ≡ n
    by_eq true is ends = eqb-true m n is
    by_eq false is ends = absurd (false≢true (sym ends))

one-less : (w : ℕ → ℕ) (n : ℕ) (ms : List ℕ) → Apart ms → sum_by w ms ≤ sum_by w (filter (is_not n) ms) + w n
one-less w n [] ap' = omega arith
one-less w n (m ∷ ms) ap' = by_test (is_not n m) refl (one-less w n ms ap'.1)
  where
    rest : is_not n m ≡ false → filter (is_not n) ms ≡ ms
    rest fails = filter-all (is_not n) ms (λ x here. not-same n x (λ same. ap'.0 (subst (Contains ms) (same ∙ sym (is-head n m fails)) here)))

    by_test : (t : Bool) → is_not n m ≡ t → sum_by w ms ≤ sum_by w (filter (is_not n) ms) + w n → sum_by w (m ∷ ms) ≤ sum_by w (cond t (m ∷ filter (is_not n) ms) (filter (is_not n) ms)) + w n
    by_test true is more = let a = sum_by-cons w m ms in let b = sum_by-cons w m (filter (is_not n) ms) in omega (arith, a, b, more)
    by_test false is more =
        let a = sum_by-cons w m ms in
        let same = ap (sum_by w) (rest is) in
        let head = is-head n m is in
        let weight = ap w head in
        omega (arith, a, same, weight)

sum-apart : (w : ℕ → ℕ) (n : ℕ) (ms : List ℕ) → Apart ms → ((m : ℕ) → Contains ms m → m < n) → sum_by w ms ≤ below w n
sum-apart w zero [] ap' under = omega arith
sum-apart w zero (m ∷ ms) ap' under = absurd (let less = under m (Contains-here m ms) in omega (arith, less))
sum-apart w (suc n) ms ap' under =
    let less = one-less w n ms ap' in
    let more = sum-apart w n (filter (is_not n) ms) (filter-apart (is_not n) ms ap') (λ m here. (let from = filter-Contains (is_not n) ms m here in let below' = under m from.0 in let other = is-other n m from.1 in smaller m n below' other)) in
    omega (arith, less, more)
  where
    smaller : (m n : ℕ) → m < suc n → (m ≡ n → ⊥) → m < n
    smaller m n less other = omega (arith, less, other)

below-take : {X : Type 0} (f : X → ℕ) (d : X) (xs : List X) (k : ℕ) → k ≤ length xs → below (λ m. f (get_or xs m d)) k ≡ sum_by f (take k xs)
below-take f d xs zero le = refl
below-take f d xs (suc k) le =
    let more = below-take f d xs k (omega (arith, le)) in
    let next : k < length xs = omega (arith, le) in
    let step = take_more xs k d next in
    let push = sum_by_push f (take k xs) (get_or xs k d) in
    let same : sum_by f (take (suc k) xs) ≡ sum_by f (take k xs ++ get_or xs k d ∷ []) = ap (sum_by f) (ap (λ n. take n xs) (suc-plus k) ∙ step) in
    omega (arith, more, push, same)
  where
    suc-plus : (n : ℕ) → suc n ≡ n + 1
    suc-plus n = omega arith

-- what stands at numbers without repeats weighs at most what the list does
pub sum-once : {X : Type 0} (f : X → ℕ) (d : X) (xs : List X) (ns : List ℕ) → AreOnce ns → ((n : ℕ) → Contains ns n → n < length xs) → sum_by (λ n. f (get_or xs n d)) ns ≤ sum_by f xs
sum-once f d xs ns once under =
    let most = sum-apart (λ n. f (get_or xs n d)) (length xs) ns (apart ns once) under in
    let whole = below-take f d xs (length xs) (omega arith) in
    let all = ap (sum_by f) (take_all (length xs) xs (omega arith)) in
    omega (arith, most, whole, all)

-- numbers without repeats are at most as many as there are below their bound
pub few-once : (n : ℕ) (ns : List ℕ) → AreOnce ns → ((m : ℕ) → Contains ns m → m < n) → length ns ≤ n
few-once n ns once under = let most = sum-apart (λ m. 1) n ns (apart ns once) under in let ones = below-ones n in let counted = sum-ones ns in omega (arith, most, ones, counted)
  where
    below-ones : (k : ℕ) → below (λ m. 1) k ≡ k
    below-ones zero = refl
    below-ones (suc k) = let more = below-ones k in omega (arith, more)

    sum-ones : (ms : List ℕ) → sum_by (λ m. 1) ms ≡ length ms
    sum-ones [] = refl
    sum-ones (m ∷ ms) = let more = sum-ones ms in let cons = sum_by-cons (λ (x : ℕ). 1) m ms in omega (arith, more, cons)

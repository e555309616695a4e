-- Keys in ascending order of their numbers: a sort gives that one list, which has the same keys, none twice where none was.
use Rattle.std.proofs.Common.{◌≡◌, ℕ, zero, suc, ◌<◌, ◌≤◌, ◌&&◌, ◌||◌, not, nat_le, Bool, true, false, cond, List, [], ◌∷◌, length, get_or, filter, map, nat_cmp, is_lt, refl, sym, ap, ◌∙◌, arith, inl, inr, suc-le-suc, zero-le}
use Rattle.std.proofs.lemmas.Bool.{cond-true, cond-false, cases_Bool}
use Rattle.std.proofs.lemmas.Bool.Decides.{nat_tests}
use Rattle.std.proofs.lemmas.List.Sorted.{IsPermutation-refl, IsPermutation-cons, IsPermutation-trans, IsPermutation-sym, IsPermutation-middle, IsPermutation-map, list_any-IsPermutation}
use Rattle.std.specs.List.{list_any}
use Rattle.std.specs.List.Sorted.{ties, IsNonDecreasingBy, IsStableByKey, IsPermutation}
use Rattle.std.specs.Str.{bytes_eq}
use Rattle.addr_base.specs.declared.ids.KeyNo.{KeyNo}
use Rattle.addr_locate.specs.PlainText.{put_in_order, in_order, primary_first}
use Rattle.addr_locate.specs.Rows.{no_text_twice}
use Rattle.addr_locate.proofs.NumberLemmas.{bytes_eq-sym}

-- keys of one number
abbrev same_number : KeyNo → KeyNo → Bool
same_number = ties (λ x y. is_lt (nat_cmp x.0 y.0))

ties_at : (m n : ℕ) → (ties (λ x y. is_lt (nat_cmp x y)) m n ≡ true → m ≡ n) × (m ≡ n → ties (λ x y. is_lt (nat_cmp x y)) m n ≡ true)
ties_at m n = (λ h. grind (arith, nat_tests), λ h. grind (arith, nat_tests))

same_number-true : (x y : KeyNo) → same_number x y ≡ true → x.0 ≡ y.0
same_number-true x y = (ties_at x.0 y.0).0

same_number_from : (x y : KeyNo) → x.0 ≡ y.0 → same_number x y ≡ true
same_number_from x y = (ties_at x.0 y.0).1

filter-kept : (p : KeyNo → Bool) (y : KeyNo) (ys : List KeyNo) → p y ≡ true → filter p (y ∷ ys) ≡ y ∷ filter p ys
filter-kept p y ys h = cond-true _ _ _ h

filter-dropped : (p : KeyNo → Bool) (y : KeyNo) (ys : List KeyNo) → p y ≡ false → filter p (y ∷ ys) ≡ filter p ys
filter-dropped p y ys h = cond-false _ _ _ h

-- putting a key in its place keeps the order of keys of one number
filter-put : (x k : KeyNo) (ls : List KeyNo) → filter (same_number x) (put_in_order k ls) ≡ filter (same_number x) (k ∷ ls)
filter-put x k [] = refl
filter-put x k (l ∷ ls) = by_test (nat_le k.0 l.0) refl (filter-put x k ls)
  where
    p : KeyNo → Bool
    p = same_number x

    by_test : (t : Bool) → nat_le k.0 l.0 ≡ t → filter (same_number x) (put_in_order k ls) ≡ filter (same_number x) (k ∷ ls) → filter (same_number x) (put_in_order k (l ∷ ls)) ≡ filter (same_number x) (k ∷ l ∷ ls)
    by_test true e rest = rw e refl
    by_test false e rest =
        rw e (elim (cases_Bool (p l)) [
          | inr without ↦ filter-dropped p l (put_in_order k ls) without ∙ rest ∙ ap (λ kept. cond (p k) (k ∷ kept) kept) (sym (filter-dropped p l ls without))
          | inl with ↦
              elim (cases_Bool (p k)) [
                | inl both ↦ let one : k.0 ≡ l.0 = sym (same_number-true x k both) ∙ same_number-true x l with in absurd (grind (arith, nat_tests, e, one))
                | inr only ↦ filter-kept p l (put_in_order k ls) with ∙ ap (λ kept. l ∷ kept) (rest ∙ filter-dropped p k ls only) ∙ sym (filter-dropped p k (l ∷ ls) only ∙ filter-kept p l ls with)
              ]
        ])

filter-in_order : (x : KeyNo) (ks : List KeyNo) → filter (same_number x) (in_order ks) ≡ filter (same_number x) ks
filter-in_order x [] = refl
filter-in_order x (k ∷ ks) = filter-put x k (in_order ks) ∙ ap (λ l. cond (same_number x k) (k ∷ l) l) (filter-in_order x ks)

-- keys whose numbers don't fall
abbrev AreAtLeast : ℕ → List KeyNo → Type 0
AreAtLeast n [] = Unit {0}
AreAtLeast n (y ∷ ys) = (n ≤ y.0) × AreAtLeast n ys

abbrev Rises : List KeyNo → Type 0
Rises [] = Unit {0}
Rises (y ∷ ys) = AreAtLeast y.0 ys × Rises ys

AreAtLeast-le : (n m : ℕ) (ys : List KeyNo) → n ≤ m → AreAtLeast m ys → AreAtLeast n ys
AreAtLeast-le n m [] le h = tt
AreAtLeast-le n m (y ∷ ys) le h = let first = h.0 in (omega arith, AreAtLeast-le n m ys le h.1)

AreAtLeast-at : (n : ℕ) (ys : List KeyNo) (d : KeyNo) → ((j : ℕ) → j < length ys → n ≤ (get_or ys j d).0) → AreAtLeast n ys
AreAtLeast-at n [] d h = tt
AreAtLeast-at n (y ∷ ys) d h = (h zero (suc-le-suc zero-le), AreAtLeast-at n ys d (λ j lt. h (suc j) (suc-le-suc lt)))

Rises-from_sort : (ys : List KeyNo) → IsNonDecreasingBy (λ k. k.0) ys → Rises ys
Rises-from_sort [] h = tt
Rises-from_sort (y ∷ ys) h = (
  AreAtLeast-at y.0 ys y (λ j lt. h zero (suc j) y zero-le (suc-le-suc lt)),
  Rises-from_sort ys (λ i j d le lt. h (suc i) (suc j) d (suc-le-suc le) (suc-le-suc lt)),
)

AreAtLeast-put : (n : ℕ) (k : KeyNo) (ls : List KeyNo) → n ≤ k.0 → AreAtLeast n ls → AreAtLeast n (put_in_order k ls)
AreAtLeast-put n k [] le h = (le, tt)
AreAtLeast-put n k (l ∷ ls) le h = by_test (nat_le k.0 l.0) refl (AreAtLeast-put n k ls le h.1)
  where
    by_test : (t : Bool) → nat_le k.0 l.0 ≡ t → AreAtLeast n (put_in_order k ls) → AreAtLeast n (put_in_order k (l ∷ ls))
    by_test true e rest = rw e (le, h)
    by_test false e rest = rw e (h.0, rest)

Rises-put : (k : KeyNo) (ls : List KeyNo) → Rises ls → Rises (put_in_order k ls)
Rises-put k [] h = (tt, tt)
Rises-put k (l ∷ ls) h = by_test (nat_le k.0 l.0) refl (Rises-put k ls h.1)
  where
    by_test : (t : Bool) → nat_le k.0 l.0 ≡ t → Rises (put_in_order k ls) → Rises (put_in_order k (l ∷ ls))
    by_test true e rest =
        let le : k.0 ≤ l.0 = grind (arith, nat_tests, e) in
        rw e ((le, AreAtLeast-le k.0 l.0 ls le h.0), h)
    by_test false e rest =
        let le : l.0 ≤ k.0 = grind (arith, nat_tests, e) in
        rw e (AreAtLeast-put l.0 k ls le h.0, rest)

Rises-in_order : (ks : List KeyNo) → Rises (in_order ks)
Rises-in_order [] = tt
Rises-in_order (k ∷ ks) = Rises-put k (in_order ks) (Rises-in_order ks)

AreAtLeast-found : (n : ℕ) (x : KeyNo) (ys : List KeyNo) (w : KeyNo) (ws : List KeyNo) → AreAtLeast n ys → filter (same_number x) ys ≡ w ∷ ws → n ≤ x.0
AreAtLeast-found n x [] w ws h e = cc
AreAtLeast-found n x (y ∷ ys) w ws h e =
    elim (cases_Bool (same_number x y)) [
      | inl with ↦ omega (arith, h.0, same_number-true x y with)
      | inr without ↦ AreAtLeast-found n x ys w ws h.1 (sym (filter-dropped (same_number x) y ys without) ∙ e)
    ]

-- two such lists with the same keys of each number are one
same_from_numbers : (ys zs : List KeyNo) → Rises ys → Rises zs → ((x : KeyNo) → filter (same_number x) ys ≡ filter (same_number x) zs) → ys ≡ zs
same_from_numbers [] [] left right same = refl
same_from_numbers [] (z ∷ zs) left right same =
    let clash = same z ∙ filter-kept (same_number z) z zs (same_number_from z z refl) in cc
same_from_numbers (y ∷ ys) [] left right same =
    let clash = sym (same y) ∙ filter-kept (same_number y) y ys (same_number_from y y refl) in cc
same_from_numbers (y ∷ ys) (z ∷ zs) left right same =
    let at_y = filter-kept (same_number y) y ys (same_number_from y y refl) in
    let at_z = filter-kept (same_number z) z zs (same_number_from z z refl) in
    let up = AreAtLeast-found z.0 y (z ∷ zs) y _ (omega arith, right.0) (sym (same y) ∙ at_y) in
    let down = AreAtLeast-found y.0 z (y ∷ ys) z _ (omega arith, left.0) (same z ∙ at_z) in
    let heads = sym at_y ∙ same y ∙ filter-kept (same_number y) z zs (same_number_from y z (omega arith)) in
    let head : y ≡ z = cc in
    let tails : (x : KeyNo) → filter (same_number x) ys ≡ filter (same_number x) zs =
    λ x. elim (cases_Bool (same_number x y)) [
      | inl with ↦
          let both = sym (filter-kept (same_number x) y ys with) ∙ same x ∙ filter-kept (same_number x) z zs (ap (same_number x) (sym head) ∙ with) in cc
      | inr without ↦
          sym (filter-dropped (same_number x) y ys without) ∙ same x ∙ filter-dropped (same_number x) z zs (ap (same_number x) (sym head) ∙ without)
    ] in
    ap (λ w. w ∷ ys) head ∙ ap (λ l. z ∷ l) (same_from_numbers ys zs left.1 right.1 tails)

pub in_order-from_sort : (xs ys : List KeyNo) → IsNonDecreasingBy (λ k. k.0) ys → IsStableByKey (λ k. k.0) nat_cmp xs ys → ys ≡ in_order xs
in_order-from_sort xs ys sorted stable =
    same_from_numbers ys (in_order xs) (Rises-from_sort ys sorted) (Rises-in_order xs) (λ x. stable x ∙ sym (filter-in_order x xs))

-- the same keys
IsPermutation-put : (k : KeyNo) (ls : List KeyNo) → IsPermutation (k ∷ ls) (put_in_order k ls)
IsPermutation-put k [] = IsPermutation-refl (k ∷ [])
IsPermutation-put k (l ∷ ls) = by_test (nat_le k.0 l.0) refl (IsPermutation-put k ls)
  where
    by_test : (t : Bool) → nat_le k.0 l.0 ≡ t → IsPermutation (k ∷ ls) (put_in_order k ls) → IsPermutation (k ∷ l ∷ ls) (put_in_order k (l ∷ ls))
    by_test true e rest = rw e (IsPermutation-refl (k ∷ l ∷ ls))
    by_test false e rest =
        let turned = IsPermutation-sym (l ∷ k ∷ ls) (k ∷ l ∷ ls) (IsPermutation-middle (l ∷ []) k ls) in
        rw e (IsPermutation-trans (k ∷ l ∷ ls) (l ∷ k ∷ ls) (l ∷ put_in_order k ls) turned (IsPermutation-cons l (k ∷ ls) (put_in_order k ls) rest))

IsPermutation-in_order : (ks : List KeyNo) → IsPermutation ks (in_order ks)
IsPermutation-in_order [] = IsPermutation-refl []
IsPermutation-in_order (k ∷ ks) = IsPermutation-trans (k ∷ ks) (k ∷ in_order ks) (put_in_order k (in_order ks)) (IsPermutation-cons k ks (in_order ks) (IsPermutation-in_order ks)) (IsPermutation-put k (in_order ks))

pub IsPermutation-primary_first : (ks : List KeyNo) → IsPermutation ks (primary_first ks)
IsPermutation-primary_first [] = IsPermutation-refl []
IsPermutation-primary_first (k ∷ ks) = IsPermutation-cons k ks (in_order ks) (IsPermutation-in_order ks)

-- no text twice where there was none
any_text : (f : KeyNo → List ℕ) (text : List ℕ) (ks ls : List KeyNo) → IsPermutation ks ls → list_any (λ u. bytes_eq u text) (map f ls) ≡ list_any (λ u. bytes_eq u text) (map f ks)
any_text f text ks ls same = sym (list_any-IsPermutation (λ u. bytes_eq u text) (map f ks) (map f ls) (IsPermutation-map f ks ls same))

twice-put : (f : KeyNo → List ℕ) (k : KeyNo) (ls : List KeyNo) → no_text_twice (map f (put_in_order k ls)) ≡ no_text_twice (map f (k ∷ ls))
twice-put f k [] = refl
twice-put f k (l ∷ ls) = by_test (nat_le k.0 l.0) refl (twice-put f k ls)
  where
    turn : (kl k_there l_there more : Bool) → (not (kl || l_there) && (not k_there && more)) ≡ (not (kl || k_there) && (not l_there && more))
    turn true k_there l_there more = refl
    turn false true true more = refl
    turn false true false more = refl
    turn false false true more = refl
    turn false false false more = refl

    by_test : (t : Bool) → nat_le k.0 l.0 ≡ t → no_text_twice (map f (put_in_order k ls)) ≡ no_text_twice (map f (k ∷ ls)) → no_text_twice (map f (put_in_order k (l ∷ ls))) ≡ no_text_twice (map f (k ∷ l ∷ ls))
    by_test true e rest = rw e refl
    by_test false e rest =
        let there = any_text f (f l) (k ∷ ls) (put_in_order k ls) (IsPermutation-put k ls) in
        rw (e, there, rest, bytes_eq-sym (f l) (f k)) (turn (bytes_eq (f k) (f l)) (list_any (λ u. bytes_eq u (f k)) (map f ls)) (list_any (λ u. bytes_eq u (f l)) (map f ls)) (no_text_twice (map f ls)))

twice-in_order : (f : KeyNo → List ℕ) (ks : List KeyNo) → no_text_twice (map f (in_order ks)) ≡ no_text_twice (map f ks)
twice-in_order f [] = refl
twice-in_order f (k ∷ ks) =
    let there = any_text f (f k) ks (in_order ks) (IsPermutation-in_order ks) in
    let rest = twice-in_order f ks in
    twice-put f k (in_order ks) ∙ rw (there, rest) refl

pub twice-primary_first : (f : KeyNo → List ℕ) (ks : List KeyNo) → no_text_twice (map f (primary_first ks)) ≡ no_text_twice (map f ks)
twice-primary_first f [] = refl
twice-primary_first f (k ∷ ks) =
    let there = any_text f (f k) ks (in_order ks) (IsPermutation-in_order ks) in
    let rest = twice-in_order f ks in
    rw (there, rest) refl

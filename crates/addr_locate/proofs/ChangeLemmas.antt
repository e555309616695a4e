-- What stands at a place of a list after changes.
use Rattle.std.proofs.Common.{◌≡◌, inl, inr, ℕ, ◌+◌, ◌<◌, ◌≤◌, zero, suc, Bool, cond, eqb, List, [], ◌∷◌, length, set, get_or, Option, Some, None, slice_get, refl, sym, ◌∙◌, ap, arith}
use Rattle.std.proofs.lemmas.Bool.{eq-eqb, ne_eqb, cases_eq}
use Rattle.std.proofs.lemmas.List.{length-set}
use Rattle.std.specs.List.{count_by}
use Rattle.std.proofs.lemmas.List.Sums.{sum_by-cons}
use Rattle.addr_locate.specs.Changes.{put_at, changed_from, change, change_each, times}

abbrev pub one_if : Bool → ℕ
one_if t = cond t 1 0

pub count-cons : {X : Type 0} (p : X → Bool) (x : X) (xs : List X) → count_by p (x ∷ xs) ≡ cond (p x) 1 0 + count_by p xs
count-cons p x xs = sum_by-cons (λ y. cond (p y) 1 0) x xs

pub get_set_same : {X : Type 0} (xs : List X) (n : ℕ) (x y : X) → slice_get xs n ≡ Some x → slice_get (set xs n y) n ≡ Some y
get_set_same [] n x y is = cc
get_set_same (z ∷ xs) zero x y is = refl
get_set_same (z ∷ xs) (suc n) x y is = get_set_same xs n x y is

pub get_set_other : {X : Type 0} (xs : List X) (n m : ℕ) (y : X) → (m ≡ n → ⊥) → slice_get (set xs n y) m ≡ slice_get xs m
get_set_other [] n m y ne = refl
get_set_other (z ∷ xs) zero zero y ne = absurd (ne refl)
get_set_other (z ∷ xs) zero (suc m) y ne = refl
get_set_other (z ∷ xs) (suc n) zero y ne = refl
get_set_other (z ∷ xs) (suc n) (suc m) y ne = get_set_other xs n m y (λ same. ne (ap suc same))

pub length_change : {X : Type 0} (f : X → X) (n : ℕ) (xs : List X) → length (change f n xs) ≡ length xs
length_change f n xs = at (slice_get xs n)
  where
    at : (o : Option _) → length (put_at xs n (changed_from f o)) ≡ length xs
    at None = refl
    at (Some x) = length-set xs n (f x)

pub change_same : {X : Type 0} (f : X → X) (n : ℕ) (xs : List X) → slice_get (change f n xs) n ≡ changed_from f (slice_get xs n)
change_same {X} f n xs = at (slice_get xs n) refl
  where
    at : (o : Option X) → slice_get xs n ≡ o → slice_get (put_at xs n (changed_from f o)) n ≡ changed_from f o
    at None is = is
    at (Some x) is = get_set_same xs n x (f x) is

pub change_other : {X : Type 0} (f : X → X) (n m : ℕ) (xs : List X) → (m ≡ n → ⊥) → slice_get (change f n xs) m ≡ slice_get xs m
change_other {X} f n m xs ne = at (slice_get xs n)
  where
    at : (o : Option X) → slice_get (put_at xs n (changed_from f o)) m ≡ slice_get xs m
    at None = refl
    at (Some x) = get_set_other xs n m (f x) ne

pub length_change_each : {X : Type 0} (f : X → X) (ns : List ℕ) (xs : List X) → length (change_each f ns xs) ≡ length xs
length_change_each f [] xs = refl
length_change_each f (n ∷ ns) xs = length_change_each f ns (change f n xs) ∙ length_change f n xs

changed_twice : {X : Type 0} (f g : X → X) (o : Option X) → changed_from g (changed_from f o) ≡ changed_from (λ x. g (f x)) o
changed_twice f g None = refl
changed_twice f g (Some x) = refl

changed_none : {X : Type 0} (o : Option X) → changed_from (λ x. x) o ≡ o
changed_none None = refl
changed_none (Some x) = refl

-- as often as the place stands in the list
pub change_each_at : {X : Type 0} (f : X → X) (ns : List ℕ) (xs : List X) (m : ℕ) → slice_get (change_each f ns xs) m ≡ changed_from (times f (count_by (λ k. eqb k m) ns)) (slice_get xs m)
change_each_at f [] xs m = sym (changed_none (slice_get xs m))
change_each_at {X} f (n ∷ ns) xs m = change_each_at f ns (change f n xs) m ∙ elim (cases_eq n m) [
  | inl same ↦
      let more : suc (count_by (λ k. eqb k m) ns) ≡ count_by (λ k. eqb k m) (n ∷ ns) = let one = ap one_if (eq-eqb n m same) in omega (arith, count-cons (λ k. eqb k m) n ns, one) in
      ap (changed_from (times f (count_by (λ k. eqb k m) ns))) (ap (λ k. slice_get (change f n xs) k) (sym same) ∙ change_same f n xs ∙ ap (λ k. changed_from f (slice_get xs k)) same)
      ∙ changed_twice f (times f (count_by (λ k. eqb k m) ns)) (slice_get xs m)
      ∙ ap (λ k. changed_from (times f k) (slice_get xs m)) more
  | inr other ↦
      let same : count_by (λ k. eqb k m) ns ≡ count_by (λ k. eqb k m) (n ∷ ns) = let none = ap one_if (ne_eqb n m other) in omega (arith, count-cons (λ k. eqb k m) n ns, none) in
      ap (changed_from (times f (count_by (λ k. eqb k m) ns))) (change_other f n m xs (λ is. other (sym is)))
      ∙ ap (λ k. changed_from (times f k) (slice_get xs m)) same
]

-- what was there before a change
pub was_there : {X : Type 0} (f : X → X) (o : Option X) (y : X) → changed_from f o ≡ Some y → (x : X) × ((o ≡ Some x) × (f x ≡ y))
was_there f None y is = cc
was_there f (Some x) y is = (x, (refl, let same : f x ≡ y = cc in same))

-- what each change leaves
pub times_keep : {X Y : Type 0} (f : X → X) (p : X → Y) → ((x : X) → p (f x) ≡ p x) → (k : ℕ) (x : X) → p (times f k x) ≡ p x
times_keep f p keeps zero x = refl
times_keep f p keeps (suc k) x = times_keep f p keeps k (f x) ∙ keeps x

pub within_from : {X : Type 0} (xs : List X) (n : ℕ) (x : X) → slice_get xs n ≡ Some x → n < length xs
within_from [] n x is = cc
within_from (y ∷ xs) zero x is = omega arith
within_from (y ∷ xs) (suc n) x is = omega (arith, within_from xs n x is)

pub past_from : {X : Type 0} (xs : List X) (n : ℕ) → slice_get xs n ≡ None → length xs ≤ n
past_from [] n is = omega arith
past_from (y ∷ xs) zero is = cc
past_from (y ∷ xs) (suc n) is = omega (arith, past_from xs n is)

pub get_there : {X : Type 0} (xs : List X) (n : ℕ) (x : X) → n < length xs → x ≡ get_or xs n x → slice_get xs n ≡ Some x
get_there [] n x lt is = absurd (omega arith)
get_there (y ∷ xs) zero x lt is = ap Some (sym is)
get_there (y ∷ xs) (suc n) x lt is = get_there xs n x (omega arith) is

pub get_past : {X : Type 0} (xs : List X) (n : ℕ) → length xs ≤ n → slice_get xs n ≡ None
get_past [] n le = refl
get_past (y ∷ xs) zero le = absurd (omega arith)
get_past (y ∷ xs) (suc n) le = get_past xs n (omega arith)

pub change_there : {X : Type 0} (f : X → X) (xs : List X) (n : ℕ) (x : X) → n < length xs → x ≡ get_or xs n x → change f n xs ≡ set xs n (f x)
change_there f xs n x lt is = ap (λ (o : Option _). put_at xs n (changed_from f o)) (get_there xs n x lt is)

pub change_past : {X : Type 0} (f : X → X) (xs : List X) (n : ℕ) → length xs ≤ n → change f n xs ≡ xs
change_past f xs n le = ap (λ (o : Option _). put_at xs n (changed_from f o)) (get_past xs n le)

-- What stands at a place of a list after changes.
use Rattle.std.proofs.Common.{◌≡◌, ◌⊎◌, inl, inr, ℕ, ◌<◌, ◌≤◌, zero, suc, Bool, true, false, eqb, List, [], ◌∷◌, ◌++◌, length, set, if◌then◌else◌, Option, Some, None, slice_get, refl, sym, ◌∙◌, ap, arith}
use Rattle.std.proofs.lemmas.Bool.{eq-eqb, ne_eqb, cases_eq}
use Rattle.std.proofs.lemmas.List.{length-set}
use Rattle.std.specs.List.{count_by}
use Rattle.addr_history.proofs.Counting.{one_if, count-cons}
use Rattle.addr_base.specs.declared.ids.BundleNo.{BundleNo}
use Rattle.addr_queue.specs.Changes.{put_at, changed_from, change, change_each, times, cleared_each}

pub get_set_same : {X : Type 0} (xs : List X) (n : ℕ) (x y : X) → slice_get xs n ≡ Some x → slice_get (set xs n y) n ≡ Some y
get_set_same [] n x y is = cc
get_set_same (z ∷ xs) zero x y is = refl
get_set_same (z ∷ xs) (suc n) x y is = get_set_same xs n x y is

pub get_set_other : {X : Type 0} (xs : List X) (n m : ℕ) (y : X) → (m ≡ n → ⊥) → slice_get (set xs n y) m ≡ slice_get xs m
get_set_other [] n m y ne = refl
get_set_other (z ∷ xs) zero zero y ne = absurd (ne refl)
get_set_other (z ∷ xs) zero (suc m) y ne = refl
get_set_other (z ∷ xs) (suc n) zero y ne = refl
get_set_other (z ∷ xs) (suc n) (suc m) y ne = get_set_other xs n m y (λ same. ne (ap suc same))

pub length_change : {X : Type 0} (f : X → X) (n : ℕ) (xs : List X) → length (change f n xs) ≡ length xs
length_change f n xs = at (slice_get xs n)
  where
    at : (o : Option _) → length (put_at xs n (changed_from f o)) ≡ length xs
    at None = refl
    at (Some x) = length-set xs n (f x)

pub change_same : {X : Type 0} (f : X → X) (n : ℕ) (xs : List X) → slice_get (change f n xs) n ≡ changed_from f (slice_get xs n)
change_same {X} f n xs = at (slice_get xs n) refl
  where
    at : (o : Option X) → slice_get xs n ≡ o → slice_get (put_at xs n (changed_from f o)) n ≡ changed_from f o
    at None is = is
    at (Some x) is = get_set_same xs n x (f x) is

pub change_other : {X : Type 0} (f : X → X) (n m : ℕ) (xs : List X) → (m ≡ n → ⊥) → slice_get (change f n xs) m ≡ slice_get xs m
change_other {X} f n m xs ne = at (slice_get xs n)
  where
    at : (o : Option X) → slice_get (put_at xs n (changed_from f o)) m ≡ slice_get xs m
    at None = refl
    at (Some x) = get_set_other xs n m (f x) ne

pub length_change_each : {X : Type 0} (f : X → X) (ns : List ℕ) (xs : List X) → length (change_each f ns xs) ≡ length xs
length_change_each f [] xs = refl
length_change_each f (n ∷ ns) xs = length_change_each f ns (change f n xs) ∙ length_change f n xs

changed_twice : {X : Type 0} (f g : X → X) (o : Option X) → changed_from g (changed_from f o) ≡ changed_from (λ x. g (f x)) o
changed_twice f g None = refl
changed_twice f g (Some x) = refl

changed_none : {X : Type 0} (o : Option X) → changed_from (λ x. x) o ≡ o
changed_none None = refl
changed_none (Some x) = refl

-- as often as the place stands in the list
pub change_each_at : {X : Type 0} (f : X → X) (ns : List ℕ) (xs : List X) (m : ℕ) → slice_get (change_each f ns xs) m ≡ changed_from (times f (count_by (λ k. eqb k m) ns)) (slice_get xs m)
change_each_at f [] xs m = sym (changed_none (slice_get xs m))
change_each_at {X} f (n ∷ ns) xs m = change_each_at f ns (change f n xs) m ∙ elim (cases_eq n m) [
  | inl same ↦
      let more : suc (count_by (λ k. eqb k m) ns) ≡ count_by (λ k. eqb k m) (n ∷ ns) = let one = ap one_if (eq-eqb n m same) in omega (arith, count-cons (λ k. eqb k m) n ns, one) in
      ap (changed_from (times f (count_by (λ k. eqb k m) ns))) (ap (λ k. slice_get (change f n xs) k) (sym same) ∙ change_same f n xs ∙ ap (λ k. changed_from f (slice_get xs k)) same)
      ∙ changed_twice f (times f (count_by (λ k. eqb k m) ns)) (slice_get xs m)
      ∙ ap (λ k. changed_from (times f k) (slice_get xs m)) more
  | inr other ↦
      let same : count_by (λ k. eqb k m) ns ≡ count_by (λ k. eqb k m) (n ∷ ns) = let none = ap one_if (ne_eqb n m other) in omega (arith, count-cons (λ k. eqb k m) n ns, none) in
      ap (changed_from (times f (count_by (λ k. eqb k m) ns))) (change_other f n m xs (λ is. other (sym is)))
      ∙ ap (λ k. changed_from (times f k) (slice_get xs m)) same
]

-- what was there before a change
pub was_there : {X : Type 0} (f : X → X) (o : Option X) (y : X) → changed_from f o ≡ Some y → (x : X) × ((o ≡ Some x) × (f x ≡ y))
was_there f None y is = cc
was_there f (Some x) y is = (x, (refl, let same : f x ≡ y = cc in same))

-- what each change leaves
pub times_keep : {X Y : Type 0} (f : X → X) (p : X → Y) → ((x : X) → p (f x) ≡ p x) → (k : ℕ) (x : X) → p (times f k x) ≡ p x
times_keep f p keeps zero x = refl
times_keep f p keeps (suc k) x = times_keep f p keeps k (f x) ∙ keeps x

pub within_from : {X : Type 0} (xs : List X) (n : ℕ) (x : X) → slice_get xs n ≡ Some x → n < length xs
within_from [] n x is = cc
within_from (y ∷ xs) zero x is = omega arith
within_from (y ∷ xs) (suc n) x is = omega (arith, within_from xs n x is)

pub past_from : {X : Type 0} (xs : List X) (n : ℕ) → slice_get xs n ≡ None → length xs ≤ n
past_from [] n is = omega arith
past_from (y ∷ xs) zero is = cc
past_from (y ∷ xs) (suc n) is = omega (arith, past_from xs n is)

-- a place of the list, and what stands there
pub slice_there : {X : Type 0} (xs : List X) (n : ℕ) → n < length xs → (x : X) × (slice_get xs n ≡ Some x)
slice_there [] n lt = absurd (omega arith)
slice_there (x ∷ xs) zero lt = (x, refl)
slice_there (x ∷ xs) (suc n) lt = slice_there xs n (omega arith)

-- with one more at the end
pub get_left : {X : Type 0} (xs : List X) (n : ℕ) (x y : X) → n < length xs → slice_get (xs ++ y ∷ []) n ≡ Some x → slice_get xs n ≡ Some x
get_left [] n x y lt is = absurd (omega arith)
get_left (z ∷ xs) zero x y lt is = is
get_left (z ∷ xs) (suc n) x y lt is = get_left xs n x y (omega arith) is

pub get_end : {X : Type 0} (xs : List X) (n : ℕ) (x y : X) → length xs ≤ n → slice_get (xs ++ y ∷ []) n ≡ Some x → (n ≡ length xs) × (x ≡ y)
get_end [] zero x y le is = (refl, let same : x ≡ y = cc in same)
get_end [] (suc n) x y le is = cc
get_end (z ∷ xs) zero x y le is = absurd (omega arith)
get_end (z ∷ xs) (suc n) x y le is = let rest = get_end xs n x y (omega arith) is in (ap suc rest.0, rest.1)

-- what was put at a place stands there, if anything does
set_gives : {X : Type 0} (xs : List X) (n : ℕ) (x y : X) → slice_get (set xs n x) n ≡ Some y → y ≡ x
set_gives [] n x y is = cc
set_gives (z ∷ xs) zero x y is = let same : y ≡ x = cc in same
set_gives (z ∷ xs) (suc n) x y is = set_gives xs n x y is

-- a place that was cleared, with a bundle that passed, or one as before
pub cleared_from : {X : Type 0} (empty : X) (test : BundleNo → Bool) (bs : List BundleNo) (xs : List X) (n : ℕ) (y : X) → slice_get (cleared_each empty test bs xs) n ≡ Some y → ((y ≡ empty) × (test (record { 0 = n }) ≡ true)) ⊎ (slice_get xs n ≡ Some y)
cleared_from empty test [] xs n y is = inr is
cleared_from {X} empty test (b ∷ bs) xs n y is = elim (cleared_from empty test bs (if test b then set xs b.0 empty else xs) n y is) [
  | inl here ↦ inl here
  | inr before ↦ by (test b) refl before
]
  where
    by : (t : Bool) → test b ≡ t → slice_get (if t then set xs b.0 empty else xs) n ≡ Some y → ((y ≡ empty) × (test (record { 0 = n }) ≡ true)) ⊎ (slice_get xs n ≡ Some y)
    by false fails at = inr at
    by true passes at = elim (cases_eq n b.0) [
      | inl same ↦ inl (set_gives xs b.0 empty y (ap (slice_get (set xs b.0 empty)) (sym same) ∙ at), ap (λ m. test (let r : BundleNo = record { 0 = m } in r)) same ∙ passes)
      | inr other ↦ inr (sym (get_set_other xs b.0 n empty other) ∙ at)
    ]

pub length_cleared : {X : Type 0} (empty : X) (test : BundleNo → Bool) (bs : List BundleNo) (xs : List X) → length (cleared_each empty test bs xs) ≡ length xs
length_cleared empty test [] xs = refl
length_cleared {X} empty test (b ∷ bs) xs = length_cleared empty test bs (if test b then set xs b.0 empty else xs) ∙ at (test b)
  where
    at : (t : Bool) → length (if t then set xs b.0 empty else xs) ≡ length xs
    at true = length-set xs b.0 empty
    at false = refl

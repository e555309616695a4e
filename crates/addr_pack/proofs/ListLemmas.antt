-- Lists by their places.
use Rattle.std.proofs.Common.{◌≡◌, ℕ, ◌<◌, List, length, map, get_or, Option, Some, None, Ordering, Less, Equal, refl, sym, ap, subst, ◌∙◌, arith}
use Rattle.std.proofs.lemmas.Cmp.{tied_itself}
use Rattle.std.proofs.lemmas.List.{same_lists}
use Rattle.std.proofs.lemmas.List.Elements.{All-from_recursion}
use Rattle.std.proofs.lemmas.Map.Keys.{Less-from_sorted}
use Rattle.std.proofs.lemmas.Option.{slice_get-map, slice_get_within, get_or_from_slice_get, slice_get-get_or}
use Rattle.std.specs.Cmp.{IsTotalOrder}
use Rattle.std.specs.List.{AllByRecursion, slice_get}
use Rattle.std.specs.List.Sorted.{IsStrictlySortedBy}
use Rattle.std.specs.Option.{option_map}

-- what a place of a list has is one thing
pub same_at : {X : Type 0} (xs : List X) (i : ℕ) (x y : X) → slice_get xs i ≡ Some x → slice_get xs i ≡ Some y → x ≡ y
same_at xs i x y is other = let both : Some x ≡ Some y = sym is ∙ other in cc

pub holds_at : {X : Type 0} (P : X → Type 0) (xs : List X) (i : ℕ) (x : X) → AllByRecursion P xs → slice_get xs i ≡ Some x → P x
holds_at P xs i x all is = subst P (get_or_from_slice_get xs i x x is) (All-from_recursion P xs all i x (slice_get_within xs i x is))

pub mapped_at : {X Y : Type 0} (f : X → Y) (xs : List X) (i : ℕ) (x : X) → slice_get xs i ≡ Some x → slice_get (map f xs) i ≡ Some (f x)
mapped_at f xs i x is = slice_get-map f xs i ∙ ap (option_map f) is

pub unmapped_at : {X Y : Type 0} (f : X → Y) (xs : List X) (i : ℕ) (y : Y) → slice_get (map f xs) i ≡ Some y → (x : X) × (slice_get xs i ≡ Some x) × (f x ≡ y)
unmapped_at {X} {Y} f xs i y is = by_place (slice_get xs i) refl
  where
    by_place : (o : Option X) → slice_get xs i ≡ o → (x : X) × (slice_get xs i ≡ Some x) × (f x ≡ y)
    by_place None none = let both : None ≡ Some y = sym (slice_get-map f xs i ∙ ap (option_map f) none) ∙ is in absurd (cc)
    by_place (Some x) at =
        let both : Some (f x) ≡ Some y = sym (mapped_at f xs i x at) ∙ is in
        let same : f x ≡ y = cc in
        (x, at, same)

never_itself : {X : Type 0} {cmp : X → X → Ordering} → IsTotalOrder cmp → (x y : X) → x ≡ y → cmp x y ≡ Less → ⊥
never_itself {X} {cmp} o x y same less = let both : Equal ≡ Less = sym (tied_itself o x) ∙ ap (cmp x) same ∙ less in cc

-- an ascending list has each element at one place
pub one_place : {X : Type 0} {cmp : X → X → Ordering} → IsTotalOrder cmp → (xs : List X) (i j : ℕ) (x : X) → IsStrictlySortedBy cmp xs → slice_get xs i ≡ Some x → slice_get xs j ≡ Some x → i ≡ j
one_place {X} {cmp} o xs i j x rising is at =
    let first : get_or xs i x ≡ x = get_or_from_slice_get xs i x x is in
    let second : get_or xs j x ≡ x = get_or_from_slice_get xs j x x at in
    let not_before : i < j → ⊥ = λ before. never_itself o _ _ (first ∙ sym second) (Less-from_sorted cmp xs i j x rising before (slice_get_within xs j x at)) in
    let not_after : j < i → ⊥ = λ after. never_itself o _ _ (second ∙ sym first) (Less-from_sorted cmp xs j i x rising after (slice_get_within xs i x is)) in
    omega arith

-- lists of one length that have the same thing at each place
pub same_places : {X : Type 0} (xs ys : List X) → length xs ≡ length ys → ((i : ℕ) (x y : X) → slice_get xs i ≡ Some x → slice_get ys i ≡ Some y → x ≡ y) → xs ≡ ys
same_places xs ys size same =
    same_lists xs ys size (λ k d small. same k (get_or xs k d) (get_or ys k d) (slice_get-get_or xs k d small) (slice_get-get_or ys k d (omega arith)))

-- Lists of bytes that ascend: none comes twice, and a binary search finds what a search from the front finds.
use Rattle.std.proofs.Common.{◌≡◌, ℕ, zero, suc, ◌+◌, ◌<◌, true, false, ltb, List, [], ◌∷◌, length, get_or, map, Option, Some, None, Result, Ok, Err, refl, sym, ap, subst, ◌∙◌, arith, bytes_eq, nat_cmp, Ordering, Less, Equal, Greater}
use Rattle.std.specs.Cmp.{IsTotalOrder}
use Rattle.std.specs.Cmp.Lexicographic.{slice_cmp}
use Rattle.std.specs.List.{position_or_len, slice_get}
use Rattle.std.specs.List.Sorted.{IsSearchInRange, IsBinarySearchResult, IsNonDecreasingBy}
use Rattle.std.specs.Ordering.{is_lt, is_eq, ordering_index, ordering_reverse}
use Rattle.std.proofs.lemmas.Bool.{ltb-true, ltb-false}
use Rattle.std.proofs.lemmas.Cmp.{nat_list_cmp_total}
use Rattle.std.proofs.lemmas.List.Folds.{find_at, list_any_at, list_any_none}
use Rattle.std.proofs.lemmas.Option.{slice_get_past}
use Rattle.std.proofs.lemmas.List.Sorted.{searchable_from_sorted}
use Rattle.std.proofs.lemmas.List.Sums.{position_or_len_is}
use Rattle.std.proofs.lemmas.Map.Text.{is_eq-slice_cmp}
use Rattle.std.proofs.lemmas.Slice.Eq.{bytes_eq-Decides}
use Rattle.addr_cab.specs.Spelling.{is_below, is_above}
use Rattle.addr_cab.specs.Searches.{Ascend, Finds, FindsPlace}

-- lists of bytes that ascend strictly, from the last one before them on, as they are read
abbrev pub AscendFrom : Option (List ℕ) → List (List ℕ) → Type 0
AscendFrom last [] = Unit {0}
AscendFrom last (bytes ∷ more) = (is_above last bytes ≡ true) × AscendFrom (Some bytes) more

order : IsTotalOrder (slice_cmp nat_cmp)
order = nat_list_cmp_total

pub is_less : (o : Ordering) → is_lt o ≡ true → o ≡ Less
is_less Less e = refl
is_less Equal e = absurd cc
is_less Greater e = absurd cc

below_trans : (a b c : List ℕ) → is_below a b ≡ true → is_below b c ≡ true → is_below a c ≡ true
below_trans a b c p q = ap is_lt (order.trans a b c (is_less _ p) (is_less _ q))

pub below_differs : (a b : List ℕ) → is_below a b ≡ true → bytes_eq a b ≡ false
below_differs a b p = sym (is_eq-slice_cmp a b) ∙ ap is_eq (is_less _ p)

not_above : (a b : List ℕ) → is_below a b ≡ true → is_below b a ≡ false
not_above a b p = ap is_lt (order.antisymm b a ∙ ap ordering_reverse (is_less _ p))

far : {X : Type 0} (key : X → List ℕ) (first : List ℕ) (xs : List X) (d : X) (k : ℕ) → AscendFrom (Some first) (map key xs) → k < length xs → is_below first (key (get_or xs k d)) ≡ true
far key first [] d k up lt = absurd (omega (arith, lt))
far key first (x ∷ xs) d zero up lt = up.0
far key first (x ∷ xs) d (suc k) up lt = below_trans first (key x) (key (get_or xs k d)) up.0 (far key (key x) xs d k up.1 (omega (arith, lt)))

pub below_later : {X : Type 0} (key : X → List ℕ) (last : Option (List ℕ)) (xs : List X) (d : X) (j k : ℕ) → AscendFrom last (map key xs) → j < k → k < length xs → is_below (key (get_or xs j d)) (key (get_or xs k d)) ≡ true
below_later key last [] d j k up less lt = absurd (omega (arith, lt))
below_later key last (x ∷ xs) d j zero up less lt = absurd (omega (arith, less))
below_later key last (x ∷ xs) d zero (suc k) up less lt = far key (key x) xs d k up.1 (omega (arith, lt))
below_later key last (x ∷ xs) d (suc j) (suc k) up less lt = below_later key (Some (key x)) xs d j k up.1 (omega (arith, less)) (omega (arith, lt))

pub ascends : {X : Type 0} (key : X → List ℕ) (xs : List X) → AscendFrom None (map key xs) → Ascend key xs
ascends key xs up = λ j k d less lt. below_later key None xs d j k up less lt

-- what stands at a place is found there and not before
pub first_at : {X : Type 0} (key : X → List ℕ) (xs : List X) (d : X) (k : ℕ) (text : List ℕ) → Ascend key xs → k < length xs → key (get_or xs k d) ≡ text → position_or_len (λ y. bytes_eq (key y) text) xs ≡ k
first_at key xs d k text up lt is =
    position_or_len_is (λ y. bytes_eq (key y) text) xs k d (omega (arith, lt))
    (λ j less. below_differs (key (get_or xs j d)) text (subst (λ g. is_below (key (get_or xs j d)) g ≡ true) is (up j k d less lt)))
    (λ here. (bytes_eq-Decides (key (get_or xs k d)) text).1 is)

-- a binary search is allowed
searchable : {X : Type 0} (key : X → List ℕ) (xs : List X) (text : List ℕ) → Ascend key xs → IsNonDecreasingBy (λ y. ordering_index (slice_cmp nat_cmp (key y) text)) xs
searchable key xs text up =
    searchable_from_sorted order key xs text (λ k d low more. not_above (key (get_or xs k d)) (key (get_or xs (k + 1) d)) (up k (k + 1) d (omega arith) (omega (arith, more))))

-- where a binary search ends without a find, no element is the one
no_place : {X : Type 0} (key : X → List ℕ) (xs : List X) (text : List ℕ) (i : ℕ) → Ascend key xs → IsBinarySearchResult (λ y. slice_cmp nat_cmp (key y) text) xs (Err i) → (k : ℕ) (d : X) → k < length xs → bytes_eq (key (get_or xs k d)) text ≡ false
no_place {X} key xs text i up parted k d lt =
    let parts = parted (searchable key xs text up) in
    elim (ltb k i) as (λ t. ltb k i ≡ t → bytes_eq (key (get_or xs k d)) text ≡ false) [
      | true ↦ λ before. sym (is_eq-slice_cmp (key (get_or xs k d)) text) ∙ ap is_eq (parts.0 k d (omega arith) (ltb-true k i before))
      | false ↦ λ behind. sym (is_eq-slice_cmp (key (get_or xs k d)) text) ∙ ap is_eq (parts.1 k d (ltb-false k i behind) lt)
    ] refl

pub place_searched : {X : Type 0} (key : X → List ℕ) (xs : List X) (d : X) (text : List ℕ) (r : Result ℕ ℕ) → Ascend key xs → IsSearchInRange r (length xs) → IsBinarySearchResult (λ y. slice_cmp nat_cmp (key y) text) xs r → FindsPlace (λ y. bytes_eq (key y) text) xs r
place_searched key xs d text (Ok i) up within equal =
    first_at key xs d i text up within ((bytes_eq-Decides (key (get_or xs i d)) text).0 (sym (is_eq-slice_cmp (key (get_or xs i d)) text) ∙ ap is_eq (equal d)))
place_searched key xs d text (Err i) up within parted =
    position_or_len_is (λ y. bytes_eq (key y) text) xs (length xs) d (omega arith) (λ k lt. no_place key xs text i up parted k d lt) (λ past. absurd (omega (arith, past)))

pub searched : {X : Type 0} (key : X → List ℕ) (xs : List X) (d : X) (text : List ℕ) (r : Result ℕ ℕ) → Ascend key xs → IsSearchInRange r (length xs) → IsBinarySearchResult (λ y. slice_cmp nat_cmp (key y) text) xs r → Finds (λ y. bytes_eq (key y) text) xs r
searched key xs d text (Ok i) up within equal =
    let first : position_or_len (λ y. bytes_eq (key y) text) xs ≡ i = place_searched key xs d text (Ok i) up within equal in
    let same : bytes_eq (key (get_or xs i d)) text ≡ true = sym (is_eq-slice_cmp (key (get_or xs i d)) text) ∙ ap is_eq (equal d) in
    (within, find_at (λ y. bytes_eq (key y) text) xs ∙ ap (slice_get xs) first, list_any_at (λ y. bytes_eq (key y) text) xs i d within same)
searched key xs d text (Err i) up within parted =
    let none : position_or_len (λ y. bytes_eq (key y) text) xs ≡ length xs = place_searched key xs d text (Err i) up within parted in
    (find_at (λ y. bytes_eq (key y) text) xs ∙ (ap (slice_get xs) none ∙ slice_get_past xs (length xs) (omega arith)), list_any_none (λ y. bytes_eq (key y) text) xs (no_place key xs text i up parted))

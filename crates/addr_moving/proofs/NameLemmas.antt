-- Bundles in the order of names that differ.
use Rattle.std.proofs.Common.{◌≡◌, ◌+◌, ◌++◌, Bool, true, false, List, [], ◌∷◌, get_or, Less, Equal, Greater, refl, sym, ap, ◌∙◌, arith}
use Rattle.std.proofs.lemmas.Map.Keys.{IsDistinct-IsPermutation, IsDistinct-cons, IsDistinct-head, IsDistinct-tail, apart_from_distinct, sorted_from_all_adjacent}
use Rattle.std.proofs.lemmas.Map.Text.{is_eq-slice_cmp}
use Rattle.std.proofs.lemmas.Cmp.{eq_by_cmp_equiv}
use Rattle.std.proofs.lemmas.Slice.Eq.{bytes_eq-Decides}
use Rattle.std.specs.List.{AllByRecursion, Contains, IsDistinct}
use Rattle.std.specs.List.Sorted.{IsPermutation, IsSortedBy, IsStrictlySortedBy}
use Rattle.std.specs.Ordering.{eq_by_cmp, is_eq, is_lt, ordering_reverse}
use Rattle.std.specs.declared.cmp.Ordering.{Ordering}
use Rattle.addr_pack.specs.declared.bundles.PlanBundle.{PlanBundle}
use Rattle.addr_update.specs.Placement.{by_name}
use Rattle.addr_update.proofs.SharedLemmas.{name-order}
use Rattle.addr_walks.proofs.Lists.{Contains-here, Contains-later}

-- bundles of which no two have one name
abbrev pub NamedApart : List PlanBundle → Type 0
NamedApart xs = IsDistinct (eq_by_cmp by_name) xs

tied-name : (x y : PlanBundle) → eq_by_cmp by_name x y ≡ true → x.name ≡ y.name
tied-name x y tied = (bytes_eq-Decides x.name y.name).0 (sym (is_eq-slice_cmp x.name y.name) ∙ tied)

pub differ : (x y : PlanBundle) → (x.name ≡ y.name → ⊥) → eq_by_cmp by_name x y ≡ false
differ x y other = by_test (eq_by_cmp by_name x y) refl
  where
    by_test : (t : Bool) → eq_by_cmp by_name x y ≡ t → t ≡ false
    by_test false is = refl
    by_test true is = absurd (other (tied-name x y is))

-- ---- one list behind another

all-from : {X : Type 0} (P : X → Type 0) (xs : List X) → ((x : X) → Contains xs x → P x) → AllByRecursion P xs
all-from P [] each = tt
all-from P (x ∷ xs) each = (each x (Contains-here x xs), all-from P xs (λ y here. each y (Contains-later x xs y here)))

all-append : {X : Type 0} (P : X → Type 0) (xs ys : List X) → AllByRecursion P xs → ((y : X) → Contains ys y → P y) → AllByRecursion P (xs ++ ys)
all-append P [] ys all each = all-from P ys each
all-append P (x ∷ xs) ys all each = (all.0, all-append P xs ys all.1 each)

pub apart-append : (xs ys : List PlanBundle) → NamedApart xs → NamedApart ys → ((x y : PlanBundle) → Contains xs x → Contains ys y → x.name ≡ y.name → ⊥) → NamedApart (xs ++ ys)
apart-append [] ys first second other = second
apart-append (x ∷ xs) ys first second other = IsDistinct-cons (eq_by_cmp by_name) x (xs ++ ys)
    (all-append (λ y. eq_by_cmp by_name x y ≡ false) xs ys (IsDistinct-head (eq_by_cmp by_name) x xs first) (λ y here. differ x y (other x y (Contains-here x xs) here)))
    (apart-append xs ys (IsDistinct-tail (eq_by_cmp by_name) x xs first) second (λ v w here there. other v w (Contains-later x xs v here) there))

-- ---- sorted

less-from : (o : Ordering) → is_eq o ≡ false → is_lt (ordering_reverse o) ≡ false → o ≡ Less
less-from Less differs above = refl
less-from Equal differs above = absurd (cc differs)
less-from Greater differs above = absurd (cc above)

some_bundle : PlanBundle
some_bundle = record { name = []; group = 0; kept = false; entries = [] }

-- what is sorted by names that differ rises strictly
pub rises : (xs : List PlanBundle) → IsSortedBy (λ x y. is_lt (by_name x y)) xs → NamedApart xs → IsStrictlySortedBy by_name xs
rises xs sorted apart = sorted_from_all_adjacent name-order xs some_bundle (λ k small.
    let x = get_or xs k some_bundle in
    let y = get_or xs (k + 1) some_bundle in
    let differs : eq_by_cmp by_name x y ≡ false = apart_from_distinct (eq_by_cmp by_name) xs k (k + 1) some_bundle apart (omega arith) small in
    let above : is_lt (by_name y x) ≡ false = sorted k some_bundle (omega arith) small in
    less-from (by_name x y) differs (sym (ap is_lt (name-order.antisymm y x)) ∙ above))

pub apart-sorted : (xs ys : List PlanBundle) → IsPermutation xs ys → NamedApart xs → NamedApart ys
apart-sorted xs ys moved apart = IsDistinct-IsPermutation (eq_by_cmp by_name) (eq_by_cmp_equiv name-order).symm xs ys moved apart

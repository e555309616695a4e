-- The order of places is a total one, and places are found in it.
use Rattle.std.proofs.Common.{◌≡◌, ◌<◌, ◌≤◌, ◌+◌, ℕ, Bool, true, false, ◌&&◌, nat_eq, List, length, get_or, Some, Err, refl, ap, ap₂, subst, sym, ◌∙◌, ◌⊎◌, inl, inr, arith}
use Rattle.std.proofs.Common.{Less, Equal, Greater}
use Rattle.std.proofs.lemmas.Bool.{false≢true, cases_lt}
use Rattle.std.proofs.lemmas.Bool.Decides.{nat_tests}
use Rattle.std.proofs.lemmas.Cmp.{on_total, then_total, nat_cmp_total, nat_list_cmp_total, tied_itself}
use Rattle.std.proofs.lemmas.List.Sorted.{searchable_from_sorted}
use Rattle.std.proofs.lemmas.Map.Keys.{Less-from_sorted}
use Rattle.std.proofs.lemmas.Map.Text.{is_eq-slice_cmp}
use Rattle.std.proofs.lemmas.Option.{slice_get-get_or}
use Rattle.std.proofs.lemmas.Slice.Eq.{bytes_eq-Decides}
use Rattle.std.specs.Cmp.{IsEquivalence, IsTotalOrder}
use Rattle.std.specs.List.{Contains, HoldsAt, slice_get}
use Rattle.std.specs.List.Sorted.{IsBinarySearchResult, IsPartitionPoint, IsSortedBy, IsStrictlySortedBy}
use Rattle.std.specs.Ordering.{eq_by_cmp, is_eq, is_lt, nat_cmp, ordering_reverse, ordering_then}
use Rattle.std.specs.Str.{bytes_eq}
use Rattle.std.specs.declared.cmp.Ordering.{Ordering}
use Rattle.addr_base.specs.declared.ids.Guid.{Guid}
use Rattle.addr_layout.proofs.GuidLemmas.{same-guid}
use Rattle.addr_project.specs.Reach.{guid_cmp}
use Rattle.addr_release.proofs.KeyLemmas.{same-test}
use Rattle.addr_resolve.specs.Order.{place_cmp}
use Rattle.addr_resolve.specs.declared.graph.PlaceRow.{PlaceRow}

pub place_total : IsTotalOrder place_cmp
place_total = then_total (on_total (λ (q : PlaceRow). q.guid.0) nat_list_cmp_total) (on_total (λ (q : PlaceRow). q.bundle) nat_cmp_total)

abbrev pub place_eq : PlaceRow → PlaceRow → Bool
place_eq q s = bytes_eq q.guid.0 s.guid.0 && nat_eq q.bundle s.bundle

then-eq : (a b : Ordering) → is_eq (ordering_then a b) ≡ (is_eq a && is_eq b)
then-eq Less b = refl
then-eq Equal b = refl
then-eq Greater b = refl

nat-eq : (m n : ℕ) → is_eq (nat_cmp m n) ≡ nat_eq m n
nat-eq m n = grind (arith, nat_tests)

pub place_ties : (q s : PlaceRow) → place_eq q s ≡ eq_by_cmp place_cmp q s
place_ties q s = sym (then-eq (guid_cmp q.guid s.guid) (nat_cmp q.bundle s.bundle) ∙ ap₂ (λ a b. a && b) (is_eq-slice_cmp q.guid.0 s.guid.0) (nat-eq q.bundle s.bundle))

both : (a b : Bool) → (a && b) ≡ true → (a ≡ true) × (b ≡ true)
both true b is = (refl, is)
both false b is = absurd (false≢true is)

pub place-same : (q s : PlaceRow) → place_eq q s ≡ true → q ≡ s
place-same q s is =
    let parts = both (bytes_eq q.guid.0 s.guid.0) (nat_eq q.bundle s.bundle) is in
    let guid : q.guid ≡ s.guid = same-guid q.guid s.guid ((bytes_eq-Decides q.guid.0 s.guid.0).0 parts.0) in
    let bundle : q.bundle ≡ s.bundle = (let passes = parts.1 in grind (arith, nat_tests, passes)) in
    ap₂ (λ (g : Guid) (b : ℕ). let x : PlaceRow = record { guid = g; bundle = b } in x) guid bundle

same-place : (q s : PlaceRow) → q ≡ s → place_eq q s ≡ true
same-place q s same = subst (λ (r : PlaceRow). place_eq q r ≡ true) same (rw ((bytes_eq-Decides q.guid.0 q.guid.0).1 refl) (grind (arith, nat_tests)))

exact-place : (q s : PlaceRow) → place_cmp q s ≡ Equal → q ≡ s
exact-place q s tied = place-same q s (place_ties q s ∙ ap is_eq tied)

sorted-weakly : (places : List PlaceRow) → IsStrictlySortedBy place_cmp places → IsSortedBy (λ a b. is_lt (place_cmp a b)) places
sorted-weakly places rising k d low within =
    let up = Less-from_sorted place_cmp places k (k + 1) d rising (omega arith) within in
    ap is_lt (place_total.antisymm (get_or places (k + 1) d) (get_or places k d) ∙ ap ordering_reverse up)

pub found-place-at : (places : List PlaceRow) (q : PlaceRow) (at : ℕ) → at < length places → HoldsAt (λ y. place_cmp y q ≡ Equal) places at → slice_get places at ≡ Some q
found-place-at places q at within holds = slice_get-get_or places at q within ∙ ap Some (exact-place (get_or places at q) q (holds q))

pub place-is-found : (places : List PlaceRow) (q : PlaceRow) (at : ℕ) → IsStrictlySortedBy place_cmp places → Contains places q → IsBinarySearchResult (λ y. place_cmp y q) places (Err at) → ⊥
place-is-found places q at rising (k, within, is) result = by_place (cases_lt k at)
  where
    split : IsPartitionPoint (λ y. place_cmp y q ≡ Less) (λ y. place_cmp y q ≡ Greater) places at
    split = result (searchable_from_sorted place_total (λ x. x) places q (sorted-weakly places rising))

    tied : place_cmp (get_or places k q) q ≡ Equal
    tied = ap (λ x. place_cmp x q) is ∙ tied_itself place_total q

    by_place : (k < at) ⊎ (at ≤ k) → ⊥
    by_place (inl before) = cc (sym (split.0 k q (omega arith) before) ∙ tied)
    by_place (inr after) = cc (sym (split.1 k q after within) ∙ tied)

pub place_equiv : IsEquivalence place_eq
place_equiv = record {
  refl = λ q. same-place q q refl;
  symm = λ q s. same-test (place_eq q s) (place_eq s q) (λ is. same-place s q (sym (place-same q s is))) (λ is. same-place q s (sym (place-same s q is)));
  congr = λ q r s is. ap (λ (x : PlaceRow). place_eq x s) (place-same q r is);
}

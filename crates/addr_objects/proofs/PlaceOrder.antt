-- The order of places is a total one, in which only a place itself ties with it.
use Rattle.std.proofs.Common.{◌≡◌, ◌<◌, ◌⊎◌, inl, inr, ℕ, Bool, true, false, ◌&&◌, nat_eq, List, [], ◌∷◌, ◌++◌, refl, ap, ap₂, subst, sym, ◌∙◌, arith}
use Rattle.std.proofs.Common.{Less, Equal, Greater}
use Rattle.std.proofs.lemmas.Bool.{false≢true}
use Rattle.std.proofs.lemmas.Bool.Decides.{nat_tests}
use Rattle.std.proofs.lemmas.Cmp.{on_total, then_total, nat_cmp_total, nat_list_cmp_total, ranked, tied_itself}
use Rattle.std.proofs.lemmas.List.Elements.{Contains-push}
use Rattle.std.proofs.lemmas.Map.Keys.{sorted_tail}
use Rattle.std.proofs.lemmas.Map.Text.{is_eq-slice_cmp}
use Rattle.std.proofs.lemmas.Slice.Eq.{bytes_eq-Decides}
use Rattle.std.specs.Cmp.{IsEquivalence, IsTotalOrder}
use Rattle.std.specs.List.{Contains}
use Rattle.std.specs.List.Sorted.{IsStrictlySortedBy}
use Rattle.std.specs.Ordering.{MatchOrdering, eq_by_cmp, is_eq, nat_cmp, ordering_then}
use Rattle.std.specs.Str.{bytes_eq}
use Rattle.std.specs.declared.cmp.Ordering.{Ordering}
use Rattle.addr_base.specs.declared.ids.Guid.{Guid}
use Rattle.addr_walks.proofs.Lists.{Contains-cases, Contains-none, above-head}
use Rattle.addr_history.specs.Unfolding.{guid_cmp}
use Rattle.addr_history.specs.declared.reading.Place.{Place}
use Rattle.addr_objects.specs.within.Search.{place_cmp}

pub guid_total : IsTotalOrder guid_cmp
guid_total = on_total (λ (g : Guid). g.0) nat_list_cmp_total

pub same-guid : (x y : Guid) → x.0 ≡ y.0 → x ≡ y
same-guid x y same = λ i. record { 0 = same i }

pub exact-guid : (x y : Guid) → guid_cmp x y ≡ Equal → x ≡ y
exact-guid x y tied = same-guid x y ((bytes_eq-Decides x.0 y.0).0 (sym (is_eq-slice_cmp x.0 y.0) ∙ ap is_eq tied))

pub place_total : IsTotalOrder place_cmp
place_total = then_total (on_total (λ (q : Place). q.guid.0) nat_list_cmp_total) (on_total (λ (q : Place). q.bundle) nat_cmp_total)

abbrev pub place_eq : Place → Place → Bool
place_eq q s = bytes_eq q.guid.0 s.guid.0 && nat_eq q.bundle s.bundle

then-eq : (a b : Ordering) → is_eq (ordering_then a b) ≡ (is_eq a && is_eq b)
then-eq Less b = refl
then-eq Equal b = refl
then-eq Greater b = refl

nat-eq : (m n : ℕ) → is_eq (nat_cmp m n) ≡ nat_eq m n
nat-eq m n = grind (arith, nat_tests)

pub place_ties : (q s : Place) → place_eq q s ≡ eq_by_cmp place_cmp q s
place_ties q s = sym (then-eq (guid_cmp q.guid s.guid) (nat_cmp q.bundle s.bundle) ∙ ap₂ (λ a b. a && b) (is_eq-slice_cmp q.guid.0 s.guid.0) (nat-eq q.bundle s.bundle))

both : (a b : Bool) → (a && b) ≡ true → (a ≡ true) × (b ≡ true)
both true b is = (refl, is)
both false b is = absurd (false≢true is)

pub place-same : (q s : Place) → place_eq q s ≡ true → q ≡ s
place-same q s is =
    let parts = both (bytes_eq q.guid.0 s.guid.0) (nat_eq q.bundle s.bundle) is in
    let guid : q.guid ≡ s.guid = same-guid q.guid s.guid ((bytes_eq-Decides q.guid.0 s.guid.0).0 parts.0) in
    let bundle : q.bundle ≡ s.bundle = (let passes = parts.1 in grind (arith, nat_tests, passes)) in
    ap₂ (λ (g : Guid) (b : ℕ). let x : Place = record { guid = g; bundle = b } in x) guid bundle

same-place : (q s : Place) → q ≡ s → place_eq q s ≡ true
same-place q s same = subst (λ (r : Place). place_eq q r ≡ true) same (rw ((bytes_eq-Decides q.guid.0 q.guid.0).1 refl) (grind (arith, nat_tests)))

same-test : (a b : Bool) → (a ≡ true → b ≡ true) → (b ≡ true → a ≡ true) → a ≡ b
same-test true b to from = sym (to refl)
same-test false true to from = from refl
same-test false false to from = refl

pub place_equiv : IsEquivalence place_eq
place_equiv = record {
  refl = λ q. same-place q q refl;
  symm = λ q s. same-test (place_eq q s) (place_eq s q) (λ is. same-place s q (sym (place-same q s is))) (λ is. same-place q s (sym (place-same s q is)));
  congr = λ q r s is. ap (λ (x : Place). place_eq x s) (place-same q r is);
}

-- ---- what stands before what

nat-less : (x y : ℕ) → nat_cmp x y ≡ Less → x < y
nat-less x y less = by_order (nat_cmp x y) (ranked x y (nat_cmp x y) refl) less
  where
    by_order : (o : Ordering) → MatchOrdering o (x < y) (x ≡ y) (y < x) → o ≡ Less → x < y
    by_order Less holds same = holds
    by_order Equal holds same = absurd (cc same)
    by_order Greater holds same = absurd (cc same)

-- a place before another has a lesser GUID, or the same one in a lesser bundle
pub before : (q s : Place) → place_cmp q s ≡ Less → (guid_cmp q.guid s.guid ≡ Less) ⊎ ((q.guid ≡ s.guid) × (q.bundle < s.bundle))
before q s less = by_order (guid_cmp q.guid s.guid) refl less
  where
    by_order : (o : Ordering) → guid_cmp q.guid s.guid ≡ o → ordering_then o (nat_cmp q.bundle s.bundle) ≡ Less → (guid_cmp q.guid s.guid ≡ Less) ⊎ ((q.guid ≡ s.guid) × (q.bundle < s.bundle))
    by_order Less is up = inl is
    by_order Equal is up = inr (exact-guid q.guid s.guid is, nat-less q.bundle s.bundle up)
    by_order Greater is up = absurd (cc up)

pub not-less-itself : (x y : Guid) → x ≡ y → guid_cmp x y ≡ Less → ⊥
not-less-itself x y same less = cc (sym less ∙ (ap (λ g. guid_cmp g y) same ∙ tied_itself guid_total y))

-- what stands before the last of an ascending list
pub before-last : {X : Type 0} (cmp : X → X → Ordering) (xs : List X) (x : X) → IsStrictlySortedBy cmp (xs ++ x ∷ []) → (y : X) → Contains xs y → cmp y x ≡ Less
before-last cmp [] x rising y here = absurd (Contains-none y here)
before-last {X} cmp (z ∷ zs) x rising y here = by_case (Contains-cases z zs y here) (λ later. before-last cmp zs x (sorted_tail cmp z (zs ++ x ∷ []) rising) y later)
  where
    by_case : (z ≡ y) ⊎ Contains zs y → (Contains zs y → cmp y x ≡ Less) → cmp y x ≡ Less
    by_case (inl same) more = subst (λ w. cmp w x ≡ Less) same (above-head cmp z (zs ++ x ∷ []) x rising (Contains-push zs x))
    by_case (inr later) more = more later

-- GUIDs in ascending order: each asset's once, and the place of each can be looked up.
use Rattle.std.proofs.Common.{◌≡◌, ℕ, ◌+◌, ◌<◌, ◌≤◌, ◌⊎◌, inl, inr, Bool, false, List, [], length, get_or, map, Some, Err, refl, sym, ap, ◌∙◌, arith}
use Rattle.std.proofs.Common.{Less, Equal, Greater}
use Rattle.std.proofs.lemmas.Bool.{false≢true, cases_lt, false_from_ne_true}
use Rattle.std.proofs.lemmas.Cmp.{on_total, nat_list_cmp_total, nat_list_eq_equiv, tied_itself}
use Rattle.std.proofs.lemmas.List.{length-map}
use Rattle.std.proofs.lemmas.List.Sorted.{searchable_from_sorted, length_permutation, Contains-permutation, IsPermutation-sym}
use Rattle.std.proofs.lemmas.Map.Keys.{sorted_from_all_adjacent, Less-from_sorted, IsDistinct-IsPermutation, IsDistinct-from_apart, apart_from_distinct}
use Rattle.std.proofs.lemmas.Map.Text.{is_eq-slice_cmp}
use Rattle.std.proofs.lemmas.Option.{slice_get-get_or}
use Rattle.std.proofs.lemmas.Slice.Eq.{bytes_eq-Decides}
use Rattle.std.specs.Cmp.{IsTotalOrder}
use Rattle.std.specs.List.{Contains, IsDistinct, HoldsAt, slice_get}
use Rattle.std.specs.List.Sorted.{IsBinarySearchResult, IsPartitionPoint, IsPermutation, IsSorted, IsSortedBy, IsStrictlySortedBy}
use Rattle.std.specs.Ordering.{is_eq, is_lt, ordering_reverse}
use Rattle.std.specs.Str.{bytes_eq}
use Rattle.std.specs.declared.cmp.Ordering.{Ordering}
use Rattle.addr_base.specs.declared.ids.Guid.{Guid}
use Rattle.addr_project.specs.declared.model.Asset.{Asset}
use Rattle.addr_project.specs.Kept.{IsKept, asset_guids}
use Rattle.addr_project.specs.Model.{Project}
use Rattle.addr_project.specs.Reach.{guid_cmp}
use Rattle.addr_project.proofs.OnceLemmas.{to_map, get_contained, contained_get, from_map}
use Rattle.addr_layout.specs.Graph.{AreGuids, IsGuid}
use Rattle.addr_layout.proofs.LimitLemmas.{few-assets}

-- ---- the order

pub guid_total : IsTotalOrder guid_cmp
guid_total = on_total (λ (g : Guid). g.0) nat_list_cmp_total

pub same-guid : (x y : Guid) → x.0 ≡ y.0 → x ≡ y
same-guid x y same = λ i. record { 0 = same i }

pub exact-guid : (x y : Guid) → guid_cmp x y ≡ Equal → x ≡ y
exact-guid x y tied = same-guid x y ((bytes_eq-Decides x.0 y.0).0 (sym (is_eq-slice_cmp x.0 y.0) ∙ ap is_eq tied))

-- ---- a GUID is looked up

sorted-weakly : (guids : List Guid) → IsStrictlySortedBy guid_cmp guids → IsSortedBy (λ a b. is_lt (guid_cmp a b)) guids
sorted-weakly guids rising k d low within =
    let up = Less-from_sorted guid_cmp guids k (k + 1) d rising (omega arith) within in
    ap is_lt (guid_total.antisymm (get_or guids (k + 1) d) (get_or guids k d) ∙ ap ordering_reverse up)

pub found-guid : (guids : List Guid) (guid : Guid) (at : ℕ) → at < length guids → HoldsAt (λ y. guid_cmp y guid ≡ Equal) guids at → slice_get guids at ≡ Some guid
found-guid guids guid at within holds = slice_get-get_or guids at guid within ∙ ap Some (exact-guid (get_or guids at guid) guid (holds guid))

pub guid-is-found : (guids : List Guid) (guid : Guid) (at : ℕ) → IsStrictlySortedBy guid_cmp guids → Contains guids guid → IsBinarySearchResult (λ y. guid_cmp y guid) guids (Err at) → ⊥
guid-is-found guids guid at rising (k, within, is) result = by_place (cases_lt k at)
  where
    split : IsPartitionPoint (λ y. guid_cmp y guid ≡ Less) (λ y. guid_cmp y guid ≡ Greater) guids at
    split = result (searchable_from_sorted guid_total (λ x. x) guids guid (sorted-weakly guids rising))

    tied : guid_cmp (get_or guids k guid) guid ≡ Equal
    tied = ap (λ x. guid_cmp x guid) is ∙ tied_itself guid_total guid

    by_place : (k < at) ⊎ (at ≤ k) → ⊥
    by_place (inl before) = cc (sym (split.0 k guid (omega arith) before) ∙ tied)
    by_place (inr after) = cc (sym (split.1 k guid after within) ∙ tied)

-- ---- the sorted list of all GUIDs

abbrev guid_eq : Guid → Guid → Bool
guid_eq x y = bytes_eq x.0 y.0

guids-distinct : (p : Project) → IsKept p → IsDistinct guid_eq (map (λ asset. asset.guid) p.assets)
guids-distinct p kept = IsDistinct-from_apart guid_eq guids apart
  where
    guids : List Guid
    guids = map (λ asset. asset.guid) p.assets

    at : (i : ℕ) (d : Guid) → i < length guids → slice_get (asset_guids p.assets) i ≡ Some (get_or guids i d).0
    at i d within =
        let asset = from_map (λ (a : Asset). a.guid) p.assets i (get_or guids i d) (slice_get-get_or guids i d within) in
        to_map (λ (a : Asset). a.guid.0) p.assets i asset.0 asset.1 ∙ ap (λ (g : Guid). Some g.0) asset.2

    apart : (i j : ℕ) (d : Guid) → i < j → j < length guids → bytes_eq (get_or guids i d).0 (get_or guids j d).0 ≡ false
    apart i j d before within = false_from_ne_true (bytes_eq (get_or guids i d).0 (get_or guids j d).0) (λ same.
        (let one = kept.assets_once i j (get_or guids i d).0 (at i d (omega arith)) (at j d within ∙ ap Some (sym ((bytes_eq-Decides (get_or guids i d).0 (get_or guids j d).0).0 same))) in
        omega arith))

rising-guids : (sorted : List Guid) → IsDistinct guid_eq sorted → IsSorted guid_cmp sorted → IsStrictlySortedBy guid_cmp sorted
rising-guids sorted distinct ascends = sorted_from_all_adjacent guid_total sorted none (λ k within. by_order k within (guid_cmp (get_or sorted k none) (get_or sorted (k + 1) none)) refl)
  where
    none : Guid
    none = record { 0 = [] }

    by_order : (k : ℕ) → k + 1 < length sorted → (o : Ordering) → guid_cmp (get_or sorted k none) (get_or sorted (k + 1) none) ≡ o → guid_cmp (get_or sorted k none) (get_or sorted (k + 1) none) ≡ Less
    by_order k within Less is = is
    by_order k within Equal is =
        let differs = apart_from_distinct guid_eq sorted k (k + 1) none distinct (omega arith) within in
        let same = is_eq-slice_cmp (get_or sorted k none).0 (get_or sorted (k + 1) none).0 in
        absurd (false≢true (sym differs ∙ (sym same ∙ ap is_eq is)))
    by_order k within Greater is =
        let back = guid_total.antisymm (get_or sorted (k + 1) none) (get_or sorted k none) ∙ ap ordering_reverse is in
        absurd (false≢true (sym (ascends k none (omega arith) within) ∙ ap is_lt back))

pub guids-are : (p : Project) (sorted : List Guid) → IsKept p → IsPermutation (map (λ asset. asset.guid) p.assets) sorted → IsSorted guid_cmp sorted → AreGuids p sorted
guids-are p sorted kept moved ascends = record {
  list = record {
    rising = rising-guids sorted (IsDistinct-IsPermutation guid_eq (λ x y. nat_list_eq_equiv.symm x.0 y.0) guids sorted moved (guids-distinct p kept)) ascends;
    within = λ g here. within g (get_contained guids g (Contains-permutation sorted guids g (IsPermutation-sym guids sorted moved) here));
    all = λ g is. Contains-permutation guids sorted g moved (contained_get guids is.0 g (to_map (λ (a : Asset). a.guid) p.assets is.0 is.1.0 is.1.1 ∙ ap Some is.1.2));
  };
  as_many = as_many;
  few = (let few = few-assets p kept in let same = as_many in omega arith);
}
  where
    guids : List Guid
    guids = map (λ asset. asset.guid) p.assets

    within : (g : Guid) → (n : ℕ) × (slice_get guids n ≡ Some g) → IsGuid p g
    within g (n, at) = (n, from_map (λ (a : Asset). a.guid) p.assets n g at)

    as_many : length sorted ≡ length p.assets
    as_many = length_permutation guids sorted moved ∙ length-map p.assets (λ asset. asset.guid)

-- What is found by counts and marks are the duplicates; in the order of GUIDs they are the list of them, and there is one.
use Rattle.std.proofs.Common.{◌≡◌, ℕ, ◌+◌, ◌-◌, ◌*◌, ◌<◌, ◌≤◌, Bool, true, false, not, nat_eq, nat_lt, List, [], length, get_or, map, Some, refl, sym, ap, subst, ◌∙◌, arith}
use Rattle.std.proofs.Common.{Less, Equal, Greater}
use Rattle.std.proofs.lemmas.Bool.{eq-eqb, false≢true, lt-ltb, ltb-true, ne_eqb}
use Rattle.std.proofs.lemmas.Cmp.{eq_by_cmp_equiv, nat_list_cmp_total, on_total, tied_itself}
use Rattle.std.proofs.lemmas.List.{length-map}
use Rattle.std.proofs.lemmas.List.FromFn.{get_or-range_with_len, length-range_with_len}
use Rattle.std.proofs.lemmas.List.Elements.{All-contains, All-from_recursion, Contains-get_or}
use Rattle.std.proofs.lemmas.List.Kept.{IsStrictlySortedBy-filter}
use Rattle.std.proofs.lemmas.List.Sorted.{Contains-permutation, IsPermutation-sym}
use Rattle.std.proofs.lemmas.Map.Keys.{IsDistinct-IsPermutation, IsDistinct-from_apart, IsDistinct-from_sorted, Less-from_sorted, apart_from_distinct, sorted_from_all_adjacent, sorted_from_strictly_increasing}
use Rattle.std.proofs.lemmas.Map.Steps.{length-le_from_distinct_below}
use Rattle.std.proofs.lemmas.Map.Views.{length-le_from_below}
use Rattle.std.proofs.lemmas.Nat.{mul-le}
use Rattle.std.proofs.lemmas.Option.{get_or_from_slice_get, slice_get-get_or, slice_get_within}
use Rattle.std.specs.Cmp.{IsTotalOrder, nat_cmp_total, unsigned_tied}
use Rattle.std.specs.List.{Contains, IsDistinct, filter, range_with_len, slice_get}
use Rattle.std.specs.List.Sorted.{IsPermutation, IsSortedByKey, IsStrictlySortedBy}
use Rattle.std.specs.Ordering.{eq_by_cmp, is_lt, nat_cmp, ordering_reverse}
use Rattle.std.specs.declared.cmp.Ordering.{Ordering}
use Rattle.addr_base.specs.declared.ids.Guid.{Guid}
use Rattle.addr_layout.specs.declared.model.Layout.{Layout}
use Rattle.addr_layout.specs.Laws.{AtMostOne}
use Rattle.addr_layout.specs.Layout.{IsLayout}
use Rattle.addr_layout.specs.Members.{Member}
use Rattle.addr_layout.proofs.GuidLemmas.{exact-guid}
use Rattle.addr_layout.proofs.PlacedLemmas.{one-number}
use Rattle.addr_layout.proofs.RankLemmas.{same-some}
use Rattle.addr_layout.proofs.SharedLemmas.{few-bundles}
use Rattle.addr_pack.specs.declared.bundles.Plan.{Plan}
use Rattle.addr_pack.specs.Placement.{IsPlaced}
use Rattle.addr_project.specs.declared.limit.Limit.TheVariants as limit
use Rattle.addr_project.specs.declared.model.Asset.{Asset}
use Rattle.addr_project.specs.Kept.{IsKept}
use Rattle.addr_project.specs.Limits.{most}
use Rattle.addr_project.specs.Model.{Project}
use Rattle.addr_project.specs.Reach.{guid_cmp}
use Rattle.addr_project.proofs.OnceLemmas.{from_map}
use Rattle.addr_project.proofs.WalkLemmas.{both, with-both}
use Rattle.addr_walks.specs.Rows.{IsSizeOf}
use Rattle.addr_walks.proofs.Lists.{Contains-filter, Contains-map, Contains-slice_get, filter-Contains, map-Contains, one-list, sorted-map}
use Rattle.addr_walks.proofs.MarkLemmas.{any-Contains}
use Rattle.addr_analyze.specs.declared.duplicate.Duplicate.{Duplicate}
use Rattle.addr_analyze.specs.Counting.{AreCounts, AreMarks, duplicate_at, is_copied, no_asset}
use Rattle.addr_analyze.specs.Duplicates.{AreDuplicates, IsDuplicate, by_guid}
use Rattle.addr_analyze.proofs.CopyLemmas.{copies-counted, implicit-unmarked, unmarked-implicit}

-- ---- one list

pub guid-order : IsTotalOrder by_guid
guid-order = on_total (λ (d : Duplicate). d.guid.0) nat_list_cmp_total

pub one-list-of : (p : Project) (plan : Plan) → AtMostOne (AreDuplicates p plan)
one-list-of p plan = one-list guid-order (IsDuplicate p plan)

one-size : (set : ℕ → Type 0) (m n : ℕ) → IsSizeOf set m → IsSizeOf set n → m ≡ n
one-size set m n (xs, list, is) (ys, other, was) = is ∙ (ap length (one-list nat_cmp_total set xs ys list other) ∙ sym was)

-- ---- what is found

not-set : (t : Bool) → not t ≡ true → t ≡ false
not-set true is = absurd (false≢true is)
not-set false is = refl

duplicate-same : (d e : Duplicate) → d.asset ≡ e.asset → d.guid ≡ e.guid → d.bundles ≡ e.bundles → d.wasted ≡ e.wasted → d ≡ e
duplicate-same d e asset guid bundles wasted = λ i. record { asset = asset i; guid = guid i; bundles = bundles i; wasted = wasted i }

module _ (p : Project) (plan : Plan) (layout : Layout) (kept : IsKept p) (placed : IsPlaced p plan) (laid : IsLayout p plan layout)
    (counts : List ℕ) (counted : AreCounts (length p.assets) layout.bundles counts) (marks : List Bool) (marked : AreMarks (length p.assets) p.entries marks) where
  copies-of : (n : ℕ) (asset : Asset) → slice_get p.assets n ≡ Some asset → IsSizeOf (λ b. Member p plan b asset.guid) (get_or counts n 0)
  copies-of n asset at = copies-counted p plan layout kept placed laid n asset at (get_or counts n 0) (counted.each n)

  found-is : (n : ℕ) → n < length p.assets → is_copied counts marks n ≡ true → IsDuplicate p plan (duplicate_at p counts n)
  found-is n within is =
      let tests = both (not (get_or marks n false)) (nat_lt 1 (get_or counts n 0)) is in
      let asset = get_or p.assets n no_asset in
      let at = slice_get-get_or p.assets n no_asset within in
      let twice = ltb-true 1 (get_or counts n 0) tests.1 in
      record {
        asset = asset;
        at = at;
        guid = refl;
        implicit = unmarked-implicit p kept marks marked n asset at (not-set (get_or marks n false) tests.0);
        bundles = copies-of n asset at;
        twice = omega arith;
        wasted = refl;
      }

  is-found : (d : Duplicate) → IsDuplicate p plan d → (is_copied counts marks d.asset ≡ true) × (duplicate_at p counts d.asset ≡ d)
  is-found d is =
      let asset : get_or p.assets d.asset no_asset ≡ is.asset = get_or_from_slice_get p.assets d.asset is.asset no_asset is.at in
      let count = one-size (λ b. Member p plan b is.asset.guid) (get_or counts d.asset 0) d.bundles (copies-of d.asset is.asset is.at) is.bundles in
      let unset = implicit-unmarked p kept marks marked d.asset is.asset is.at is.implicit in
      let many = lt-ltb 1 (get_or counts d.asset 0) (let twice = is.twice in omega arith) in (
        with-both (not (get_or marks d.asset false)) (nat_lt 1 (get_or counts d.asset 0)) (ap not unset) many,
        duplicate-same (duplicate_at p counts d.asset) d refl (ap (λ (a : Asset). a.guid) asset ∙ sym is.guid) count
            (ap (λ (a : Asset). (get_or counts d.asset 0 - 1) * length a.bytes) asset ∙ (ap (λ m. (m - 1) * length is.asset.bytes) count ∙ sym is.wasted)),
      )

  -- in the order of their numbers
  abbrev numbers : List ℕ
  numbers = filter (is_copied counts marks) (range_with_len 0 (length p.assets))

  in-range : (n : ℕ) → Contains (range_with_len 0 (length p.assets)) n → n < length p.assets
  in-range n (k, within, is) =
      let long = length-range_with_len 0 (length p.assets) in
      let here = get_or-range_with_len 0 (length p.assets) k n (omega arith) in
      omega arith

  range-has : (n : ℕ) → n < length p.assets → Contains (range_with_len 0 (length p.assets)) n
  range-has n within = (n, (let long = length-range_with_len 0 (length p.assets) in omega arith), (let here = get_or-range_with_len 0 (length p.assets) n n within in omega arith))

  found-within : (d : Duplicate) → Contains (map (duplicate_at p counts) numbers) d → IsDuplicate p plan d
  found-within d here =
      let from = map-Contains (duplicate_at p counts) numbers d here in
      let copied = filter-Contains (is_copied counts marks) (range_with_len 0 (length p.assets)) from.0 from.1 in
      subst (IsDuplicate p plan) from.2 (found-is from.0 (in-range from.0 copied.0) copied.1)

  found-all : (d : Duplicate) → IsDuplicate p plan d → Contains (map (duplicate_at p counts) numbers) d
  found-all d is =
      let found = is-found d is in
      let within = slice_get_within p.assets d.asset is.asset is.at in
      subst (Contains (map (duplicate_at p counts) numbers)) found.1 (Contains-map (duplicate_at p counts) numbers d.asset
      (Contains-filter (is_copied counts marks) (range_with_len 0 (length p.assets)) d.asset (range-has d.asset within) found.0))

-- ---- in the order of GUIDs

abbrev by_number : Duplicate → Duplicate → Ordering
by_number d e = nat_cmp d.asset e.asset

number-order : IsTotalOrder by_number
number-order = on_total (λ (d : Duplicate). d.asset) nat_cmp_total

rising-range : (n : ℕ) → IsStrictlySortedBy nat_cmp (range_with_len 0 n)
rising-range n = sorted_from_strictly_increasing (range_with_len 0 n) (λ k within.
    (let long = length-range_with_len 0 n in
    let here = get_or-range_with_len 0 n k 0 (omega arith) in
    let next = get_or-range_with_len 0 n (k + 1) 0 (omega arith) in
    omega arith))

module _ (p : Project) (plan : Plan) (kept : IsKept p) where
  same-number : (d e : Duplicate) → IsDuplicate p plan d → IsDuplicate p plan e → by_guid d e ≡ Equal → d.asset ≡ e.asset
  same-number d e is also tied =
      let same = exact-guid d.guid e.guid tied in
      one-number p kept d.asset e.asset is.asset.guid (is.asset, is.at, refl) (also.asset, also.at, sym also.guid ∙ (sym same ∙ is.guid))

  rising : (sorted : List Duplicate) → ((d : Duplicate) → Contains sorted d → IsDuplicate p plan d) → IsDistinct (eq_by_cmp by_number) sorted → IsSortedByKey (λ d. d.guid) guid_cmp sorted → IsStrictlySortedBy by_guid sorted
  rising sorted are distinct ascends = sorted_from_all_adjacent guid-order sorted none (λ k within. by_order k within (by_guid (get_or sorted k none) (get_or sorted (k + 1) none)) refl)
    where
      none : Duplicate
      none = record { asset = 0; guid = record { 0 = [] }; bundles = 0; wasted = 0 }

      by_order : (k : ℕ) → k + 1 < length sorted → (o : Ordering) → by_guid (get_or sorted k none) (get_or sorted (k + 1) none) ≡ o → by_guid (get_or sorted k none) (get_or sorted (k + 1) none) ≡ Less
      by_order k within Less is = is
      by_order k within Equal is =
          let here = are (get_or sorted k none) (Contains-get_or sorted k none (omega arith)) in
          let next = are (get_or sorted (k + 1) none) (Contains-get_or sorted (k + 1) none within) in
          let same = same-number (get_or sorted k none) (get_or sorted (k + 1) none) here next is in
          let differs = apart_from_distinct (eq_by_cmp by_number) sorted k (k + 1) none distinct (omega arith) within in
          absurd (false≢true (sym differs ∙ eq-number (get_or sorted k none) (get_or sorted (k + 1) none) same))
        where
          eq-number : (d e : Duplicate) → d.asset ≡ e.asset → eq_by_cmp by_number d e ≡ true
          eq-number d e same = unsigned_tied d.asset e.asset ∙ eq-eqb d.asset e.asset same
      by_order k within Greater is =
          let back = guid-order.antisymm (get_or sorted (k + 1) none) (get_or sorted k none) ∙ ap ordering_reverse is in
          absurd (false≢true (sym (ascends k none (omega arith) within) ∙ ap is_lt back))

pub found-are : (p : Project) (plan : Plan) (layout : Layout) (counts : List ℕ) (marks : List Bool) (found sorted : List Duplicate) → IsKept p → IsPlaced p plan → IsLayout p plan layout
    → AreCounts (length p.assets) layout.bundles counts → AreMarks (length p.assets) p.entries marks → found ≡ map (duplicate_at p counts) (filter (is_copied counts marks) (range_with_len 0 (length p.assets)))
    → IsPermutation found sorted → IsSortedByKey (λ d. d.guid) guid_cmp sorted → AreDuplicates p plan sorted
found-are p plan layout counts marks found sorted kept placed laid counted marked is moved ascends = record {
  rising = rising p plan kept sorted within distinct ascends;
  within = within;
  all = λ d duplicate. Contains-permutation found sorted d moved (subst (λ (ds : List Duplicate). Contains ds d) (sym is) (found-all p plan layout kept placed laid counts counted marks marked d duplicate));
}
  where
    within : (d : Duplicate) → Contains sorted d → IsDuplicate p plan d
    within d here =
        found-within p plan layout kept placed laid counts counted marks marked d (subst (λ (ds : List Duplicate). Contains ds d) is (Contains-permutation sorted found d (IsPermutation-sym found sorted moved) here))

    by-number : IsStrictlySortedBy by_number found
    by-number = subst (IsStrictlySortedBy by_number) (sym is) (sorted-map nat_cmp by_number (duplicate_at p counts) (filter (is_copied counts marks) (range_with_len 0 (length p.assets)))
        (λ m n here there less. less) (IsStrictlySortedBy-filter nat_cmp (is_copied counts marks) (range_with_len 0 (length p.assets)) (rising-range (length p.assets))))

    distinct : IsDistinct (eq_by_cmp by_number) sorted
    distinct = IsDistinct-IsPermutation (eq_by_cmp by_number) (eq_by_cmp_equiv number-order).symm found sorted moved (IsDistinct-from_sorted by_number found by-number)

-- ---- bounds

module _ (p : Project) (plan : Plan) (kept : IsKept p) (placed : IsPlaced p plan) where
  pub bytes-few : (n : ℕ) (asset : Asset) → slice_get p.assets n ≡ Some asset → length asset.bytes ≤ 67108864
  bytes-few n asset at = All-contains (λ (a : Asset). length a.bytes ≤ most limit.AssetBytes) p.assets asset (All-from_recursion (λ (a : Asset). length a.bytes ≤ most limit.AssetBytes) p.assets kept.bounds.bytes) (Contains-slice_get p.assets n asset at)

  bundles-few : (d : Duplicate) → IsDuplicate p plan d → d.bundles ≤ 65536
  bundles-few d is =
      let (xs, list, size) = is.bundles in
      let few = few-bundles p plan placed kept in
      let below = length-le_from_below (length plan.bundles) xs list.rising (λ k e within.
      (let member = list.within (get_or xs k e) (Contains-get_or xs k e within) in slice_get_within plan.bundles (get_or xs k e) member.1.1.0 member.1.1.1)) in
      omega arith

  pub wasted-few : (d : Duplicate) → IsDuplicate p plan d → d.wasted ≤ 4398046511104
  wasted-few d is =
      let product = mul-le (d.bundles - 1) (length is.asset.bytes) 65536 67108864 (let few = bundles-few d is in omega arith) (bytes-few d.asset is.asset is.at) in
      let same = is.wasted in
      omega arith

  tied : (d e : Duplicate) → IsDuplicate p plan d → IsDuplicate p plan e → d.asset ≡ e.asset → by_guid d e ≡ Equal
  tied d e is also same =
      let asset = same-some is.asset also.asset (sym is.at ∙ (ap (slice_get p.assets) same ∙ also.at)) in
      let guid = is.guid ∙ (ap (λ (a : Asset). a.guid) asset ∙ sym also.guid) in
      ap (λ (g : Guid). guid_cmp g e.guid) guid ∙ tied_itself guid-order e

  pub found-few : (found : List Duplicate) → AreDuplicates p plan found → length found ≤ 65536
  found-few found are =
      let few : length p.assets ≤ 65536 = kept.bounds.assets in
      let long = length-map found number in
      let short = length-le_from_distinct_below (map number found) (length p.assets) (IsDistinct-from_apart nat_eq (map number found) apart) (λ n any. below n (map-Contains number found n (any-Contains n (map number found) any))) in
      omega arith
    where
      number : Duplicate → ℕ
      number d = d.asset

      below : (n : ℕ) → (d : Duplicate) × Contains found d × (number d ≡ n) → n < length p.assets
      below n (d, here, is) = let duplicate = are.within d here in let inside = slice_get_within p.assets d.asset duplicate.asset duplicate.at in omega arith

      at : (i x : ℕ) → i < length (map number found) → (d : Duplicate) × (slice_get found i ≡ Some d) × (number d ≡ get_or (map number found) i x)
      at i x within = from_map number found i (get_or (map number found) i x) (slice_get-get_or (map number found) i x within)

      apart : (i j x : ℕ) → i < j → j < length (map number found) → nat_eq (get_or (map number found) i x) (get_or (map number found) j x) ≡ false
      apart i j x before within = ne_eqb (get_or (map number found) i x) (get_or (map number found) j x) (λ same. differ (at i x (omega arith)) (at j x within) same)
        where
          differ : (d : Duplicate) × (slice_get found i ≡ Some d) × (number d ≡ get_or (map number found) i x) → (e : Duplicate) × (slice_get found j ≡ Some e) × (number e ≡ get_or (map number found) j x)
              → get_or (map number found) i x ≡ get_or (map number found) j x → ⊥
          differ (d, d-at, d-is) (e, e-at, e-is) same =
              let equal = tied d e (are.within d (Contains-slice_get found i d d-at)) (are.within e (Contains-slice_get found j e e-at)) (d-is ∙ (same ∙ sym e-is)) in
              let less = Less-from_sorted by_guid found i j d are.rising before (slice_get_within found j e e-at) in
              let rises : by_guid d e ≡ Less = ap (λ (y : Duplicate). by_guid y e) (sym (get_or_from_slice_get found i d d d-at)) ∙ (ap (by_guid (get_or found i d)) (sym (get_or_from_slice_get found j e d e-at)) ∙ less) in
              cc (sym equal ∙ rises)

-- a list of duplicates has one of each GUID
pub one-duplicate : (p : Project) (plan : Plan) → IsKept p → (found : List Duplicate) → AreDuplicates p plan found → (d e : Duplicate) → Contains found d → Contains found e → d.guid ≡ e.guid → d ≡ e
one-duplicate p plan kept found are d e here there same =
    let is = are.within d here in
    let also = are.within e there in
    let number = one-number p kept d.asset e.asset is.asset.guid (is.asset, is.at, refl) (also.asset, also.at, sym also.guid ∙ (sym same ∙ is.guid)) in
    let asset = same-some is.asset also.asset (sym is.at ∙ (ap (slice_get p.assets) number ∙ also.at)) in
    let count = one-size (λ b. Member p plan b is.asset.guid) d.bundles e.bundles is.bundles (subst (λ (a : Asset). IsSizeOf (λ b. Member p plan b a.guid) e.bundles) (sym asset) also.bundles) in
    duplicate-same d e number same count (is.wasted ∙ (ap (λ m. (m - 1) * length is.asset.bytes) count ∙ (ap (λ (a : Asset). (e.bundles - 1) * length a.bytes) asset ∙ sym also.wasted)))

-- The members of a bundle of a project's own placement: none twice, each an asset's number; and counts of them stay small.
use Rattle.std.proofs.Common.{◌≡◌, ℕ, ◌<◌, ◌≤◌, nat_eq, List, [], length, get_or, take, Some, subst, arith}
use Rattle.std.proofs.lemmas.Bool.{ne_eqb}
use Rattle.std.proofs.lemmas.Cmp.{nat_list_cmp_total, on_total}
use Rattle.std.proofs.lemmas.List.{length-take-le}
use Rattle.std.proofs.lemmas.List.Elements.{Contains-get_or}
use Rattle.std.proofs.lemmas.List.Sums.{count_by-le-length}
use Rattle.std.proofs.lemmas.Map.Keys.{IsDistinct-from_apart}
use Rattle.std.proofs.lemmas.Map.Steps.{length-le_from_distinct_below}
use Rattle.std.proofs.lemmas.Option.{slice_get-get_or, slice_get_within}
use Rattle.std.specs.Bool.{MatchBool}
use Rattle.std.specs.Cmp.{IsTotalOrder}
use Rattle.std.specs.List.{All, Contains, IsDistinct, count_by, slice_get}
use Rattle.addr_layout.specs.declared.model.LayBundle.{LayBundle}
use Rattle.addr_layout.specs.declared.model.Layout.{Layout}
use Rattle.addr_layout.specs.Layout.{AreMembers, IsBare, IsFull, IsLayout, by_guid}
use Rattle.addr_pack.specs.declared.bundles.Plan.{Plan}
use Rattle.addr_pack.specs.Placement.{IsPlaced}
use Rattle.addr_project.specs.Kept.{IsKept, asset_guids}
use Rattle.addr_project.specs.Model.{Project}
use Rattle.addr_walks.proofs.Lists.{sorted-once}
use Rattle.addr_walks.proofs.MarkLemmas.{any-Contains}
use Rattle.addr_analyze.specs.Counting.{has_member}

by-guid : (p : Project) → IsTotalOrder (by_guid p)
by-guid p = on_total (λ (n : ℕ). get_or (asset_guids p.assets) n []) nat_list_cmp_total

once : (p : Project) (plan : Plan) (b : ℕ) (xs : List ℕ) → AreMembers p plan b xs → IsDistinct nat_eq xs
once p plan b xs are = IsDistinct-from_apart nat_eq xs (λ i j d before within. ne_eqb (get_or xs i d) (get_or xs j d) (λ same.
    (let at = slice_get-get_or xs i d (omega arith) in
    let there = slice_get-get_or xs j d within in
    let one = sorted-once (by-guid p) xs are.rising i j (get_or xs j d) (subst (λ x. slice_get xs i ≡ Some x) same at) there in
    omega arith)))

below : (p : Project) (plan : Plan) (b : ℕ) (xs : List ℕ) → AreMembers p plan b xs → (n : ℕ) → Contains xs n → n < length p.assets
below p plan b xs are n here = let member = are.within n here in slice_get_within p.assets n member.1.0 member.1.1

module _ (p : Project) (plan : Plan) (layout : Layout) (kept : IsKept p) (placed : IsPlaced p plan) (laid : IsLayout p plan layout) where
  pub full-at : (b : ℕ) (lay : LayBundle) → slice_get layout.bundles b ≡ Some lay → IsFull p plan b lay
  full-at b lay at =
      let is = laid.laid b lay at in
      subst (λ t. MatchBool t (IsBare lay) (IsFull p plan b lay)) (placed.classes b is.0 is.1).new is.2

  pub members-once : (b : ℕ) (lay : LayBundle) → slice_get layout.bundles b ≡ Some lay → IsDistinct nat_eq lay.members
  members-once b lay at = once p plan b lay.members (full-at b lay at).members

  pub members-below : (b : ℕ) (lay : LayBundle) → slice_get layout.bundles b ≡ Some lay → All (λ n. n < length p.assets) lay.members
  members-below b lay at = λ k d within. below p plan b lay.members (full-at b lay at).members (get_or lay.members k d) (Contains-get_or lay.members k d within)

  pub members-few : (b : ℕ) (lay : LayBundle) → slice_get layout.bundles b ≡ Some lay → length lay.members ≤ 65536
  members-few b lay at =
      let few : length p.assets ≤ 65536 = kept.bounds.assets in
      let short = length-le_from_distinct_below lay.members (length p.assets) (members-once b lay at) (λ n any. below p plan b lay.members (full-at b lay at).members n (any-Contains n lay.members any)) in
      omega arith

-- no count of the first k bundles is above k
pub count-small : (bundles : List LayBundle) (k n count : ℕ) → k ≤ length bundles → count ≡ count_by (has_member n) (take k bundles) → count ≤ k
count-small bundles k n count within is =
    let most = count_by-le-length (has_member n) (take k bundles) in
    let long = length-take-le k bundles within in
    omega arith

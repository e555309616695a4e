-- The direct lists of a layout: their edges are the needs of the bundles that aren't kept.
use Rattle.std.proofs.Common.{◌≡◌, ◌≢◌, ℕ, ◌<◌, Bool, true, false, List, [], length, get_or, Some, sym, subst, ◌∙◌, arith}
use Rattle.std.proofs.lemmas.List.{length-map}
use Rattle.std.proofs.lemmas.Option.{slice_get_within, slice_get-get_or}
use Rattle.std.specs.Bool.{MatchBool}
use Rattle.std.specs.List.{Contains, slice_get}
use Rattle.addr_pack.specs.declared.bundles.Plan.{Plan}
use Rattle.addr_project.specs.Model.{Project}
use Rattle.addr_project.proofs.OnceLemmas.{to_map, from_map}
use Rattle.addr_walks.specs.Closure.{IsDeps}
use Rattle.addr_walks.specs.Rows.{AreBelow, Edge}
use Rattle.addr_walks.specs.Walks.{Leads}
use Rattle.addr_walks.proofs.Lists.{Contains-none, IsListOf-same}
use Rattle.addr_walks.proofs.Walking.{Leads-map}
use Rattle.addr_layout.specs.declared.model.LayBundle.{LayBundle}
use Rattle.addr_layout.specs.declared.model.Layout.{Layout}
use Rattle.addr_layout.specs.Direct.{ClosesNeeds, IsAllNew, direct_lists}
use Rattle.addr_layout.specs.Layout.{IsBare, IsFull, IsLaid, IsLayout}
use Rattle.addr_layout.specs.Needs.{Needs}

-- what a step to the same things leads to
pub deps-same : (step other : ℕ → ℕ → Type 0) → ((b c : ℕ) → step b c → other b c) → ((b c : ℕ) → other b c → step b c) → (b : ℕ) (deps : List ℕ) → IsDeps step b deps → IsDeps other b deps
deps-same step other to from b deps (rest, is, list) = (
  rest,
  is,
  IsListOf-same (λ c. (b ≢ c) × Leads step b c) (λ c. (b ≢ c) × Leads other b c)
      (λ c (apart, walk). (apart, Leads-map step other (λ x. x) to b c walk)) (λ c (apart, walk). (apart, Leads-map other step (λ x. x) from b c walk)) rest list,
)

module _ (p : Project) (plan : Plan) (layout : Layout) (laid : IsLayout p plan layout) where
  pub as-many : length (direct_lists layout) ≡ length plan.bundles
  as-many = length-map layout.bundles (λ (lay : LayBundle). lay.direct) ∙ laid.as_many

  needed-by : (b c : ℕ) (lay : LayBundle) (kept : Bool) → MatchBool kept (IsBare lay) (IsFull p plan b lay) → Contains lay.direct c → Needs p plan b c
  needed-by b c lay true bare here = absurd (Contains-none c (subst (λ xs. Contains xs c) bare.2 here))
  needed-by b c lay false full here = full.direct.within c here

  pub edge-needs : (b c : ℕ) → Edge (direct_lists layout) b c → Needs p plan b c
  edge-needs b c (row, at, here) =
      let from = from_map (λ (lay : LayBundle). lay.direct) layout.bundles b row at in
      let is = laid.laid b from.0 from.1 in
      needed-by b c from.0 is.0.kept is.2 (subst (λ xs. Contains xs c) (sym from.2) here)

  pub below : AreBelow (direct_lists layout) (length (direct_lists layout))
  below = record { each = λ b c edge. inside c (edge-needs b c edge) }
    where
      inside : {b : ℕ} (c : ℕ) → Needs p plan b c → c < length (direct_lists layout)
      inside c (apart, x, y, member, refers, (n, (bundle, at, here), entry)) =
          let within = slice_get_within plan.bundles c bundle at in
          let same = as-many in
          omega arith

  needs-edge : IsAllNew plan → (b c : ℕ) → Needs p plan b c → Edge (direct_lists layout) b c
  needs-edge new b c (apart, x, y, (e, (n, (bundle, at, here), entry), walk), refers, has) = by_test is.0.kept (new b is.0 is.1) is.2
    where
      none : LayBundle
      none = record { members = []; refs = []; direct = [] }

      there : slice_get layout.bundles b ≡ Some (get_or layout.bundles b none)
      there = slice_get-get_or layout.bundles b none (let within = slice_get_within plan.bundles b bundle at in let same = laid.as_many in omega arith)

      is : IsLaid p plan b (get_or layout.bundles b none)
      is = laid.laid b (get_or layout.bundles b none) there

      by_test : (kept : Bool) → kept ≡ false → MatchBool kept (IsBare (get_or layout.bundles b none)) (IsFull p plan b (get_or layout.bundles b none)) → Edge (direct_lists layout) b c
      by_test true not-new bare = absurd (cc not-new)
      by_test false not-new full = (
        (get_or layout.bundles b none).direct,
        to_map (λ (l : LayBundle). l.direct) layout.bundles b (get_or layout.bundles b none) there,
        full.direct.all c (apart, x, y, (e, (n, (bundle, at, here), entry), walk), refers, has),
      )

  pub closes : IsAllNew plan → ClosesNeeds p plan layout
  closes new b deps = (deps-same (Edge (direct_lists layout)) (Needs p plan) edge-needs (needs-edge new) b deps, deps-same (Needs p plan) (Edge (direct_lists layout)) (needs-edge new) edge-needs b deps)

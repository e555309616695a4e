-- Dependency lists over the direct lists of a layout are those of the bundles' needs.
use Rattle.std.proofs.Common.{◌≡◌, ℕ, List, subst}
use Rattle.addr_project.specs.Model.{Project}
use Rattle.addr_pack.specs.declared.bundles.Plan.{Plan}
use Rattle.addr_walks.specs.Closure.{AreDeps, IsDeps}
use Rattle.addr_walks.specs.Places.{EachAt}
use Rattle.addr_walks.specs.Rows.{Edge}
use Rattle.addr_walks.proofs.Lists.{EachAt-same}
use Rattle.addr_layout.specs.Direct.{ClosesNeeds, direct_lists}
use Rattle.addr_layout.specs.Needs.{Needs}
use Rattle.addr_layout.specs.declared.model.Layout.{Layout}

module _ (p : Project) (plan : Plan) (layout : Layout) (closes : ClosesNeeds p plan layout) (rows : List (List ℕ)) (same : rows ≡ direct_lists layout) where
  direct : (all : List (List ℕ)) → AreDeps rows all → AreDeps (direct_lists layout) all
  direct all deps = subst (λ (r : List (List ℕ)). AreDeps r all) same deps

  pub needs-deps : (all : List (List ℕ)) → AreDeps rows all → EachAt (IsDeps (Needs p plan)) all
  needs-deps all deps = EachAt-same (IsDeps (Edge (direct_lists layout))) (IsDeps (Needs p plan)) all (λ k xs is. (closes k xs).0 is) (direct all deps).deps

-- The direct lists of a layout: what each bundle needs, as rows of numbers.
use Rattle.std.specs.Prelude.{ℕ, ◌≡◌, ◌↔◌, List, map, false, Some}
use Rattle.std.specs.List.{slice_get}
use Rattle.addr_pack.specs.declared.bundles.Plan.{Plan}
use Rattle.addr_pack.specs.declared.bundles.PlanBundle.{PlanBundle}
use Rattle.addr_project.specs.Model.{Project}
use Rattle.addr_walks.specs.Closure.{IsDeps}
use Rattle.addr_walks.specs.Rows.{Edge}
use Rattle.addr_layout.specs.declared.model.Layout.{Layout}
use Rattle.addr_layout.specs.Needs.{Needs}

-- what each bundle needs, by the numbers of bundles
abbrev pub direct_lists : Layout → List (List ℕ)
direct_lists layout = map (λ lay. lay.direct) layout.bundles

-- no bundle is taken over from an earlier release
abbrev pub IsAllNew : Plan → Type 0
IsAllNew plan = (b : ℕ) (bundle : PlanBundle) → slice_get plan.bundles b ≡ Some bundle → bundle.kept ≡ false

-- the dependency lists over rows are those of a step of needing
abbrev pub Closes : (ℕ → ℕ → Type 0) → List (List ℕ) → Type 0
Closes needs rows = (b : ℕ) (deps : List ℕ) → IsDeps (Edge rows) b deps ↔ IsDeps needs b deps

-- the dependency lists over the direct lists are those of the bundles' needs
abbrev pub ClosesNeeds : Project → Plan → Layout → Type 0
ClosesNeeds p plan layout = Closes (Needs p plan) (direct_lists layout)

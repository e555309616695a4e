-- Whole counts over all bundles: of members, and of dependencies.
use Rattle.std.specs.Prelude.{ℕ, ◌≡◌, List, [], length, map, Some}
use Rattle.std.specs.Bool.{MatchBool}
use Rattle.std.specs.List.{slice_get, sum}
use Rattle.addr_pack.specs.declared.bundles.Plan.{Plan}
use Rattle.addr_pack.specs.declared.bundles.PlanBundle.{PlanBundle}
use Rattle.addr_project.specs.Model.{Project}
use Rattle.addr_walks.specs.Closure.{IsDeps}
use Rattle.addr_walks.specs.Places.{EachAt}
use Rattle.addr_layout.specs.Layout.{AreMembers}
use Rattle.addr_layout.specs.Needs.{Needs}

-- lists for all bundles of a placement, each as its bundle wants it
pub record AreFor (plan : Plan) (fits : ℕ → List ℕ → Type 0) (lists : List (List ℕ)) : Type 0 where
  pub as_many : length lists ≡ length plan.bundles
  pub each : EachAt fits lists

-- a kept bundle counts no members
abbrev pub AreCounted : Project → Plan → ℕ → List ℕ → Type 0
AreCounted p plan b members = (bundle : PlanBundle) × (slice_get plan.bundles b ≡ Some bundle) × MatchBool bundle.kept (members ≡ []) (AreMembers p plan b members)

-- the members of all bundles together
abbrev pub IsMembersCount : Project → Plan → ℕ → Type 0
IsMembersCount p plan n = (lists : List (List ℕ)) × AreFor plan (AreCounted p plan) lists × (n ≡ sum (map length lists))

-- the dependencies of all bundles together over a step of needing, each bundle itself with them
abbrev pub IsDepsCountOver : (ℕ → ℕ → Type 0) → Plan → ℕ → Type 0
IsDepsCountOver needs plan n = (lists : List (List ℕ)) × AreFor plan (IsDeps needs) lists × (n ≡ sum (map length lists))

-- the same where each bundle needs what its members refer to
abbrev pub IsDepsCount : Project → Plan → ℕ → Type 0
IsDepsCount p plan n = IsDepsCountOver (Needs p plan) plan n

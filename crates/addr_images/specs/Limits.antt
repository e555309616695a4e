-- The limits of a project's own placement, and of that of an update, in the order in which they are tested, each with the whole
-- count.
use Rattle.std.specs.Prelude.{ℕ, ◌≡◌, ◌≤◌, ◌<◌}
use Rattle.addr_layout.specs.Counts.{IsDepsCount, IsDepsCountOver, IsMembersCount}
use Rattle.addr_pack.specs.LongNames.{IsFirstLong, NamesFit}
use Rattle.addr_pack.specs.Placement.{IsPlaced}
use Rattle.addr_pack.specs.declared.bundles.Plan.{Plan}
use Rattle.addr_project.specs.Limits.{most}
use Rattle.addr_project.specs.declared.limit.Limit.{Limit}
use Rattle.addr_project.specs.declared.limit.Limit.TheVariants as limit
use Rattle.addr_project.specs.Model.{Project}
use Rattle.addr_images.specs.Sizes.{IsBytesCount}
use Rattle.addr_images.specs.declared.limits.LimitErr.{LimitErr}
use Rattle.addr_images.specs.declared.limits.LimitErr.TheVariants.{TooLarge, NoMemory}

-- a count is within a limit, or passes it
abbrev pub Fits : (ℕ → Type 0) → Limit → Type 0
Fits counts which = (n : ℕ) × counts n × (n ≤ most which)

abbrev pub Passes : (ℕ → Type 0) → Limit → ℕ → Type 0
Passes counts which n = counts n × (most which < n)

-- why a count isn't taken: it passes its limit
abbrev pub RefusesCount : (ℕ → Type 0) → Limit → LimitErr → Type 0
RefusesCount counts which (TooLarge other n) = (other ≡ which) × Passes counts which n
RefusesCount counts which NoMemory = Unit {0}

-- ---- a full build

-- a placement of the project that keeps to the limits of names, members and dependencies
pub record IsPlanWithin (p : Project) (plan : Plan) : Type 0 where
  pub placed : IsPlaced p plan
  pub names : NamesFit p
  pub members : Fits (IsMembersCount p plan) limit.Members
  pub deps : Fits (IsDepsCount p plan) limit.Deps

-- the first limit that planning passes, in the order names, members, dependencies
abbrev pub PlanPasses : Project → Limit → ℕ → Type 0
PlanPasses p limit.BundleName n = (x : ℕ) × IsFirstLong p x n
PlanPasses p limit.Members n = NamesFit p × (plan : Plan) × IsPlaced p plan × Passes (IsMembersCount p plan) limit.Members n
PlanPasses p limit.Deps n = NamesFit p × (plan : Plan) × IsPlaced p plan × Fits (IsMembersCount p plan) limit.Members × Passes (IsDepsCount p plan) limit.Deps n
PlanPasses p _ n = ⊥

-- why a project has no placement within the limits
abbrev pub RefusesPlan : Project → LimitErr → Type 0
RefusesPlan p (TooLarge which n) = PlanPasses p which n
RefusesPlan p NoMemory = Unit {0}

-- why the files of a placement aren't made: they pass the last limit
abbrev pub BytesPass : Project → Plan → Limit → ℕ → Type 0
BytesPass p plan limit.BundleBytes n = Passes (IsBytesCount p plan) limit.BundleBytes n
BytesPass p plan _ n = ⊥

abbrev pub RefusesLayout : Project → Plan → LimitErr → Type 0
RefusesLayout p plan (TooLarge which n) = BytesPass p plan which n
RefusesLayout p plan NoMemory = Unit {0}

-- ---- an update

-- an update's release in its placement keeps to the limits of members, of dependencies over what bundles need, and of bytes
pub record UpdateFits (p : Project) (plan : Plan) (needs : ℕ → ℕ → Type 0) : Type 0 where
  pub members : Fits (IsMembersCount p plan) limit.Members
  pub deps : Fits (IsDepsCountOver needs plan) limit.Deps
  pub bytes : Fits (IsBytesCount p plan) limit.BundleBytes

-- the first of these limits that it passes
abbrev pub UpdatePasses : Project → Plan → (ℕ → ℕ → Type 0) → Limit → ℕ → Type 0
UpdatePasses p plan needs limit.Members n = Passes (IsMembersCount p plan) limit.Members n
UpdatePasses p plan needs limit.Deps n = Fits (IsMembersCount p plan) limit.Members × Passes (IsDepsCountOver needs plan) limit.Deps n
UpdatePasses p plan needs limit.BundleBytes n = Fits (IsMembersCount p plan) limit.Members
    × Fits (IsDepsCountOver needs plan) limit.Deps × Passes (IsBytesCount p plan) limit.BundleBytes n
UpdatePasses p plan needs _ n = ⊥

-- why an update's files aren't made
abbrev pub RefusesUpdate : Project → Plan → (ℕ → ℕ → Type 0) → LimitErr → Type 0
RefusesUpdate p plan needs (TooLarge which n) = UpdatePasses p plan needs which n
RefusesUpdate p plan needs NoMemory = Unit {0}

-- Bundles that are kept from an earlier release: what they need, and where their references lead, is said by their files
-- and not by today's project. Each definition takes what is said of them as an argument.
use Rattle.std.specs.Prelude.{ℕ, ◌≡◌, ◌≢◌, ◌⊎◌, length, List, Bool, true, false, Some}
use Rattle.std.specs.List.{slice_get}
use Rattle.addr_base.specs.declared.ids.Guid.{Guid}
use Rattle.addr_pack.specs.declared.bundles.Plan.{Plan}
use Rattle.addr_pack.specs.declared.bundles.PlanBundle.{PlanBundle}
use Rattle.addr_project.specs.Model.{Project}
use Rattle.addr_project.specs.Reach.{Refers}
use Rattle.addr_layout.specs.declared.model.LayBundle.{LayBundle}
use Rattle.addr_layout.specs.declared.model.Layout.{Layout}
use Rattle.addr_layout.specs.Agreement.{AgreesOver, Place}
use Rattle.addr_layout.specs.Members.{EachPlaced, HasEntry, Member}
use Rattle.addr_layout.specs.Needs.{Home, Needs}

-- a bundle is made anew, or kept
abbrev pub IsNewAt : Plan → ℕ → Type 0
IsNewAt plan b = (bundle : PlanBundle) × (slice_get plan.bundles b ≡ Some bundle) × (bundle.kept ≡ false)

abbrev pub IsKeptAt : Plan → ℕ → Type 0
IsKeptAt plan b = (bundle : PlanBundle) × (slice_get plan.bundles b ≡ Some bundle) × (bundle.kept ≡ true)

-- what bundles need: a kept one what is said of it, and any other what its members refer to
abbrev pub NeedsWith : (ℕ → ℕ → Type 0) → Project → Plan → ℕ → ℕ → Type 0
NeedsWith names p plan b c = (IsNewAt plan b × Needs p plan b c) ⊎ (IsKeptAt plan b × names b c)

-- there is a row for each bundle, and that of a new one is its direct list
pub record HaveDirect (plan : Plan) (layout : Layout) (rows : List (List ℕ)) : Type 0 where
  pub as_many : length rows ≡ length plan.bundles
  pub new : (b : ℕ) (lay : LayBundle) → IsNewAt plan b → slice_get layout.bundles b ≡ Some lay → slice_get rows b ≡ Some lay.direct

-- what stands at a place: a member of a new bundle, or what is said to be held by a kept one
abbrev pub StandsWith : (ℕ → Guid → Type 0) → Project → Plan → Place → Type 0
StandsWith holds p plan q = (IsNewAt plan q.bundle × Member p plan q.bundle q.guid) ⊎ (IsKeptAt plan q.bundle × holds q.bundle q.guid)

-- a reference is followed to its home: from a new bundle to that of the placement, from a kept one to where the reference of its
-- object is said to lead
abbrev pub FollowsWith : (ℕ → Guid → Guid → ℕ → Type 0) → Project → Plan → Place → Place → Type 0
FollowsWith homes p plan from to = Refers p from.guid to.guid
    × ((IsNewAt plan from.bundle × Home p plan from.bundle to.guid to.bundle) ⊎ (IsKeptAt plan from.bundle × homes from.bundle from.guid to.guid to.bundle))

-- what is said of kept bundles fits the project: their entries are held; each reference of what is held leads somewhere, only to
-- what stands there, and only to its own bundle or to one that is needed
pub record AreKeptHomes (p : Project) (plan : Plan) (holds : ℕ → Guid → Type 0)
    (homes : ℕ → Guid → Guid → ℕ → Type 0) (names : ℕ → ℕ → Type 0) : Type 0 where
  pub entries : (b : ℕ) (a : Guid) → IsKeptAt plan b → HasEntry p plan b a → holds b a
  pub some : (b : ℕ) (x y : Guid) → IsKeptAt plan b → holds b x → Refers p x y → (c : ℕ) × homes b x y c
  pub stand : (b c : ℕ) (x y : Guid) → IsKeptAt plan b → holds b x → Refers p x y → homes b x y c → StandsWith holds p plan (record { bundle = c; guid = y })
  pub needed : (b c : ℕ) (x y : Guid) → IsKeptAt plan b → holds b x → Refers p x y → homes b x y c → b ≢ c → names b c

-- then walks through bundles agree with walks through the project, kept bundles and new ones alike
abbrev pub WalkAgreesWith : (ℕ → Guid → Type 0) → (ℕ → Guid → Guid → ℕ → Type 0) → (ℕ → ℕ → Type 0) → Project → Plan → Type 0
WalkAgreesWith holds homes names p plan = AreKeptHomes p plan holds homes names → EachPlaced p plan
    → (b : ℕ) (a : Guid) → HasEntry p plan b a → AgreesOver p (FollowsWith homes p plan) (StandsWith holds p plan) (NeedsWith names p plan) b a

-- whatever is said of kept bundles by tests: a law that quantifies over these
abbrev pub KeptWalksAgree : Project → Plan → Type 0
KeptWalksAgree p plan = (holds : ℕ → Guid → Bool) (homes : ℕ → Guid → Guid → ℕ → Bool) (names : ℕ → ℕ → Bool)
    → WalkAgreesWith (λ b g. holds b g ≡ true) (λ b x y c. homes b x y c ≡ true) (λ b c. names b c ≡ true) p plan

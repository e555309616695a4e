-- What holds of every project: sharing a bundle is an equivalence, names tell bundles apart, there is one placement; and what
-- its bundles are named.
use Rattle.std.specs.Prelude.{ℕ, ◌≡◌, ◌≤◌, ◌↔◌, List, length, Some}
use Rattle.std.specs.List.{slice_get}
use Rattle.addr_project.specs.declared.limit.Limit.TheVariants as limit
use Rattle.addr_project.specs.declared.model.Group.{Group}
use Rattle.addr_project.specs.Limits.{most}
use Rattle.addr_project.specs.Model.{Project}
use Rattle.addr_pack.specs.declared.bundles.Plan.{Plan}
use Rattle.addr_pack.specs.declared.bundles.PlanBundle.{PlanBundle}
use Rattle.addr_pack.specs.SameBundle.{Same}
use Rattle.addr_pack.specs.BundleNames.{beginning, BeginsWith, IsGroupName, IsPlainName, InternalNamesDiffer, DigitsTell}
use Rattle.addr_pack.specs.LongNames.{NamesFit}
use Rattle.addr_pack.specs.Naming.{IsNamed}
use Rattle.addr_pack.specs.Placement.{InBundle, IsPlaced}

-- a relation of numbers is an equivalence
pub record IsEquivalence (same : ℕ → ℕ → Type 0) : Type 0 where
  pub reflexive : (x : ℕ) → same x x
  pub symmetric : (x y : ℕ) → same x y → same y x
  pub transitive : (x y z : ℕ) → same x y → same y z → same x z

-- bundles of different groups have different names
abbrev pub GroupsApart : Project → Type 0
GroupsApart p = (x y g h : ℕ) (name : List ℕ) → IsNamed p x g name → IsNamed p y h name → g ≡ h

-- two entries have one name exactly where they share a bundle
abbrev pub NamesTell : Project → Type 0
NamesTell p = (x y g h : ℕ) (m n : List ℕ) → IsNamed p x g m → IsNamed p y h n → (m ≡ n) ↔ Same p x y

-- no entry stands in two bundles of a placement
abbrev pub NoneTwice : Project → Type 0
NoneTwice p = (plan : Plan) → IsPlaced p plan → (b c x : ℕ) → InBundle plan b x → InBundle plan c x → b ≡ c

-- two placements are the same
abbrev pub OnePlacement : Project → Type 0
OnePlacement p = (a b : Plan) → IsPlaced p a → IsPlaced p b → a ≡ b

-- a placement has at most as many bundles as there are entries, and no more than entries may be
abbrev pub FewBundles : Project → Type 0
FewBundles p = (plan : Plan) → IsPlaced p plan → (length plan.bundles ≤ length p.entries) × (length plan.bundles ≤ most limit.Entries)

-- bundles of a placement are named after their groups, and never as the bundle of moved entries
abbrev pub GroupNames : Project → Type 0
GroupNames p = (plan : Plan) → IsPlaced p plan → (b : ℕ) (bundle : PlanBundle) → slice_get plan.bundles b ≡ Some bundle → IsGroupName p bundle

-- a name begins as those of one group at most
abbrev pub BeginningsTell : Project → Type 0
BeginningsTell p = (i j : ℕ) (g h : Group) (name : List ℕ) → slice_get p.groups i ≡ Some g → slice_get p.groups j ≡ Some h
    → BeginsWith (beginning g) name → BeginsWith (beginning h) name → i ≡ j

-- names of a placement are of plain bytes
abbrev pub PlainNames : Project → Type 0
PlainNames p = (plan : Plan) → IsPlaced p plan → (b : ℕ) (bundle : PlanBundle) → slice_get plan.bundles b ≡ Some bundle → IsPlainName bundle.name

-- where no name is too long, each name of a placement is as long as it may be
abbrev pub ShortNames : Project → Type 0
ShortNames p = NamesFit p → (plan : Plan) → IsPlaced p plan → (b : ℕ) (bundle : PlanBundle) → slice_get plan.bundles b ≡ Some bundle → length bundle.name ≤ most limit.BundleName

-- where internal names differ, their digits tell bundles apart
abbrev pub DigitsFollow : Project → Type 0
DigitsFollow p = (plan : Plan) → IsPlaced p plan → InternalNamesDiffer plan → DigitsTell plan

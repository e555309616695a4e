-- The layout of a placement: for each bundle that isn't kept its members, the homes of their references, and what it needs.
use Rattle.std.specs.Prelude.{ℕ, ◌≡◌, List, [], length, slice_index_or, Some}
use Rattle.std.specs.Bool.{MatchBool}
use Rattle.std.specs.Cmp.Lexicographic.{slice_cmp}
use Rattle.std.specs.List.{AllZip, slice_get}
use Rattle.std.specs.Ordering.{nat_cmp}
use Rattle.std.specs.declared.cmp.Ordering.{Ordering}
use Rattle.addr_base.specs.declared.ids.Guid.{Guid}
use Rattle.addr_pack.specs.declared.bundles.Plan.{Plan}
use Rattle.addr_pack.specs.declared.bundles.PlanBundle.{PlanBundle}
use Rattle.addr_project.specs.declared.model.Asset.{Asset}
use Rattle.addr_project.specs.Kept.{asset_guids}
use Rattle.addr_project.specs.Model.{Project}
use Rattle.addr_walks.specs.Places.{EachAt}
use Rattle.addr_walks.specs.Walks.{IsListOf}
use Rattle.addr_layout.specs.declared.model.LayBundle.{LayBundle}
use Rattle.addr_layout.specs.declared.model.Layout.{Layout}
use Rattle.addr_layout.specs.declared.model.RefHome.{RefHome}
use Rattle.addr_layout.specs.Members.{IsNumbered, Member}
use Rattle.addr_layout.specs.Needs.{IsHome, Needs}

-- the order of the numbers of assets is that of their GUIDs
abbrev pub by_guid : Project → ℕ → ℕ → Ordering
by_guid p m n = slice_cmp nat_cmp (slice_index_or (asset_guids p.assets) m []) (slice_index_or (asset_guids p.assets) n [])

-- the number of a member's asset
abbrev pub MemberNumber : Project → Plan → ℕ → ℕ → Type 0
MemberNumber p plan b n = (g : Guid) × IsNumbered p n g × Member p plan b g

-- the members of a bundle, in the order of their GUIDs
abbrev pub AreMembers : Project → Plan → ℕ → List ℕ → Type 0
AreMembers p plan b members = IsListOf (by_guid p) (MemberNumber p plan b) members

-- the homes of an asset's references, in the order of these
abbrev pub AreHomes : Project → Plan → ℕ → ℕ → List RefHome → Type 0
AreHomes p plan b n homes = (asset : Asset) × (slice_get p.assets n ≡ Some asset) × AllZip (IsHome p plan b) asset.refs homes

-- a bundle has exactly its members, the homes of their references, and what it needs
pub record IsFull (p : Project) (plan : Plan) (b : ℕ) (lay : LayBundle) : Type 0 where
  pub members : AreMembers p plan b lay.members
  pub refs : AllZip (AreHomes p plan b) lay.members lay.refs
  pub direct : IsListOf nat_cmp (Needs p plan b) lay.direct

-- a bundle has empty lists
abbrev pub IsBare : LayBundle → Type 0
IsBare lay = (lay.members ≡ []) × (lay.refs ≡ []) × (lay.direct ≡ [])

-- a kept bundle is bare, and any other is full
abbrev pub IsLaid : Project → Plan → ℕ → LayBundle → Type 0
IsLaid p plan b lay = (bundle : PlanBundle) × (slice_get plan.bundles b ≡ Some bundle) × MatchBool bundle.kept (IsBare lay) (IsFull p plan b lay)

-- each bundle of the placement is laid out
pub record IsLayout (p : Project) (plan : Plan) (layout : Layout) : Type 0 where
  pub as_many : length layout.bundles ≡ length plan.bundles
  pub laid : EachAt (IsLaid p plan) layout.bundles

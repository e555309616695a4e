-- Which assets are copied into several bundles of a placement, and what the copies waste.
use Rattle.std.specs.Prelude.{◌≡◌, ◌≤◌, ◌-◌, ◌*◌, List, length, Some}
use Rattle.std.specs.List.{slice_get}
use Rattle.std.specs.declared.cmp.Ordering.{Ordering}
use Rattle.addr_layout.specs.Members.{IsEntry, Member}
use Rattle.addr_pack.specs.declared.bundles.Plan.{Plan}
use Rattle.addr_project.specs.Model.{Project}
use Rattle.addr_project.specs.Reach.{guid_cmp}
use Rattle.addr_project.specs.declared.model.Asset.{Asset}
use Rattle.addr_walks.specs.Rows.{IsSizeOf}
use Rattle.addr_walks.specs.Walks.{IsListOf}
use Rattle.addr_analyze.specs.declared.duplicate.Duplicate.{Duplicate}

-- an asset that is no entry and is a member of so many bundles, two at least; the bytes of all copies but one are wasted
pub record IsDuplicate (p : Project) (plan : Plan) (d : Duplicate) : Type 0 where
  pub asset : Asset
  pub at : slice_get p.assets d.asset ≡ Some asset
  pub guid : d.guid ≡ asset.guid
  pub implicit : ¬ IsEntry p asset.guid
  pub bundles : IsSizeOf (λ b. Member p plan b asset.guid) d.bundles
  pub twice : 2 ≤ d.bundles
  pub wasted : d.wasted ≡ (d.bundles - 1) * length asset.bytes

-- the order of duplicates is that of their GUIDs
abbrev pub by_guid : Duplicate → Duplicate → Ordering
by_guid d e = guid_cmp d.guid e.guid

-- all duplicates of a placement
abbrev pub AreDuplicates : Project → Plan → List Duplicate → Type 0
AreDuplicates p plan found = IsListOf by_guid (IsDuplicate p plan) found

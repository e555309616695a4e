-- The objects of a bundle as its layout makes them, in one walk over members and homes.
use Rattle.std.specs.Prelude.{ℕ, ◌≡◌, ◌<◌, List, [], length, map, Option, Some, None, slice_get, slice_index_or}
use Rattle.std.specs.List.{zip}
use Rattle.addr_base.specs.Ids.{digest_of}
use Rattle.addr_base.specs.declared.ids.Guid.{Guid}
use Rattle.addr_base.specs.declared.images.Home.{Home}
use Rattle.addr_base.specs.declared.images.Home.TheVariants.{Own, Other}
use Rattle.addr_base.specs.declared.images.RefTo.{RefTo}
use Rattle.addr_cab.specs.declared.object.ObjectOut.{ObjectOut}
use Rattle.addr_cab.specs.declared.object.ObjectSize.{ObjectSize}
use Rattle.addr_layout.specs.declared.model.LayBundle.{LayBundle}
use Rattle.addr_layout.specs.declared.model.RefHome.{RefHome}
use Rattle.addr_layout.specs.declared.model.RefHome.TheVariants.{Own as OwnBundle, Bundle}
use Rattle.addr_pack.specs.declared.bundles.Plan.{Plan}
use Rattle.addr_pack.specs.declared.bundles.PlanBundle.{PlanBundle}
use Rattle.addr_project.specs.declared.model.Asset.{Asset}
use Rattle.addr_project.specs.Model.{Project}

-- a bundle's internal name, as the home of a reference
abbrev pub bundle_home : Option PlanBundle → Home
bundle_home (Some bundle) = Other (record { 0 = digest_of bundle.name })
bundle_home None = Own

-- a home as a file tells it
abbrev pub home_told : Plan → RefHome → Home
home_told plan OwnBundle = Own
home_told plan (Bundle c) = bundle_home (slice_get plan.bundles c)

abbrev pub ref_told : Plan → Guid → RefHome → RefTo
ref_told plan g home = record { guid = g; home = home_told plan home }

-- references beside their homes
unfoldable pub refs_told : Plan → List Guid → List RefHome → List RefTo
refs_told plan guids homes = map (λ p. ref_told plan p.0 p.1) (zip guids homes)

-- what stands at a number past the assets
abbrev pub no_asset : Asset
no_asset = record { guid = record { 0 = [] }; kind = []; bytes = []; refs = [] }

abbrev pub asset_at : Project → ℕ → Asset
asset_at p n = slice_index_or p.assets n no_asset

abbrev pub object_told : Project → Plan → ℕ → List RefHome → ObjectOut
object_told p plan n homes = record { guid = (asset_at p n).guid; bytes = (asset_at p n).bytes; refs = refs_told plan (asset_at p n).refs homes }

-- members beside the homes of their references
unfoldable pub objects_told : Project → Plan → LayBundle → List ObjectOut
objects_told p plan lay = map (λ q. object_told p plan q.0 q.1) (zip lay.members lay.refs)

-- a number is an asset's, and each of its references has a home
abbrev pub HasHomes : Project → ℕ → List RefHome → Type 0
HasHomes p n homes = (n < length p.assets) × (length homes ≡ length (asset_at p n).refs)

-- the lengths of an asset
abbrev pub asset_size : Project → ℕ → ObjectSize
asset_size p n = record { bytes = length (asset_at p n).bytes; refs = length (asset_at p n).refs }

-- Which objects the file of a bundle has: for each member its GUID, its bytes, and its references with their homes.
use Rattle.std.specs.Prelude.{ℕ, ◌≡◌, ◌≢◌, List, Some}
use Rattle.std.specs.List.{AllZip, slice_get}
use Rattle.addr_base.specs.Ids.{digest_of}
use Rattle.addr_base.specs.declared.ids.Guid.{Guid}
use Rattle.addr_base.specs.declared.images.Home.{Home as WrittenHome}
use Rattle.addr_base.specs.declared.images.Home.TheVariants.{Own, Other}
use Rattle.addr_base.specs.declared.images.RefTo.{RefTo}
use Rattle.addr_cab.specs.declared.object.ObjectOut.{ObjectOut}
use Rattle.addr_layout.specs.Layout.{AreMembers}
use Rattle.addr_layout.specs.Needs.{Home}
use Rattle.addr_pack.specs.declared.bundles.Plan.{Plan}
use Rattle.addr_pack.specs.declared.bundles.PlanBundle.{PlanBundle}
use Rattle.addr_project.specs.declared.model.Asset.{Asset}
use Rattle.addr_project.specs.Model.{Project}
use Rattle.addr_release.specs.Names.{digest_from}

-- a reference from bundle b that leads to bundle c is told as the own bundle where they are one, and else by c's internal name
abbrev pub TellsBundle : Plan → ℕ → ℕ → WrittenHome → Type 0
TellsBundle plan b c Own = b ≡ c
TellsBundle plan b c (Other name) = (b ≢ c) × (bundle : PlanBundle) × (slice_get plan.bundles c ≡ Some bundle) × (name ≡ digest_from bundle.name)

-- a reference to g from bundle b tells the bundle where g has its home
abbrev pub TellsHome : Project → Plan → ℕ → Guid → WrittenHome → Type 0
TellsHome p plan b g home = (c : ℕ) × Home p plan b g c × TellsBundle plan b c home

-- a reference with the home that it has from bundle b
pub record IsRefTo (p : Project) (plan : Plan) (b : ℕ) (g : Guid) (r : RefTo) : Type 0 where
  pub guid : r.guid ≡ g
  pub home : TellsHome p plan b g r.home

-- an asset as bundle b has it
pub record IsImage (p : Project) (plan : Plan) (b : ℕ) (asset : Asset) (o : ObjectOut) : Type 0 where
  pub guid : o.guid ≡ asset.guid
  pub bytes : o.bytes ≡ asset.bytes
  pub refs : AllZip (IsRefTo p plan b) asset.refs o.refs

-- the asset with a number as bundle b has it
abbrev pub IsImageOf : Project → Plan → ℕ → ℕ → ObjectOut → Type 0
IsImageOf p plan b n o = (asset : Asset) × (slice_get p.assets n ≡ Some asset) × IsImage p plan b asset o

-- the objects of a bundle: its members in the order of their GUIDs
pub record AreObjects (p : Project) (plan : Plan) (b : ℕ) (objects : List ObjectOut) : Type 0 where
  pub members : List ℕ
  pub list : AreMembers p plan b members
  pub images : AllZip (IsImageOf p plan b) members objects

-- bundles of different numbers have different internal names: a premise wherever bundles are found by these
abbrev pub NamesApart : Plan → Type 0
NamesApart plan = (b c : ℕ) (x y : PlanBundle) → slice_get plan.bundles b ≡ Some x → slice_get plan.bundles c ≡ Some y
    → digest_of x.name ≡ digest_of y.name → b ≡ c

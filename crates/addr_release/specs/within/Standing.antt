-- A release that stands in a folder: its catalogue is read alike, and its bundles' files hold what they should. Builds and
-- updates leave one; what it shows is proved from this alone, whatever bundles hold and need.
use Rattle.std.specs.Prelude.{ℕ, ◌≡◌, length, List, Some}
use Rattle.std.specs.List.{AllZip, slice_get}
use Rattle.addr_base.specs.Files.{file_at}
use Rattle.addr_base.specs.Ids.{digest_of, hex_of}
use Rattle.addr_base.specs.declared.files.MemFile.{MemFile}
use Rattle.addr_base.specs.declared.ids.Digest.{Digest}
use Rattle.addr_cab.specs.Objects.{HoldsCab}
use Rattle.addr_cab.specs.declared.object.ObjectOut.{ObjectOut}
use Rattle.addr_catalog.specs.ReadsAlike.{ReadsAlike}
use Rattle.addr_catalog.specs.declared.catalogue.Catalogue.{Catalogue}
use Rattle.addr_layout.specs.Needs.{Needs}
use Rattle.addr_locate.specs.Rows.{Rows, written}
use Rattle.addr_locate.specs.declared.rows.AssetRow.{AssetRow}
use Rattle.addr_locate.specs.declared.rows.BundleRow.{BundleRow}
use Rattle.addr_pack.specs.declared.bundles.Plan.{Plan}
use Rattle.addr_pack.specs.declared.bundles.PlanBundle.{PlanBundle}
use Rattle.addr_project.specs.declared.model.Entry.{Entry}
use Rattle.addr_project.specs.Model.{Project}
use Rattle.addr_walks.specs.Places.{EachAt}
use Rattle.addr_release.specs.Built.{IsEntryRowAs}
use Rattle.addr_release.specs.Images.{AreObjects}
use Rattle.addr_release.specs.Names.{bundle_file, catalogue_path}

-- a file holds these objects and no others
pub record HoldsJust (file : List ℕ) (objects : List ObjectOut) : Type 0 where
  pub name : Digest
  pub held : HoldsCab file name objects
  pub one : (other : Digest) (others : List ObjectOut) → HoldsCab file other others → objects ≡ others

-- the file of a row is there as the row says, and holds objects that its bundle may have
pub record IsStoredAs (plan : Plan) (has : ℕ → List ObjectOut → Type 0) (files : List MemFile) (folder : List ℕ) (b : ℕ) (row : BundleRow) : Type 0 where
  pub bundle : PlanBundle
  pub at : slice_get plan.bundles b ≡ Some bundle
  pub objects : List ObjectOut
  pub are : has b objects
  pub file : List ℕ
  pub just : HoldsJust file objects
  pub there : bundle_file files folder row.key ≡ Some file
  pub size : row.size ≡ length file
  pub digest : row.digest.0 ≡ digest_of file
  pub name : row.name ≡ hex_of (digest_of bundle.name)

-- a numbered row is that of an entry
abbrev pub IsNumberedRow : Project → Plan → (ℕ → ℕ → Type 0) → Rows → Entry → AssetRow → Type 0
IsNumberedRow p plan needs r e a = IsEntryRowAs p plan needs e (written r a)

-- the folder's files are a release of the project in this placement
pub record StandsAs (p : Project) (plan : Plan) (has : ℕ → List ObjectOut → Type 0) (needs : ℕ → ℕ → Type 0)
    (files : List MemFile) (folder : List ℕ) (c : Catalogue) : Type 0 where
  pub bytes : List ℕ
  pub there : file_at (catalogue_path folder) files ≡ Some bytes
  pub alike : ReadsAlike bytes c
  pub as_many : length c.locator.bundles ≡ length plan.bundles
  pub stored : EachAt (IsStoredAs plan has files folder) c.locator.bundles
  pub entries : AllZip (IsNumberedRow p plan needs c.locator) p.entries c.locator.assets

-- after a full build: bundles hold their members, and need what these refer to
abbrev pub Stands : Project → Plan → List MemFile → List ℕ → Catalogue → Type 0
Stands p plan = StandsAs p plan (AreObjects p plan) (Needs p plan)

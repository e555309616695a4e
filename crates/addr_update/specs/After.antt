-- The release after an update, in the words of a full build's: kept bundles with the files that the state says, beside new ones.
use Rattle.std.specs.Prelude.{ℕ, ◌≡◌, ◌≢◌, ◌⊎◌, length, List, map, Option, Some, None, Bool, false, true}
use Rattle.std.specs.List.{Contains, slice_get}
use Rattle.addr_base.specs.Files.{file_at}
use Rattle.addr_base.specs.Ids.{digest_of, hex_of}
use Rattle.addr_base.specs.declared.files.MemFile.{MemFile}
use Rattle.addr_base.specs.declared.ids.Digest.{Digest}
use Rattle.addr_base.specs.declared.images.Home.TheVariants.{Other}
use Rattle.addr_base.specs.declared.images.RefTo.{RefTo}
use Rattle.addr_cab.specs.declared.object.ObjectOut.{ObjectOut}
use Rattle.addr_catalog.specs.ReadsAlike.{ReadsAlike}
use Rattle.addr_catalog.specs.Written.{catalogue_text}
use Rattle.addr_layout.specs.KeptBundles.{NeedsWith}
use Rattle.addr_locate.specs.declared.rows.BundleRow.{BundleRow}
use Rattle.addr_locate.specs.declared.rows.PlainAsset.{PlainAsset}
use Rattle.addr_pack.specs.declared.bundles.Plan.{Plan}
use Rattle.addr_pack.specs.declared.bundles.PlanBundle.{PlanBundle}
use Rattle.addr_project.specs.declared.model.Group.{Group}
use Rattle.addr_project.specs.Model.{Project}
use Rattle.addr_project.specs.Reading.{path}
use Rattle.addr_release.specs.Built.{AreRowsAs, IsFileOf, IsRowOf, ReleaseBundle, catalogue_of}
use Rattle.addr_release.specs.Laws.{with_catalogue}
use Rattle.addr_release.specs.Opened.{Opened}
use Rattle.addr_release.specs.Puts.{all_bundle_tests, bundle_put, first_taken}
use Rattle.addr_state.specs.Files.{file_name, side_file}
use Rattle.addr_state.specs.declared.model.StateBundle.{StateBundle}
use Rattle.addr_update.specs.Moved.{Update, Stays}

-- what an update makes: its bundles, kept ones too, and the rows of its entries, and the bytes of the catalogue
pub record UpdatedRelease : Type 0 where
  pub bundles : List ReleaseBundle
  pub assets : List PlainAsset
  pub catalogue : List ℕ

-- ---- kept bundles

-- a bundle of the placement is one of the state that stays
pub record IsOldAt (u : Update) (plan : Plan) (b m : ℕ) : Type 0 where
  pub bundle : PlanBundle
  pub at : slice_get plan.bundles b ≡ Some bundle
  pub kept : bundle.kept ≡ true
  pub old : StateBundle
  pub stays : Stays u m old
  pub name : bundle.name ≡ old.name

-- a bundle row has the file, id, size, digest and name that the state has
pub record IsRowOfOld (old : StateBundle) (row : BundleRow) : Type 0 where
  pub key : row.key ≡ file_name old.name old.digest
  pub id : row.id ≡ old.id
  pub size : row.size ≡ old.size
  pub digest : row.digest ≡ old.digest
  pub name : row.name ≡ hex_of (digest_of old.name)

-- a kept bundle: with the file that the state names, and the row that it gives
pub record IsKeptBundle (u : Update) (plan : Plan) (files : List MemFile) (folder : List ℕ) (b : ℕ)
    (made : ReleaseBundle) : Type 0 where
  pub number : ℕ
  pub is : IsOldAt u plan b number
  pub side : is.old.file ≡ side_file made.remote is.old.name is.old.digest
  pub file : file_at (path folder is.old.file) files ≡ Some made.file
  pub told : IsRowOfOld is.old made.row

-- ---- new bundles

-- the side of a bundle: that of its group; remote for the moved entries, whose number of a group is the number of groups
abbrev pub IsSideOf : Project → ℕ → Bool → Type 0
IsSideOf p n remote = ((group : Group) × (slice_get p.groups n ≡ Some group) × (remote ≡ group.remote))
    ⊎ ((n ≡ length p.groups) × (remote ≡ true))

-- a bundle that the update writes: on its side, with its file and the row of that
pub record IsNewBundle (p : Project) (plan : Plan) (b : ℕ) (made : ReleaseBundle) : Type 0 where
  pub bundle : PlanBundle
  pub at : slice_get plan.bundles b ≡ Some bundle
  pub new : bundle.kept ≡ false
  pub side : IsSideOf p bundle.group made.remote
  pub is : IsFileOf p plan b made.file
  pub told : IsRowOf p made.remote bundle made.file made.row

abbrev pub IsBundleAfter : Update → Plan → List MemFile → List ℕ → ℕ → ReleaseBundle → Type 0
IsBundleAfter u plan files folder b made = IsNewBundle u.project plan b made ⊎ IsKeptBundle u plan files folder b made

-- ---- what bundles need

-- an object that a bundle of the state held has a reference that names a bundle of the placement
abbrev pub NamesBundle : Update → Plan → ℕ → ℕ → Type 0
NamesBundle u plan m c = (opened : Opened) × (slice_get u.was m ≡ Some opened) × (o : ObjectOut) × Contains opened.objects o
    × (r : RefTo) × Contains o.refs r × (name : Digest) × (r.home ≡ Other name)
    × (bundle : PlanBundle) × (slice_get plan.bundles c ≡ Some bundle) × (hex_of name.0 ≡ hex_of (digest_of bundle.name))

-- a kept bundle needs the others that its file names
abbrev pub NeedsKept : Update → Plan → ℕ → ℕ → Type 0
NeedsKept u plan b c = (b ≢ c) × (m : ℕ) × IsOldAt u plan b m × NamesBundle u plan m c

-- new bundles need what their members refer to, kept ones what their files name
abbrev pub NeedsAfter : Update → Plan → ℕ → ℕ → Type 0
NeedsAfter u plan = NeedsWith (NeedsKept u plan) u.project plan

-- ---- the release

-- the release of an update in its placement, over the files before it; its catalogue names the state that the present one names
pub record IsReleaseAfter (u : Update) (plan : Plan) (old : List MemFile) (folder : List ℕ) (named : Option Digest)
    (r : UpdatedRelease) : Type 0 where
  pub rows : AreRowsAs u.project plan (IsBundleAfter u plan old folder) (NeedsAfter u plan) r.bundles r.assets
  pub listed : r.catalogue ≡ catalogue_text (catalogue_of r.bundles r.assets named)
  pub alike : ReadsAlike r.catalogue (catalogue_of r.bundles r.assets named)

-- the puts of an update: its bundles, of which kept ones are there, the catalogue, the hash; the state isn't put
abbrev pub update_puts : List ℕ → UpdatedRelease → List MemFile
update_puts folder r = with_catalogue folder (map (bundle_put folder) r.bundles) r.catalogue

-- no name of its bundles is taken, kept ones too
abbrev pub NoBundleTaken : List MemFile → List ℕ → UpdatedRelease → Type 0
NoBundleTaken files folder r = first_taken files folder (all_bundle_tests r.bundles) ≡ None

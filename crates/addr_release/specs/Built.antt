-- The release of a project: its bundles' files, the rows of its catalogue, its content state, and the bytes of both.
use Rattle.std.specs.Prelude.{ℕ, ◌≡◌, ◌<◌, ◌^◌, codes, length, List, map, true, Bool, if◌then◌else◌, ◌++◌, Option, Some, Ok}
use Rattle.std.specs.Cmp.Lexicographic.{slice_cmp}
use Rattle.std.specs.List.{AllZip, Contains, slice_get}
use Rattle.std.specs.Ordering.{nat_cmp}
use Rattle.hex.specs.Hex.{IsBytes}
use Rattle.addr_base.specs.Ids.{digest_of, hex_of}
use Rattle.addr_base.specs.declared.ids.Digest.{Digest}
use Rattle.addr_cab.specs.Objects.{HoldsCab, cab_nodes}
use Rattle.addr_cab.specs.Written.{cab_table, cab_data}
use Rattle.addr_cab.specs.declared.object.ObjectOut.{ObjectOut}
use Rattle.addr_catalog.specs.ReadsAlike.{ReadsAlike}
use Rattle.addr_catalog.specs.Written.{catalogue_text}
use Rattle.addr_catalog.specs.declared.catalogue.Catalogue.{Catalogue}
use Rattle.addr_layout.specs.Members.{HasEntry, Member}
use Rattle.addr_layout.specs.Needs.{Needs}
use Rattle.addr_locate.specs.Rows.{rows_of}
use Rattle.addr_locate.specs.declared.rows.BundleRow.{BundleRow}
use Rattle.addr_locate.specs.declared.rows.PlainAsset.{PlainAsset}
use Rattle.addr_pack.specs.Placement.{IsPlaced}
use Rattle.addr_pack.specs.declared.bundles.Plan.{Plan}
use Rattle.addr_pack.specs.declared.bundles.PlanBundle.{PlanBundle}
use Rattle.addr_project.specs.declared.model.Asset.{Asset}
use Rattle.addr_project.specs.declared.model.Entry.{Entry}
use Rattle.addr_project.specs.declared.model.Group.{Group}
use Rattle.addr_project.specs.Model.{Project}
use Rattle.addr_project.specs.Reach.{entry_keys, guid_cmp}
use Rattle.addr_state.specs.Files.{file_name, side_file}
use Rattle.addr_state.specs.Reading.{state_read}
use Rattle.addr_state.specs.Written.{state_text}
use Rattle.addr_state.specs.declared.model.State.{State}
use Rattle.addr_state.specs.declared.model.StateBundle.{StateBundle}
use Rattle.addr_unityfs.specs.Written.{written}
use Rattle.addr_walks.specs.Closure.{IsDeps}
use Rattle.addr_walks.specs.Places.{EachAt}
use Rattle.addr_walks.specs.Walks.{IsListOf}
use Rattle.addr_release.specs.Images.{AreObjects}
use Rattle.addr_release.specs.Names.{digest_from}

-- ---- what a release is made of

-- a bundle of a release: its side, its row in the catalogue, and its file
pub record ReleaseBundle : Type 0 where
  pub remote : Bool
  pub row : BundleRow
  pub file : List ℕ

-- a release: its bundles and the rows of its entries, the content state, and the bytes of the state and of the catalogue
pub record Release : Type 0 where
  pub bundles : List ReleaseBundle
  pub assets : List PlainAsset
  pub state : State
  pub state_bytes : List ℕ
  pub catalogue : List ℕ

-- the catalogue of bundles and rows that names a state
abbrev pub catalogue_of : List ReleaseBundle → List PlainAsset → Option Digest → Catalogue
catalogue_of bundles assets state = record { locator = rows_of (map (λ b. b.row) bundles) assets; state = state }

-- ---- bundles

-- the file that is written for a bundle's name and objects
abbrev pub file_text : Project → PlanBundle → List ObjectOut → List ℕ
file_text p bundle objects = written p.version (cab_nodes (digest_from bundle.name) (cab_table objects) (cab_data objects))

-- the file of bundle b: the one that is written for the bundle's objects, and it holds them
pub record IsFileOf (p : Project) (plan : Plan) (b : ℕ) (file : List ℕ) : Type 0 where
  pub bundle : PlanBundle
  pub at : slice_get plan.bundles b ≡ Some bundle
  pub objects : List ObjectOut
  pub are : AreObjects p plan b objects
  pub text : file ≡ file_text p bundle objects
  pub bytes : IsBytes file
  pub short : length file < 2 ^ 63
  pub holds : HoldsCab file (digest_from bundle.name) objects

-- the text of a project for the ids of one side
abbrev pub side_text : Project → Bool → List ℕ
side_text p remote = if remote then p.remote else p.local

-- where a file with this name is fetched from
abbrev pub fetch_id : Project → Bool → List ℕ → List ℕ
fetch_id p remote key = side_text p remote ++ (codes "/" ++ key)

-- the row of a bundle with a name, on a side, after its file
pub record IsRowOf (p : Project) (remote : Bool) (bundle : PlanBundle) (file : List ℕ) (row : BundleRow) : Type 0 where
  pub key : row.key ≡ file_name bundle.name (digest_from file)
  pub size : row.size ≡ length file
  pub digest : row.digest ≡ digest_from file
  pub name : row.name ≡ hex_of (digest_of bundle.name)
  pub id : row.id ≡ fetch_id p remote (file_name bundle.name (digest_from file))

-- bundle b of a full build: on the side of its group, with its file and the row of that
pub record IsBundleOf (p : Project) (plan : Plan) (b : ℕ) (made : ReleaseBundle) : Type 0 where
  pub bundle : PlanBundle
  pub at : slice_get plan.bundles b ≡ Some bundle
  pub group : Group
  pub group_at : slice_get p.groups bundle.group ≡ Some group
  pub side : made.remote ≡ group.remote
  pub is : IsFileOf p plan b made.file
  pub told : IsRowOf p group.remote bundle made.file made.row

-- ---- rows of entries

-- the row of an entry where bundles need others: its asset's GUID and type, its bundle with all that this one needs, its keys
pub record IsEntryRowAs (p : Project) (plan : Plan) (needs : ℕ → ℕ → Type 0) (e : Entry) (row : PlainAsset) : Type 0 where
  pub asset : Asset
  pub at : slice_get p.assets e.asset ≡ Some asset
  pub id : row.id ≡ hex_of asset.guid.0
  pub kind : row.kind ≡ asset.kind
  pub bundle : ℕ
  pub has : HasEntry p plan bundle asset.guid
  pub deps : IsDeps needs bundle (map (λ d. d.0) row.deps)
  pub keys : row.keys ≡ entry_keys e asset

-- a bundle for each of the placement, and a row for each entry, whatever bundles are and need
pub record AreRowsAs (p : Project) (plan : Plan) (is_bundle : ℕ → ReleaseBundle → Type 0) (needs : ℕ → ℕ → Type 0)
    (bundles : List ReleaseBundle) (assets : List PlainAsset) : Type 0 where
  pub as_many : length bundles ≡ length plan.bundles
  pub each : EachAt is_bundle bundles
  pub entries : AllZip (IsEntryRowAs p plan needs) p.entries assets

-- in a full build bundles are written, and need what their members refer to
abbrev pub IsEntryRow : Project → Plan → Entry → PlainAsset → Type 0
IsEntryRow p plan = IsEntryRowAs p plan (Needs p plan)

abbrev pub AreRowsOf : Project → Plan → List ReleaseBundle → List PlainAsset → Type 0
AreRowsOf p plan = AreRowsAs p plan (IsBundleOf p plan) (Needs p plan)

-- ---- the content state

-- what the state says of bundle b: the GUIDs of entries and of members ascend
pub record IsStateBundleOf (p : Project) (plan : Plan) (b : ℕ) (made : ReleaseBundle) (s : StateBundle) : Type 0 where
  pub bundle : PlanBundle
  pub at : slice_get plan.bundles b ≡ Some bundle
  pub group : Group
  pub group_at : slice_get p.groups bundle.group ≡ Some group
  pub name : s.name ≡ bundle.name
  pub file : s.file ≡ side_file made.remote bundle.name made.row.digest
  pub id : s.id ≡ made.row.id
  pub group_name : s.group ≡ group.name
  pub digest : s.digest ≡ made.row.digest
  pub size : s.size ≡ made.row.size
  pub entries : IsListOf guid_cmp (HasEntry p plan b) s.entries
  pub objects : IsListOf guid_cmp (Member p plan b) s.objects

-- what the state says of the bundle with a number in the release
abbrev pub IsStateBundle : Project → Plan → List ReleaseBundle → ℕ → StateBundle → Type 0
IsStateBundle p plan bundles b s = (made : ReleaseBundle) × (slice_get bundles b ≡ Some made) × IsStateBundleOf p plan b made s

-- a fixed group has the name
abbrev pub IsFixedName : Project → List ℕ → Type 0
IsFixedName p name = (group : Group) × Contains p.groups group × (group.fixed ≡ true) × (group.name ≡ name)

-- the state of a release: its bundles in order, and the names of the fixed groups in byte order
pub record IsStateOf (p : Project) (plan : Plan) (bundles : List ReleaseBundle) (state : State) : Type 0 where
  pub as_many : length state.bundles ≡ length plan.bundles
  pub each : EachAt (IsStateBundle p plan bundles) state.bundles
  pub fixed : IsListOf (slice_cmp nat_cmp) (IsFixedName p) state.fixed

-- ---- the release

-- a release of the project in this placement: state and catalogue are the one text of each, and are read as what they tell
pub record IsReleaseIn (p : Project) (plan : Plan) (r : Release) : Type 0 where
  pub rows : AreRowsOf p plan r.bundles r.assets
  pub told : IsStateOf p plan r.bundles r.state
  pub text : r.state_bytes ≡ state_text r.state
  pub again : state_read r.state_bytes ≡ Ok r.state
  pub listed : r.catalogue ≡ catalogue_text (catalogue_of r.bundles r.assets (Some (digest_from r.state_bytes)))
  pub alike : ReadsAlike r.catalogue (catalogue_of r.bundles r.assets (Some (digest_from r.state_bytes)))

-- the release of a project
abbrev pub IsReleaseOf : Project → Release → Type 0
IsReleaseOf p r = (plan : Plan) × IsPlaced p plan × IsReleaseIn p plan r

-- What resolving a key answers: what the files show under it, or the first cause of a refusal.
use Rattle.std.specs.Prelude.{ℕ, ◌≡◌, ◌≤◌, ◌<◌, List, [], length, map, take, Some, None, Result, Ok, Err}
use Rattle.std.specs.List.{AllZip, filter, slice_get}
use Rattle.addr_base.specs.Faults.{Rose}
use Rattle.addr_base.specs.Files.{file_at}
use Rattle.addr_base.specs.declared.files.MemFile.{MemFile}
use Rattle.addr_base.specs.declared.ids.BundleNo.{BundleNo}
use Rattle.addr_base.specs.declared.ids.Guid.{Guid}
use Rattle.addr_catalog.specs.Catalogue.{catalogue_read}
use Rattle.addr_catalog.specs.declared.catalogue.Catalogue.{Catalogue}
use Rattle.addr_locate.specs.Rows.{Rows, has_key_text}
use Rattle.addr_locate.specs.declared.rows.AssetRow.{AssetRow}
use Rattle.addr_locate.specs.declared.rows.BundleRow.{BundleRow}
use Rattle.addr_project.specs.Reach.{Row}
use Rattle.addr_release.specs.Names.{catalogue_path}
use Rattle.addr_release.specs.Opened.{Opened}
use Rattle.addr_release.specs.Resolve.{IsOpened, Resolve, ResolvesRow}
use Rattle.addr_resolve.specs.Items.{item_view}
use Rattle.addr_resolve.specs.Lost.{LosesRow}
use Rattle.addr_resolve.specs.Opening.{IsFirstBad}
use Rattle.addr_resolve.specs.declared.error.BundleFault.{BundleFault}
use Rattle.addr_resolve.specs.declared.error.BundleFault.TheVariants.{Missing, Fs, Cab, Lost}
use Rattle.addr_resolve.specs.declared.error.ResolveErr.{ResolveErr}
use Rattle.addr_resolve.specs.declared.error.ResolveErr.TheVariants.{NoRelease, BadCatalogue, NoKey, BadBundle, DepotFault, NoMemory}
use Rattle.addr_resolve.specs.declared.rows.Resolved.{Resolved}

-- a resolved row as plain data
abbrev pub row_view : Resolved → Row
row_view r = record { guid = r.guid; kind = r.kind; items = map item_view r.items }

-- the folder's catalogue is there and is read
abbrev pub HasCatalogue : List MemFile → List ℕ → Catalogue → Type 0
HasCatalogue files folder c = (bytes : List ℕ) × (file_at (catalogue_path folder) files ≡ Some bytes) × (catalogue_read bytes ≡ Ok c)

-- the asset rows with a key, in order
abbrev pub rows_with : Rows → List ℕ → List AssetRow
rows_with r key = filter (has_key_text r key) r.assets

-- the first of some rows that loses a GUID: those before it resolve, and the bundle of its first dependency is named
pub record IsFirstLostRow (r : Rows) (opened : List Opened) (rows : List AssetRow) (key : List ℕ) (lost : Guid) : Type 0 where
  pub number : ℕ
  pub row : AssetRow
  pub at : slice_get rows number ≡ Some row
  pub before : List Row
  pub shown : AllZip (ResolvesRow r opened) (take number rows) before
  pub first : BundleNo
  pub first_at : slice_get row.deps 0 ≡ Some first
  pub bundle : BundleRow
  pub bundle_at : slice_get r.bundles first.0 ≡ Some bundle
  pub named : key ≡ bundle.key
  pub loses : LosesRow opened row first.0 lost

-- all bundles of a catalogue are opened, and some rows lose a GUID
abbrev pub AreLost : List MemFile → List ℕ → Rows → List AssetRow → List ℕ → Guid → Type 0
AreLost files folder r rows key lost = (opened : List Opened) × AllZip (IsOpened files folder) r.bundles opened × IsFirstLostRow r opened rows key lost

-- what is wrong with a catalogue's bundles: the first that is missing or can't be read; or else what some rows lose
abbrev pub IsWrong : List MemFile → List ℕ → Rows → List AssetRow → List ℕ → BundleFault → Type 0
IsWrong files folder r rows key Missing = IsFirstBad files folder r.bundles key Missing
IsWrong files folder r rows key (Fs e) = IsFirstBad files folder r.bundles key (Fs e)
IsWrong files folder r rows key (Cab e) = IsFirstBad files folder r.bundles key (Cab e)
IsWrong files folder r rows key (Lost guid) = AreLost files folder r rows key guid

-- what resolving a key answers over files that are told
abbrev pub Resolves : List MemFile → List ℕ → List ℕ → Result (List Resolved) ResolveErr → Type 0
Resolves files folder key (Ok rows) = (0 < length rows) × Resolve files folder key (map row_view rows)
Resolves files folder key (Err (NoRelease name)) = (name ≡ catalogue_path folder) × (file_at (catalogue_path folder) files ≡ None)
Resolves files folder key (Err (BadCatalogue fault)) = (bytes : List ℕ) × (file_at (catalogue_path folder) files ≡ Some bytes) × (catalogue_read bytes ≡ Err fault)
Resolves files folder key (Err NoKey) = (c : Catalogue) × HasCatalogue files folder c × (rows_with c.locator key ≡ [])
Resolves files folder key (Err (BadBundle name why)) = (c : Catalogue) × HasCatalogue files folder c
    × (0 < length (rows_with c.locator key)) × IsWrong files folder c.locator (rows_with c.locator key) name why
Resolves files folder key (Err DepotFault) = Unit {0}
Resolves files folder key (Err NoMemory) = Unit {0}

-- the count of faults rose exactly where the answer is a fault of the depot
abbrev pub ResolveRose : {T : Type 0} → ℕ → ℕ → Result T ResolveErr → Type 0
ResolveRose before now (Ok done) = now ≡ before
ResolveRose before now (Err (NoRelease name)) = now ≡ before
ResolveRose before now (Err (BadCatalogue fault)) = now ≡ before
ResolveRose before now (Err NoKey) = now ≡ before
ResolveRose before now (Err (BadBundle name why)) = now ≡ before
ResolveRose before now (Err DepotFault) = (before ≤ now) × Rose before now
ResolveRose before now (Err NoMemory) = now ≡ before

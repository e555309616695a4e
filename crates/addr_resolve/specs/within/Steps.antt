-- The steps of resolving: reading the catalogue, the numbers of a key's rows, and the rows one by one.
use Rattle.std.specs.Prelude.{ℕ, ◌≡◌, ◌<◌, ◌^◌, List, [], length, map, Some, None, Result, Ok, Err}
use Rattle.std.specs.List.{AllZip, slice_get}
use Rattle.addr_base.specs.Files.{file_at}
use Rattle.addr_base.specs.declared.files.MemFile.{MemFile}
use Rattle.addr_base.specs.declared.ids.BundleNo.{BundleNo}
use Rattle.addr_base.specs.declared.ids.Guid.{Guid}
use Rattle.addr_base.specs.declared.ids.RowNo.{RowNo}
use Rattle.addr_cab.specs.Lookup.{Held}
use Rattle.addr_catalog.specs.Catalogue.{catalogue_read}
use Rattle.addr_catalog.specs.declared.catalogue.Catalogue.{Catalogue}
use Rattle.addr_layout.specs.Agreement.{Place}
use Rattle.addr_locate.specs.Rows.{Rows}
use Rattle.addr_locate.specs.declared.rows.AssetRow.{AssetRow}
use Rattle.addr_locate.specs.declared.rows.BundleRow.{BundleRow}
use Rattle.addr_release.specs.Names.{catalogue_path}
use Rattle.addr_release.specs.Opened.{Opened, IsUnfolding}
use Rattle.addr_release.specs.Resolve.{IsOpened, ResolvesRow}
use Rattle.addr_walks.specs.Rows.{AreBelow}
use Rattle.addr_resolve.specs.Graph.{AreInOrder, IsGraph}
use Rattle.addr_resolve.specs.Items.{AreHeld, HoldOne, ShowsCabs, item_view}
use Rattle.addr_resolve.specs.Lost.{IsFirstUnfound, LosesRow}
use Rattle.addr_resolve.specs.Resolving.{HasCatalogue, IsFirstLostRow, IsWrong, row_view, rows_with}
use Rattle.addr_resolve.specs.declared.error.ResolveErr.{ResolveErr}
use Rattle.addr_resolve.specs.declared.error.ResolveErr.TheVariants.{NoRelease, BadCatalogue, NoKey, BadBundle, DepotFault, NoMemory}
use Rattle.addr_resolve.specs.declared.items.Item.{Item}
use Rattle.addr_resolve.specs.declared.rows.Resolved.{Resolved}
use Rattle.addr_resolve.specs.declared.rows.RowErr.{RowErr}
use Rattle.addr_resolve.specs.declared.rows.RowErr.TheVariants.{Lost as LostIn, NoMemory as RowNoMemory}
use Rattle.addr_resolve.specs.declared.unfolding.Graph.{Graph}
use Rattle.addr_resolve.specs.declared.unfolding.Stop.{Stop}
use Rattle.addr_resolve.specs.declared.unfolding.Stop.TheVariants.{Lost, NoMemory as StopNoMemory}

-- what unfolding from any place answers
abbrev pub FindsFrom : List Opened → Place → Result (List Item) Stop → Type 0
FindsFrom files start (Ok items) = IsUnfolding files start (map item_view items)
FindsFrom files start (Err (Lost guid)) = IsFirstUnfound files start guid
FindsFrom files start (Err StopNoMemory) = Unit {0}

-- a graph and a search that unfolding can use
pub record IsUsable (graph : Graph) (search : ℕ) (cabs : List Held) : Type 0 where
  pub many : length graph.rows ≡ length graph.places
  pub lost : length graph.lost ≡ length graph.places
  pub below : AreBelow graph.rows (length graph.rows)
  pub size : search ≡ length graph.rows
  pub held : AreHeld cabs graph.places
  pub ordered : AreInOrder graph.places
  pub few : length graph.places < 2 ^ 32

-- the files that a graph is of, as the cabs show them
pub record IsGraphOf (files : List Opened) (graph : Graph) (cabs : List Held) : Type 0 where
  pub is : IsGraph files graph.places graph.rows graph.lost
  pub shows : ShowsCabs files cabs
  pub one : HoldOne files

-- what resolving one row answers
abbrev pub ResolvesOne : Rows → List Opened → AssetRow → Result Resolved Stop → Type 0
ResolvesOne r files row (Ok resolved) = ResolvesRow r files row (row_view resolved)
ResolvesOne r files row (Err (Lost guid)) = (first : BundleNo) × (slice_get row.deps 0 ≡ Some first) × LosesRow files row first.0 guid
ResolvesOne r files row (Err StopNoMemory) = Unit {0}

-- a row loses a GUID, and the bundle of its first dependency has the key
abbrev pub IsLostRow : Rows → List Opened → AssetRow → List ℕ → Guid → Type 0
IsLostRow r files row key guid = (first : BundleNo) × (slice_get row.deps 0 ≡ Some first)
    × (bundle : BundleRow) × (slice_get r.bundles first.0 ≡ Some bundle) × (key ≡ bundle.key) × LosesRow files row first.0 guid

-- a refusal tells the key of a bundle and a GUID, unless memory was refused
abbrev pub NamesLost : List BundleRow → ℕ → Guid → RowErr → Type 0
NamesLost bundles first guid (LostIn key lost) = (bundle : BundleRow) × (slice_get bundles first ≡ Some bundle) × (key ≡ bundle.key) × (lost ≡ guid)
NamesLost bundles first guid RowNoMemory = Unit {0}

-- the same with the bundle named
abbrev pub ResolvesNamed : Rows → List Opened → AssetRow → Result Resolved RowErr → Type 0
ResolvesNamed r files row (Ok resolved) = ResolvesRow r files row (row_view resolved)
ResolvesNamed r files row (Err (LostIn key guid)) = IsLostRow r files row key guid
ResolvesNamed r files row (Err RowNoMemory) = Unit {0}

-- what resolving some rows answers
abbrev pub ResolvesRows : Rows → List Opened → List AssetRow → Result (List Resolved) RowErr → Type 0
ResolvesRows r files rows (Ok shown) = AllZip (ResolvesRow r files) rows (map row_view shown)
ResolvesRows r files rows (Err (LostIn key guid)) = IsFirstLostRow r files rows key guid
ResolvesRows r files rows (Err RowNoMemory) = Unit {0}

-- what opening all bundles and resolving some rows answers
abbrev pub ResolvesIn : List MemFile → List ℕ → Rows → List AssetRow → Result (List Resolved) ResolveErr → Type 0
ResolvesIn files folder r rows (Ok shown) = (opened : List Opened) × AllZip (IsOpened files folder) r.bundles opened
    × AllZip (ResolvesRow r opened) rows (map row_view shown)
ResolvesIn files folder r rows (Err (BadBundle key why)) = IsWrong files folder r rows key why
ResolvesIn files folder r rows (Err DepotFault) = Unit {0}
ResolvesIn files folder r rows (Err NoMemory) = Unit {0}
ResolvesIn files folder r rows (Err _) = ⊥

-- the numbers are those of the rows
abbrev pub AreNumbersOf : Rows → List AssetRow → List RowNo → Type 0
AreNumbersOf r rows numbers = AllZip (λ row n. slice_get r.assets n.0 ≡ Some row) rows numbers

-- what looking for the rows of a key answers
abbrev pub FindsKey : Rows → List ℕ → Result (List RowNo) ResolveErr → Type 0
FindsKey r key (Ok numbers) = (0 < length numbers) × AreNumbersOf r (rows_with r key) numbers
FindsKey r key (Err NoKey) = rows_with r key ≡ []
FindsKey r key (Err NoMemory) = Unit {0}
FindsKey r key (Err _) = ⊥

-- what reading a folder's catalogue answers
abbrev pub ReadsRelease : List MemFile → List ℕ → Result Catalogue ResolveErr → Type 0
ReadsRelease files folder (Ok c) = HasCatalogue files folder c
ReadsRelease files folder (Err (NoRelease name)) = (name ≡ catalogue_path folder) × (file_at (catalogue_path folder) files ≡ None)
ReadsRelease files folder (Err (BadCatalogue fault)) = (bytes : List ℕ) × (file_at (catalogue_path folder) files ≡ Some bytes) × (catalogue_read bytes ≡ Err fault)
ReadsRelease files folder (Err DepotFault) = Unit {0}
ReadsRelease files folder (Err NoMemory) = Unit {0}
ReadsRelease files folder (Err _) = ⊥

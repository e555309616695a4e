-- Reading the files of assets: what the answer is where the depot tells its files, and what holds for every depot.
use Rattle.std.specs.Prelude.{ℕ, ◌≡◌, ◌⊎◌, List, map, length, Option, Some, None, Result, Ok, Err}
use Rattle.addr_base.specs.declared.files.MemFile.{MemFile}
use Rattle.addr_project.specs.declared.error.ProjectErr.{ProjectErr}
use Rattle.addr_project.specs.declared.error.ProjectErr.TheVariants.{NoMemory, DepotFault}
use Rattle.addr_project.specs.declared.model.Asset.{Asset}
use Rattle.addr_project.specs.declared.rows.AssetRow.{AssetRow}
use Rattle.addr_project.specs.Faults.{guids_of}
use Rattle.addr_project.specs.Kept.{asset_guids}
use Rattle.addr_project.specs.Reading.{bytes_of, asset_fault, asset_from, size_fault}

-- the bytes of each asset's file
abbrev pub contents : List MemFile → List ℕ → List AssetRow → List (Option (List ℕ))
contents files folder rows = map (bytes_of files folder) rows

-- the assets of some rows beside the bytes of their files
abbrev pub assets_of : List MemFile → List ℕ → List AssetRow → List Asset
assets_of files folder rows = map (λ row. asset_from row (bytes_of files folder row)) rows

-- the assets, or the first fault of their files; want of memory and a fault of the depot are free here
abbrev pub ReadsAssets : List MemFile → List ℕ → List AssetRow → Result (List Asset) ProjectErr → Type 0
ReadsAssets files folder rows (Ok assets) = (asset_fault (contents files folder rows) ≡ None) × (assets ≡ assets_of files folder rows)
ReadsAssets files folder rows (Err e) = (e ≡ NoMemory) ⊎ ((e ≡ DepotFault) ⊎ (asset_fault (contents files folder rows) ≡ Some e))

-- what assets have of their rows, whatever their files hold, and that no size passes a limit
pub record KeepsRows (rows : List AssetRow) (assets : List Asset) : Type 0 where
  pub guids : asset_guids assets ≡ guids_of rows
  pub kinds : map (λ a. a.kind) assets ≡ map (λ row. row.kind) rows
  pub refs : map (λ a. a.refs) assets ≡ map (λ row. row.refs) rows
  pub sizes : size_fault (map (λ a. length a.bytes) assets) ≡ None

-- Rows of entries as they are made, before anything is said of bundles.
use Rattle.std.specs.Prelude.{ℕ, ◌≡◌, List, [], ◌∷◌, map, Some}
use Rattle.std.specs.List.{slice_get}
use Rattle.addr_base.specs.Ids.{hex_of}
use Rattle.addr_locate.specs.Names.{with_texts}
use Rattle.addr_locate.specs.declared.rows.PlainAsset.{PlainAsset}
use Rattle.addr_project.specs.declared.model.Asset.{Asset}
use Rattle.addr_project.specs.declared.model.Entry.{Entry}
use Rattle.addr_project.specs.Model.{Project}

-- the row of an entry whose bundle has these dependencies
pub record IsRowTold (p : Project) (x : ℕ) (deps : List ℕ) (row : PlainAsset) : Type 0 where
  pub entry : Entry
  pub entry_at : slice_get p.entries x ≡ Some entry
  pub asset : Asset
  pub asset_at : slice_get p.assets entry.asset ≡ Some asset
  pub id : row.id ≡ hex_of asset.guid.0
  pub kind : row.kind ≡ asset.kind
  pub numbers : row.deps ≡ map (λ n. record { 0 = n }) deps
  pub keys : row.keys ≡ with_texts [] (entry.address ∷ hex_of asset.guid.0 ∷ entry.labels)

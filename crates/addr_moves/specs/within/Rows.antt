-- Rows of the present catalogue.
use Rattle.std.specs.Prelude.{ℕ, ◌≡◌, ◌≢◌, ◌<◌, List, Some}
use Rattle.std.specs.List.{slice_get}
use Rattle.addr_base.specs.Ids.{hex_of}
use Rattle.addr_base.specs.declared.ids.BundleNo.{BundleNo}
use Rattle.addr_base.specs.declared.ids.Guid.{Guid}
use Rattle.addr_locate.specs.Rows.{Rows}
use Rattle.addr_locate.specs.declared.rows.AssetRow.{AssetRow}
use Rattle.addr_locate.specs.declared.rows.BundleRow.{BundleRow}

-- the first dependency of a row has a name
abbrev pub LeadsToMoved : Rows → List ℕ → AssetRow → Type 0
LeadsToMoved r name row = (first : BundleNo) × (slice_get row.deps 0 ≡ Some first)
    × (b : BundleRow) × (slice_get r.bundles first.0 ≡ Some b) × (b.name ≡ name)

-- that of the first row with an id has it
abbrev pub IsMovedIn : Rows → List ℕ → Guid → Type 0
IsMovedIn r name a = (k : ℕ) × (row : AssetRow) × (slice_get r.assets k ≡ Some row) × (row.id ≡ hex_of a.0)
    × ((j : ℕ) (other : AssetRow) → j < k → slice_get r.assets j ≡ Some other → other.id ≢ hex_of a.0) × LeadsToMoved r name row

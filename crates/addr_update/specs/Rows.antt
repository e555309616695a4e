-- The rows of kept and of moved entries after an update.
use Rattle.std.specs.Prelude.{ℕ, ◌≡◌, Some}
use Rattle.std.specs.List.{slice_get}
use Rattle.addr_base.specs.Ids.{digest_of, hex_of}
use Rattle.addr_base.specs.declared.ids.BundleNo.{BundleNo}
use Rattle.addr_locate.specs.Rows.{Rows}
use Rattle.addr_locate.specs.declared.rows.AssetRow.{AssetRow}
use Rattle.addr_locate.specs.declared.rows.BundleRow.{BundleRow}
use Rattle.addr_state.specs.declared.model.State.{State}
use Rattle.addr_state.specs.declared.model.StateBundle.{StateBundle}
use Rattle.addr_update.specs.After.{IsRowOfOld}
use Rattle.addr_update.specs.Moved.{moved_name}

-- the bundle row of an asset row's first dependency
pub record HasFirst (r : Rows) (a : AssetRow) (row : BundleRow) : Type 0 where
  pub first : BundleNo
  pub dep : slice_get a.deps 0 ≡ Some first
  pub at : slice_get r.bundles first.0 ≡ Some row

-- the row of a kept entry: its first dependency is its old bundle, as the state has it
abbrev pub IsKeptRow : State → Rows → ℕ → AssetRow → Type 0
IsKeptRow s r m a = (old : StateBundle) × (slice_get s.bundles m ≡ Some old)
    × (row : BundleRow) × HasFirst r a row × IsRowOfOld old row

-- that of a moved entry: it is the bundle of moved entries
abbrev pub IsMovedRow : Rows → AssetRow → Type 0
IsMovedRow r a = (row : BundleRow) × HasFirst r a row × (row.name ≡ hex_of (digest_of moved_name))

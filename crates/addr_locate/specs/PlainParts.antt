-- The parts of a file of plain rows: what its first lines are read as, and where the reading ends.
use Rattle.std.specs.Prelude.{ℕ, ◌≡◌, ◌≤◌, ◌+◌, List, ◌∷◌, ◌++◌, Result, Ok, Err, map, length}
use Rattle.std.specs.List.{AllByRecursion, flat_map}
use Rattle.addr_fields.specs.Lines.{lines_of}
use Rattle.addr_locate.specs.PlainRows.{IsAssetRow, IsBundleRow, asset_line, bundle_line}
use Rattle.addr_locate.specs.declared.error.RowsErr.{RowsErr}
use Rattle.addr_locate.specs.declared.error.RowsErr.TheVariants.{Line, NoMemory}
use Rattle.addr_locate.specs.declared.rows.BundleRow.{BundleRow}
use Rattle.addr_locate.specs.declared.rows.PlainAsset.{PlainAsset}

-- the first lines are the bundles', and the next one, if there is one, is no bundle's
pub record BundlesThen (bytes : List ℕ) (bundles : List BundleRow) (rest : List ℕ) : Type 0 where
  pub spelled : lines_of bytes ≡ map bundle_line bundles ++ lines_of rest
  pub each : AllByRecursion IsBundleRow bundles
  pub stops : (b : BundleRow) (more : List (List ℕ)) → IsBundleRow b → lines_of rest ≡ bundle_line b ∷ more → ⊥
  pub room : length bundles + length rest ≤ length bytes

-- the lines are the assets'; the bytes have room for as many assets, and for as many keys
pub record AreAssets (bytes : List ℕ) (count : ℕ) (assets : List PlainAsset) : Type 0 where
  pub spelled : lines_of bytes ≡ map asset_line assets
  pub each : AllByRecursion (IsAssetRow count) assets
  pub room : length assets ≤ length bytes
  pub key_room : length (flat_map (λ a. a.keys) assets) ≤ length bytes

-- behind the heading, so many bundles and some assets stands a line that is no asset's
pub record IsBadAfter (bytes : List ℕ) (count place : ℕ) : Type 0 where
  pub assets : List PlainAsset
  pub line : List ℕ
  pub after : List (List ℕ)
  pub spelled : lines_of bytes ≡ map asset_line assets ++ line ∷ after
  pub each : AllByRecursion (IsAssetRow count) assets
  pub wrong : (a : PlainAsset) → IsAssetRow count a → line ≡ asset_line a → ⊥
  pub place_is : place ≡ count + 2 + length assets

-- what the lines behind the bundles are read as
abbrev pub ReadsAssets : List ℕ → ℕ → Result (List PlainAsset) RowsErr → Type 0
ReadsAssets bytes count (Ok assets) = AreAssets bytes count assets
ReadsAssets bytes count (Err (Line place)) = IsBadAfter bytes count place
ReadsAssets bytes count (Err NoMemory) = Unit {0}

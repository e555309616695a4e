use Rattle.std.proofs.Common.{◌≡◌, ◌≤◌, ◌+◌, ◌++◌, ℕ, List, map, length}
use Rattle.std.specs.List.{AllByRecursion, flat_map}
use Rattle.addr_fields.specs.Lines.{lines_of}
use Rattle.addr_locate.specs.PlainRows.{IsAssetRow, asset_line}
use Rattle.addr_locate.specs.declared.rows.PlainAsset.{PlainAsset}
use Rattle.addr_locate.proofs.plain_reader.read_assets.Given as goal

-- the rows so far and the lines of the rest are the lines of the bytes
pub record SoFar (bytes : List ℕ) (count place : ℕ) (assets : List PlainAsset) (rest : List ℕ) : Type 0 where
  pub read : lines_of bytes ≡ map asset_line assets ++ lines_of rest
  pub each : AllByRecursion (IsAssetRow count) assets
  pub room : length assets + length rest ≤ length bytes
  pub place_is : place ≡ count + 2 + length assets
  pub key_room : length (flat_map (λ (a : PlainAsset). a.keys) assets) + length rest ≤ length bytes

abbrev pub invariant-loop-line : goal.invariant-loop-line
invariant-loop-line l = SoFar l.fn.bytes l.fn.count l.place l.assets l.rest

abbrev pub decreases-loop-line : goal.decreases-loop-line
decreases-loop-line l = length l.rest

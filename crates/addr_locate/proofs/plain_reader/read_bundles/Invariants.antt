use Rattle.std.proofs.Common.{◌≡◌, ◌≤◌, ◌+◌, ◌++◌, ℕ, List, map, length}
use Rattle.std.specs.List.{AllByRecursion}
use Rattle.addr_fields.specs.Lines.{lines_of}
use Rattle.addr_locate.specs.PlainRows.{IsBundleRow, bundle_line}
use Rattle.addr_locate.specs.declared.rows.BundleRow.{BundleRow}
use Rattle.addr_locate.proofs.plain_reader.read_bundles.Given as goal

-- the rows so far and the lines of the rest are the lines of the bytes
pub record SoFar (bytes : List ℕ) (bundles : List BundleRow) (rest : List ℕ) : Type 0 where
  pub read : lines_of bytes ≡ map bundle_line bundles ++ lines_of rest
  pub each : AllByRecursion IsBundleRow bundles
  pub room : length bundles + length rest ≤ length bytes

abbrev pub invariant-loop-line : goal.invariant-loop-line
invariant-loop-line l = SoFar l.fn.bytes l.bundles l.rest

abbrev pub decreases-loop-line : goal.decreases-loop-line
decreases-loop-line l = length l.rest

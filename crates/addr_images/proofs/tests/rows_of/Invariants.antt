use Rattle.std.proofs.Common.{◌≡◌, length}
use Rattle.addr_walks.specs.Places.{EachAt}
use Rattle.addr_images.specs.States.{IsBundleRow}
use Rattle.addr_images.proofs.tests.rows_of.Given as goal

abbrev pub invariant-loop-b : goal.invariant-loop-b
invariant-loop-b l = record {
  as_many : length l.rows ≡ l.b;
  each : EachAt (IsBundleRow l.project l.plan) l.rows;
}

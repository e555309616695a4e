use Rattle.std.proofs.Common.{◌≡◌, length}
use Rattle.addr_images.specs.within.Stated.{AreStated}
use Rattle.addr_images.proofs.states.bundles_stated.Given as goal

abbrev pub invariant-loop-b : goal.invariant-loop-b
invariant-loop-b l = record {
  as_many : length l.stated ≡ l.b;
  each : AreStated l.project l.plan l.rows l.stated;
}

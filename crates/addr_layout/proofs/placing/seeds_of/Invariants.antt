use Rattle.std.proofs.Common.{◌≡◌, length}
use Rattle.addr_walks.specs.Places.{EachAt}
use Rattle.addr_layout.specs.Graph.{AreSeeds}
use Rattle.addr_layout.proofs.placing.seeds_of.Given as goal

abbrev pub invariant-loop-bundle : goal.invariant-loop-bundle
invariant-loop-bundle l = record {
  as_many : length l.seeds ≡ l.bundle-index;
  seeds : EachAt (AreSeeds l.project l.plan l.guids) l.seeds;
}

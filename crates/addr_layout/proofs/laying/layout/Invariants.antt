use Rattle.std.proofs.Common.{◌≡◌, length}
use Rattle.addr_walks.specs.Places.{EachAt}
use Rattle.addr_layout.specs.Layout.{IsLaid}
use Rattle.addr_layout.proofs.laying.layout.Given as goal

abbrev pub invariant-loop-b : goal.invariant-loop-b
invariant-loop-b l = record {
  size : l.search ≡ length l.graph.guids;
  as_many : length l.bundles ≡ l.b;
  laid : EachAt (IsLaid l.project l.plan) l.bundles;
}

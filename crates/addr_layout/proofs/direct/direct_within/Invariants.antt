use Rattle.std.proofs.Common.{◌≡◌, length}
use Rattle.addr_walks.specs.Places.{EachAt}
use Rattle.addr_layout.specs.Graph.{IsDirect}
use Rattle.addr_layout.proofs.direct.direct_within.Given as goal

abbrev pub invariant-loop-b : goal.invariant-loop-b
invariant-loop-b l = record {
  size : l.search ≡ length l.graph.guids;
  as_many : length l.rows ≡ l.b;
  direct : EachAt (IsDirect l.graph) l.rows;
}

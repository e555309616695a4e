use Rattle.std.proofs.Common.{◌≡◌, ◌≤◌, ◌*◌, length}
use Rattle.addr_layout.specs.Counts.{AreCounted}
use Rattle.addr_layout.proofs.CountLemmas.{TotalTo}
use Rattle.addr_layout.proofs.counting.members_count.Given as goal

abbrev pub invariant-loop-b : goal.invariant-loop-b
invariant-loop-b l = record {
  size : l.search ≡ length l.graph.guids;
  total : TotalTo (AreCounted l.project l.plan) l.b l.total;
  few : l.total ≤ l.b * 65536;
}

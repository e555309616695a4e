use Rattle.std.proofs.Common.{◌≡◌, take}
use Rattle.std.specs.List.{filter}
use Rattle.addr_layout.specs.Graph.{is_free}
use Rattle.addr_layout.proofs.graph.free_of.Given as goal

abbrev pub invariant-loop-rank : goal.invariant-loop-rank
invariant-loop-rank l = l.free ≡ filter (is_free l.bundles) (take l.rank-index l.row)

use Rattle.std.proofs.Common.{◌≡◌, map, take}
use Rattle.std.specs.List.{filter}
use Rattle.addr_layout.specs.Graph.{is_free}
use Rattle.addr_layout.proofs.graph.within_of.Given as goal

abbrev pub invariant-loop-row : goal.invariant-loop-row
invariant-loop-row l = l.within ≡ map (filter (is_free l.bundles)) (take l.row-index l.refs)

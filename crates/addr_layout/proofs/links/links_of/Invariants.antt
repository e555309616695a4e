use Rattle.std.proofs.Common.{◌≡◌, ◌++◌, map, take}
use Rattle.std.specs.List.{flat_map}
use Rattle.addr_layout.specs.Links.{link_at, links_at}
use Rattle.addr_layout.proofs.links.links_of.Given as goal

abbrev pub invariant-loop-entries : goal.invariant-loop-entries
invariant-loop-entries l = l.links ≡ map (flat_map (links_at l.graph)) (take l.entries-index l.graph.seeds)

abbrev pub invariant-loop-refs : goal.invariant-loop-refs
invariant-loop-refs l = l.links ≡ map (flat_map (links_at l.graph)) l.graph.seeds ++ map (map (link_at l.graph)) (take l.refs-index l.graph.refs)

use Rattle.std.proofs.Common.{◌≡◌, ◌++◌, map, take}
use Rattle.addr_layout.specs.Links.{link_at}
use Rattle.addr_layout.proofs.links.add_links.Given as goal

abbrev pub invariant-loop-rank : goal.invariant-loop-rank
invariant-loop-rank l = l.links ≡ l.fn.links ++ map (link_at l.graph) (take l.rank-index l.refs)

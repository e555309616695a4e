use Rattle.std.proofs.Common.{◌≡◌, take}
use Rattle.std.specs.List.{flat_map}
use Rattle.addr_layout.specs.Links.{links_at}
use Rattle.addr_layout.proofs.links.bundle_links.Given as goal

abbrev pub invariant-loop-rank : goal.invariant-loop-rank
invariant-loop-rank l = l.links ≡ flat_map (links_at l.graph) (take l.rank-index l.entries)

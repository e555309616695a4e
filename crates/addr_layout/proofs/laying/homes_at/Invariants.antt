use Rattle.std.proofs.Common.{◌≡◌, map, take}
use Rattle.addr_layout.specs.Homes.{home_at}
use Rattle.addr_layout.specs.Graph.{refs_at}
use Rattle.addr_layout.proofs.laying.homes_at.Given as goal

abbrev pub invariant-loop-r : goal.invariant-loop-r
invariant-loop-r l = l.rows ≡ map (λ r. map (home_at l.b l.graph.bundles) (refs_at l.graph r)) (take l.r-index l.ranks)

use Rattle.std.proofs.Common.{◌≡◌, map, take}
use Rattle.addr_layout.specs.Homes.{home_at}
use Rattle.addr_layout.proofs.homes.homes_of.Given as goal

abbrev pub invariant-loop-rank : goal.invariant-loop-rank
invariant-loop-rank l = l.homes ≡ map (home_at l.b l.bundles) (take l.rank-index l.ranks)

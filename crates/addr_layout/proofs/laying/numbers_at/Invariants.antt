use Rattle.std.proofs.Common.{◌≡◌, map, take}
use Rattle.addr_layout.specs.Graph.{number_at}
use Rattle.addr_layout.proofs.laying.numbers_at.Given as goal

abbrev pub invariant-loop-r : goal.invariant-loop-r
invariant-loop-r l = l.numbers ≡ map (number_at l.graph) (take l.r-index l.ranks)

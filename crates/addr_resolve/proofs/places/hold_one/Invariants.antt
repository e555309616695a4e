use Rattle.std.proofs.Common.{take}
use Rattle.addr_resolve.proofs.HoldLemmas.{AllAscend}
use Rattle.addr_resolve.proofs.places.hold_one.Given as goal

abbrev pub invariant-loop-cab : goal.invariant-loop-cab
invariant-loop-cab l = AllAscend (take l.cab-index l.cabs)

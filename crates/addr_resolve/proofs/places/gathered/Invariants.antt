use Rattle.std.proofs.Common.{take}
use Rattle.addr_resolve.specs.Places.{ArePlaces}
use Rattle.addr_resolve.proofs.places.gathered.Given as goal

abbrev pub invariant-loop-b : goal.invariant-loop-b
invariant-loop-b l = ArePlaces (take l.b l.cabs) l.places

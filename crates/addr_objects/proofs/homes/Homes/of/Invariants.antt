use Rattle.std.proofs.Common.{take}
use Rattle.addr_objects.specs.within.Homes.{AreHomes}
use Rattle.addr_objects.proofs.homes.Homes.of.Given as goal

abbrev pub invariant-loop-b : goal.invariant-loop-b
invariant-loop-b l = AreHomes l.bundles (take l.b-index l.needs) l.by_name

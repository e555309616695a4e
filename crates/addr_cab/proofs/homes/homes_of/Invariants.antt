use Rattle.std.proofs.Common.{◌≡◌, take}
use Rattle.addr_cab.specs.Outside.{outside_of}
use Rattle.addr_cab.specs.Written.{refs_of}
use Rattle.addr_cab.proofs.homes.homes_of.Given as goal

abbrev pub invariant-loop-object : goal.invariant-loop-object
invariant-loop-object l = l.found.keys ≡ outside_of (refs_of (take l.object-index l.objects))

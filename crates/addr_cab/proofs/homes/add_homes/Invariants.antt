use Rattle.std.proofs.Common.{◌≡◌, take}
use Rattle.addr_cab.specs.Outside.{with_homes}
use Rattle.addr_cab.proofs.homes.add_homes.Given as goal

abbrev pub invariant-loop-reference : goal.invariant-loop-reference
invariant-loop-reference l = l.found.keys ≡ with_homes l.initial.found.keys (take l.reference-index l.refs)

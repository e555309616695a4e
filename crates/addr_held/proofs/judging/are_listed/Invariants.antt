use Rattle.std.proofs.Common.{◌≡◌, length, map, take}
use Rattle.addr_cab.specs.declared.object.ObjectRow.{ObjectRow}
use Rattle.addr_held.proofs.judging.are_listed.Given as goal

abbrev pub invariant-loop-object : goal.invariant-loop-object
invariant-loop-object l = take (length l.yielded) (map (λ (o : ObjectRow). o.guid) l.objects) ≡ take (length l.yielded) l.listed

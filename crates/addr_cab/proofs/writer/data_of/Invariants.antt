use Rattle.std.proofs.Common.{◌≡◌, take}
use Rattle.addr_cab.specs.Written.{cab_data}
use Rattle.addr_cab.proofs.writer.data_of.Given as goal

abbrev pub invariant-loop-object : goal.invariant-loop-object
invariant-loop-object l = l.content.items ≡ cab_data (take l.object-index l.objects)

use Rattle.std.proofs.Common.{◌≡◌, ◌++◌}
use Rattle.addr_cab.specs.Outside.{outside_of}
use Rattle.addr_cab.specs.Written.{refs_of}
use Rattle.addr_cab.proofs.writer.outside_of.Given as goal

abbrev pub invariant-loop-name : goal.invariant-loop-name
invariant-loop-name l = l.names.items ++ l.name-iterator ≡ outside_of (refs_of l.objects)

use Rattle.std.proofs.Common.{take}
use Rattle.addr_resolve.specs.within.Leading.{AreFirsts, first_of}
use Rattle.addr_resolve.proofs.names.firsts_of.Given as goal

abbrev pub invariant-loop-b : goal.invariant-loop-b
invariant-loop-b l = AreFirsts (take l.b l.bundles) (first_of l.firsts)

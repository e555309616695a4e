use Rattle.addr_needs.specs.within.Names.{AreNames, numbers_under}
use Rattle.addr_needs.proofs.names.names_of.Given as goal

abbrev pub invariant-loop-b : goal.invariant-loop-b
invariant-loop-b l = AreNames l.plan l.b (numbers_under l.names)

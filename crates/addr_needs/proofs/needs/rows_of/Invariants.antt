use Rattle.addr_needs.specs.within.Naming.{AreRowsAt}
use Rattle.addr_needs.proofs.needs.rows_of.Given as goal

abbrev pub invariant-loop-b : goal.invariant-loop-b
invariant-loop-b l = AreRowsAt l.plan l.layout l.cabs l.numbers l.b l.rows

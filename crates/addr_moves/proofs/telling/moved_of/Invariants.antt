use Rattle.addr_moves.specs.within.Told.{ListsMoved}
use Rattle.addr_moves.proofs.telling.moved_of.Given as goal

abbrev pub invariant-loop-x : goal.invariant-loop-x
invariant-loop-x l = ListsMoved l.fates l.x l.moved

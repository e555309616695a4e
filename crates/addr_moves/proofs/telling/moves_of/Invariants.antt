use Rattle.addr_moves.specs.within.Told.{TellsMoves}
use Rattle.addr_moves.proofs.telling.moves_of.Given as goal

abbrev pub invariant-loop-x : goal.invariant-loop-x
invariant-loop-x l = TellsMoves l.project l.fates l.x l.moves

use Rattle.addr_moves.specs.within.Ways.{AreBadBelow}
use Rattle.addr_moves.proofs.bad.bad_of.Given as goal

abbrev pub invariant-loop-n : goal.invariant-loop-n
invariant-loop-n l = AreBadBelow l.spoils l.away l.lost l.n l.bad

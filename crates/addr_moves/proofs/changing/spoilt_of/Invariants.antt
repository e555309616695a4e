use Rattle.std.proofs.Common.{take}
use Rattle.addr_moves.specs.within.Changing.{AreSpoilt}
use Rattle.addr_moves.proofs.changing.spoilt_of.Given as goal

abbrev pub invariant-loop-n : goal.invariant-loop-n
invariant-loop-n l = AreSpoilt l.spoils (take l.n-index l.found) l.spoilt

use Rattle.std.proofs.Common.{take}
use Rattle.std.specs.List.{AllZip}
use Rattle.addr_moves.specs.within.Changing.{AreSeen}
use Rattle.addr_moves.proofs.changing.seen_of.Given as goal

abbrev pub invariant-loop-n : goal.invariant-loop-n
invariant-loop-n l = AllZip (AreSeen l.places) (take l.n-index l.found) l.seen

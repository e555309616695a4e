use Rattle.std.proofs.Common.{take}
use Rattle.addr_moves.specs.Firsts.{number_under}
use Rattle.addr_moves.specs.within.Changing.{AreUnsettled}
use Rattle.addr_moves.proofs.changing.unsettled_of.Given as goal

abbrev pub invariant-loop-n : goal.invariant-loop-n
invariant-loop-n l = AreUnsettled l.project (number_under l.seen) (number_under l.spoilt) (take l.n-index l.reached) l.guids

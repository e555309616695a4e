use Rattle.std.proofs.Common.{take}
use Rattle.addr_moves.specs.within.Leasts.{IsLeastIn}
use Rattle.addr_moves.proofs.leasts.least_of.Given as goal

abbrev pub invariant-loop-guid : goal.invariant-loop-guid
invariant-loop-guid l = IsLeastIn (take l.guid-index l.guids) l.least

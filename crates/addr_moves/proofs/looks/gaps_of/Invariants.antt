use Rattle.std.proofs.Common.{take}
use Rattle.addr_moves.specs.within.Looks.{AreGuidsWhere, IsGapBy}
use Rattle.addr_moves.proofs.looks.gaps_of.Given as goal

abbrev pub invariant-loop-r : goal.invariant-loop-r
invariant-loop-r l = AreGuidsWhere (IsGapBy l.homes l.places l.bundle) (take l.r-index l.refs) l.gaps

use Rattle.std.proofs.Common.{take}
use Rattle.addr_moves.specs.within.Looks.{AreGuidsWhere, IsStrayBy}
use Rattle.addr_moves.proofs.looks.strays_of.Given as goal

abbrev pub invariant-loop-r : goal.invariant-loop-r
invariant-loop-r l = AreGuidsWhere (IsStrayBy l.homes l.bundle) (take l.r-index l.refs) l.strays

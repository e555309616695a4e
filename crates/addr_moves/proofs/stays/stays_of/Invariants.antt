use Rattle.std.proofs.Common.{take}
use Rattle.std.specs.List.{AllZip}
use Rattle.addr_moves.specs.Stays.{StaysAs}
use Rattle.addr_moves.proofs.stays.stays_of.Given as goal

abbrev pub invariant-loop-old : goal.invariant-loop-old
invariant-loop-old l = AllZip (StaysAs l.state.fixed l.project) (take l.old-index l.state.bundles) l.stays

use Rattle.std.proofs.Common.{take}
use Rattle.addr_layout.specs.Graph.{AreRanks}
use Rattle.addr_layout.proofs.guids.ranks_of.Given as goal

abbrev pub invariant-loop-guid : goal.invariant-loop-guid
invariant-loop-guid l = AreRanks l.guids (take l.guid-index l.refs) l.ranks

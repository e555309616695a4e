use Rattle.std.proofs.Common.{take}
use Rattle.std.specs.List.{AllZip}
use Rattle.addr_layout.specs.Graph.{IsEntryRank}
use Rattle.addr_layout.proofs.placing.entry_ranks.Given as goal

abbrev pub invariant-loop-x : goal.invariant-loop-x
invariant-loop-x l = AllZip (IsEntryRank l.project l.guids) (take l.x-index l.entries) l.ranks

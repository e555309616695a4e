use Rattle.std.proofs.Common.{take}
use Rattle.std.specs.List.{AllZip}
use Rattle.addr_update.specs.After.{IsRowOfOld}
use Rattle.addr_held.proofs.rows.rows_of_state.Given as goal

abbrev pub invariant-loop-old : goal.invariant-loop-old
invariant-loop-old l = AllZip IsRowOfOld (take l.old-index l.bundles) l.rows

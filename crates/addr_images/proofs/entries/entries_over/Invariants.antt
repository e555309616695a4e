use Rattle.std.proofs.Common.{take}
use Rattle.std.specs.List.{AllZip}
use Rattle.addr_release.specs.Built.{IsEntryRowAs}
use Rattle.addr_walks.specs.Rows.{Edge}
use Rattle.addr_images.proofs.entries.entries_over.Given as goal

abbrev pub invariant-loop-x : goal.invariant-loop-x
invariant-loop-x l = AllZip (IsEntryRowAs l.project l.plan (Edge l.direct)) (take l.x l.project.entries) l.rows.items

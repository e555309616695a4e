use Rattle.std.proofs.Common.{length, take}
use Rattle.addr_analyze.specs.Counting.{AreMarks}
use Rattle.addr_analyze.proofs.counting.entry_marks.Given as goal

abbrev pub invariant-loop-entry : goal.invariant-loop-entry
invariant-loop-entry l = AreMarks (length l.project.assets) (take l.entry-index l.project.entries) l.marks.items

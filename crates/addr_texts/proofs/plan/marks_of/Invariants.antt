use Rattle.std.proofs.Common.{take, length}
use Rattle.addr_texts.specs.Marks.{AreMarks}
use Rattle.addr_texts.proofs.plan.marks_of.Given as goal

abbrev pub invariant-loop-entry : goal.invariant-loop-entry
invariant-loop-entry l = AreMarks (length l.project.assets) (take l.entry-index l.project.entries) l.marks.items

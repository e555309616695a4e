use Rattle.std.proofs.Common.{◌≡◌, length, vec_len}
use Rattle.addr_images.proofs.MarkLemmas.{MarksTo}
use Rattle.addr_images.proofs.marks.entry_marks.Given as goal

abbrev pub invariant-loop-entry : goal.invariant-loop-entry
invariant-loop-entry l = record {
  len : vec_len l.marks ≡ length l.project.assets;
  marks : MarksTo l.project.entries l.entry-index l.marks.items;
}

use Rattle.addr_tables.proofs.WrittenLemmas.{WritingRows}
use Rattle.addr_tables.proofs.encoder.entry_tables.Given as goal

abbrev pub invariant-loop-i : goal.invariant-loop-i
invariant-loop-i l = WritingRows l.entries l.i l.entry_table.items l.extra_table.items

use Rattle.addr_tables.proofs.WrittenLemmas.{Writing}
use Rattle.addr_tables.proofs.encoder.key_tables.Given as goal

abbrev pub invariant-loop-i : goal.invariant-loop-i
invariant-loop-i l = Writing l.keys l.buckets l.i l.key_table.items l.bucket_table.items

use Rattle.std.proofs.Common.{◌≡◌, [], drop, vec_len}
use Rattle.addr_tables.specs.Faults.{entries_read}
use Rattle.addr_tables.proofs.decoder.entries_of.Given as goal

abbrev pub invariant-loop-fields : goal.invariant-loop-fields
invariant-loop-fields l =
    (entries_read l.tables l.parts.extras l.fn.keys l.rows.items (drop l.fields-index l.parts.entries) ≡ entries_read l.tables l.parts.extras l.fn.keys [] l.parts.entries) × (vec_len l.rows ≡ l.fields-index)

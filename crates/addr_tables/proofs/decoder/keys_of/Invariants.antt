use Rattle.std.proofs.Common.{◌≡◌, [], length, drop, vec_len}
use Rattle.addr_tables.specs.Faults.{keys_read}
use Rattle.addr_tables.specs.Seen.{HasForms}
use Rattle.addr_tables.proofs.decoder.keys_of.Given as goal

abbrev pub invariant-loop-bucket : goal.invariant-loop-bucket
invariant-loop-bucket l =
    (keys_read l.parts.keys (length l.parts.entries) l.keys.items (drop l.bucket-index l.parts.buckets) ≡ keys_read l.parts.keys (length l.parts.entries) [] l.parts.buckets) × HasForms l.seen l.keys.items × (vec_len l.keys ≡ l.bucket-index)

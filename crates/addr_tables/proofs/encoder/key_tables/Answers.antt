use Rattle.std.proofs.Common.{List, ℕ, ◌++◌, length, ap, ◌∙◌, arith}
use Rattle.std.specs.Int.{w32, to_le_bytes}
use Rattle.addr_tables.proofs.WrittenLemmas.{keys_few, writing_start, writing_more, writing_small, writing_done, bucket_alike}
use Rattle.addr_tables.proofs.encoder.key_tables.Goals as goal

pub overflow_cast-count : goal.overflow_cast-count
overflow_cast-count c = let few = keys_few c.args.keys.now c.args.buckets.now c.requires.paired c.requires.bucket_small in omega arith

pub loop-i-init : goal.loop-i-init
loop-i-init c =
    writing_start c.args.keys.now c.args.buckets.now _ _ c.requires.paired
    (c.in_ok-put_u32.ensures ∙ ap (λ (x : List ℕ). x ++ to_le_bytes w32 (length c.args.keys.now)) c.new-key_table.ensures.items)
    (c.in_ok-put_u32-2.ensures ∙ ap (λ (x : List ℕ). x ++ to_le_bytes w32 (length c.args.keys.now)) c.new-bucket_table.ensures.items)

pub put_bucket-requires : goal.put_bucket-requires
put_bucket-requires c =
    let small = writing_small c.args.keys.now c.args.buckets.now c.loop-i.i c.loop-i.key_table.items c.loop-i.bucket_table.items c.index-keys-i.result c.index-buckets-i.result c.loop-i-test.true c.requires.paired c.index-keys-i.is c.index-buckets-i.is c.requires.key_small c.requires.bucket_small c.loop-i.invariant in
    let same = ap length c.as_slice.ensures in omega (arith, small.count)

pub loop-i-preserved : goal.loop-i-preserved
loop-i-preserved c =
    writing_more c.args.keys.now c.args.buckets.now c.loop-i.i c.loop-i.key_table.items c.loop-i.bucket_table.items _ _ c.index-keys-i.result c.index-buckets-i.result c.loop-i-test.true c.requires.paired c.index-keys-i.is c.index-buckets-i.is
    (bucket_alike c.loop-i.bucket_table.items _ _ (length c.loop-i.key_table.items) _ _ (c.len.ensures ∙ c.loop-i.key_table.ok.0) c.as_slice.ensures c.in_ok-put_bucket.ensures)
    c.in_ok-write_key.ensures.written c.in_ok-write_key.ensures.form c.loop-i.invariant

pub returns-clause-buckets : goal.returns-clause-buckets
returns-clause-buckets c = (writing_done c.args.keys.now c.args.buckets.now c.loop-i.i c.loop-i.key_table.items c.loop-i.bucket_table.items c.loop-i-test.false c.loop-i.invariant).buckets_are

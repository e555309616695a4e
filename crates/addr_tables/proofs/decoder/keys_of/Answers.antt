use Rattle.std.proofs.Common.{length, refl, ap, arith}
use Rattle.std.proofs.lemmas.Result.{err_from_is_err_and}
use Rattle.addr_reading.proofs.ListLaws.{all_more, all_ends, all_done}
use Rattle.addr_tables.specs.Faults.{bucket_read}
use Rattle.addr_tables.proofs.Loops.{bucket_alike}
use Rattle.addr_tables.proofs.SeenLemmas.{none_seen}
use Rattle.addr_tables.proofs.decoder.keys_of.Goals as goal

pub loop-bucket-init : goal.loop-bucket-init
loop-bucket-init c =
    (rw c.new-keys.ensures.items refl, none_seen c.new-seen.result c.new-keys.result.items c.new-seen.ensures.empty c.new-keys.ensures.items, c.new-keys.ensures.len)

pub returns-in_err-key-clause-exact : goal.returns-in_err-key-clause-exact
returns-in_err-key-clause-exact c =
    let p = err_from_is_err_and c.from_residual.result c.from_residual.ensures.1 in
    rw (p.1, p.2) (λ ne.
    let read = c.in_err-key.ensures.exact c.loop-bucket.keys.items c.loop-bucket.invariant.1 (omega (arith, c.len.ensures, c.loop-bucket.keys.ok.0)) ne in
    let h = bucket_alike c.args.parts.now.keys (length c.args.parts.now.entries) c.loop-bucket.bucket-index c.loop-bucket.keys.items c.args.parts.now.buckets _ c.bucket-item.result _ c.as_slice-bucket-items.ensures c.bucket-item.is read in
    all_ends (bucket_read c.args.parts.now.keys (length c.args.parts.now.entries)) c.loop-bucket.keys.items c.args.parts.now.buckets c.loop-bucket.bucket-index c.bucket-item.result c.in_err-key.field-0.0 _ (omega (arith, ap length c.as_slice-bucket-items.ensures, c.loop-bucket-test.true)) h c.loop-bucket.invariant.0)

pub loop-bucket-preserved : goal.loop-bucket-preserved
loop-bucket-preserved c =
    let read = c.in_ok-key.ensures.exact c.loop-bucket.keys.items c.loop-bucket.invariant.1 (omega (arith, c.len.ensures, c.loop-bucket.keys.ok.0)) in
    let h = bucket_alike c.args.parts.now.keys (length c.args.parts.now.entries) c.loop-bucket.bucket-index c.loop-bucket.keys.items c.args.parts.now.buckets _ c.bucket-item.result _ c.as_slice-bucket-items.ensures c.bucket-item.is read in
    let more = all_more (bucket_read c.args.parts.now.keys (length c.args.parts.now.entries)) c.loop-bucket.keys.items c.args.parts.now.buckets c.loop-bucket.bucket-index c.bucket-item.result c.in_ok-key.key _ (omega (arith, ap length c.as_slice-bucket-items.ensures, c.loop-bucket-test.true)) h c.loop-bucket.invariant.0 in
    let forms = c.in_ok-key.ensures.more c.loop-bucket.keys.items c.loop-bucket.invariant.1 in
    (rw c.in_ok-push.ensures.items more, rw c.in_ok-push.ensures.items forms, omega (arith, c.in_ok-push.ensures.len, c.loop-bucket.invariant.2))

pub returns-clause-exact : goal.returns-clause-exact
returns-clause-exact c = all_done (bucket_read c.args.parts.now.keys (length c.args.parts.now.entries)) c.loop-bucket.keys.items c.args.parts.now.buckets c.loop-bucket.bucket-index _ (omega (arith, ap length c.as_slice-bucket-items.ensures, c.loop-bucket-test.false)) c.loop-bucket.invariant.0

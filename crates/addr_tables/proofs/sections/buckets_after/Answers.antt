use Rattle.std.proofs.Common.{List, arith}
use Rattle.std.proofs.lemmas.Result.{err_from_is_err_and}
use Rattle.addr_reading.proofs.ListLaws.{times_more, times_end, times_done}
use Rattle.addr_tables.specs.declared.parts.Bucket.{Bucket}
use Rattle.addr_tables.specs.Faults.{bucket_first}
use Rattle.addr_tables.proofs.sections.buckets_after.Goals as goal

pub returns-in_err-bucket-clause-exact : goal.returns-in_err-bucket-clause-exact
returns-in_err-bucket-clause-exact c =
    let p = err_from_is_err_and c.from_residual.result c.from_residual.ensures.1 in
    rw (p.1, p.2) (λ ne. times_end (λ (others : List Bucket). bucket_first) c.args.count c.loop-i._i c.loop-i.buckets.items c.loop-i.rest.now c.in_err-bucket.field-0.0 _ c.loop-i-test.true (c.in_err-bucket.ensures ne) c.loop-i.invariant.0)

pub loop-i-preserved : goal.loop-i-preserved
loop-i-preserved c =
    (rw c.in_ok-push.ensures.items (times_more (λ (others : List Bucket). bucket_first) c.args.count c.loop-i._i c.loop-i.buckets.items c.loop-i.rest.now c.in_ok-bucket.bucket c.in_ok-bucket.after.now _ c.loop-i-test.true c.in_ok-bucket.ensures c.loop-i.invariant.0), omega (arith, c.in_ok-push.ensures.len, c.loop-i.invariant.1))

pub returns-clause-exact : goal.returns-clause-exact
returns-clause-exact c = times_done (λ (others : List Bucket). bucket_first) c.args.count c.loop-i._i c.loop-i.buckets.items c.loop-i.rest.now _ c.loop-i-test.false c.loop-i.invariant.0

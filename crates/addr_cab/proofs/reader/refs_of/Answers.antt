use Rattle.std.proofs.Common.{[], inr}
use Rattle.std.proofs.lemmas.Result.{err_from_is_err_and}
use Rattle.addr_cab.specs.Faults.{refs_at}
use Rattle.addr_cab.specs.Tails.{tail}
use Rattle.addr_cab.proofs.Loops.{next_ref, bad_ref, all_refs}
use Rattle.addr_cab.proofs.reader.refs_of.Goals as goal

pub returns-in_err-reference : goal.returns-in_err-reference
returns-in_err-reference c =
    let p = err_from_is_err_and c.from_residual.result c.from_residual.ensures.1 in
    rw (p.1, p.2) (inr (bad_ref c.args.count c.loop-i.i c.args.outside.now c.loop-i.refs.items (tail c.loop-i.rest) c.in_err-reference.field-0.0 (refs_at c.args.count c.args.outside.now [] (tail c.args.from)) c.loop-i-test.true c.in_err-reference.ensures c.loop-i.invariant))

pub loop-i-preserved : goal.loop-i-preserved
loop-i-preserved c =
    rw c.in_ok-push.ensures.items (next_ref c.args.count c.loop-i.i c.args.outside.now c.loop-i.refs.items (tail c.loop-i.rest) c.in_ok-reference.reference (tail c.in_ok-reference.after) (refs_at c.args.count c.args.outside.now [] (tail c.args.from)) c.loop-i-test.true c.in_ok-reference.ensures c.loop-i.invariant)

pub returns : goal.returns
returns c = all_refs c.args.count c.loop-i.i c.args.outside.now c.loop-i.refs.items (tail c.loop-i.rest) (refs_at c.args.count c.args.outside.now [] (tail c.args.from)) c.loop-i-test.false c.loop-i.invariant

use Rattle.std.proofs.Common.{[], None, inr}
use Rattle.std.proofs.lemmas.Result.{err_from_is_err_and}
use Rattle.addr_cab.specs.Faults.{outside_at}
use Rattle.addr_cab.specs.Tails.{tail}
use Rattle.addr_cab.proofs.Loops.{next_name, bad_name, all_names}
use Rattle.addr_cab.proofs.reader.outside_of.Goals as goal

pub returns-in_err-name : goal.returns-in_err-name
returns-in_err-name c =
    let p = err_from_is_err_and c.from_residual.result c.from_residual.ensures.1 in
    rw (p.1, p.2) (inr (bad_name c.args.count c.loop-i.i c.loop-i.outside.items c.loop-i.last (tail c.loop-i.rest) c.in_err-name.field-0.0 (outside_at c.args.count [] None (tail c.args.from)) c.loop-i-test.true c.in_err-name.ensures c.loop-i.invariant))

pub loop-i-preserved : goal.loop-i-preserved
loop-i-preserved c =
    rw c.in_ok-push.ensures.items (next_name c.args.count c.loop-i.i c.loop-i.outside.items c.loop-i.last (tail c.loop-i.rest) c.in_ok-name.name (tail c.in_ok-name.after) (outside_at c.args.count [] None (tail c.args.from)) c.loop-i-test.true c.in_ok-name.ensures c.loop-i.invariant)

pub returns : goal.returns
returns c = all_names c.args.count c.loop-i.i c.loop-i.outside.items c.loop-i.last (tail c.loop-i.rest) (outside_at c.args.count [] None (tail c.args.from)) c.loop-i-test.false c.loop-i.invariant

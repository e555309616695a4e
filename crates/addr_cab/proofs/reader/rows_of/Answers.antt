use Rattle.std.proofs.Common.{[], None}
use Rattle.std.proofs.lemmas.Result.{err_from_is_err_and}
use Rattle.addr_cab.specs.Faults.{rows_at}
use Rattle.addr_cab.specs.Tails.{tail}
use Rattle.addr_cab.proofs.Loops.{next_row, bad_row, all_rows}
use Rattle.addr_cab.proofs.reader.rows_of.Goals as goal

pub returns-in_err-row : goal.returns-in_err-row
returns-in_err-row c =
    let p = err_from_is_err_and c.from_residual.result c.from_residual.ensures.1 in
    rw (p.1, p.2) (bad_row c.args.count c.loop-i.i c.args.outside.now c.args.room c.loop-i.last c.loop-i.end c.loop-i.rows.items (tail c.loop-i.rest) c.in_err-row.field-0.0 (rows_at c.args.count c.args.outside.now c.args.room None 0 [] (tail c.args.from)) c.loop-i-test.true c.in_err-row.ensures.value c.loop-i.invariant.read)

pub loop-i-preserved : goal.loop-i-preserved
loop-i-preserved c = record {
  read = rw c.in_ok-push.ensures.items (next_row c.args.count c.loop-i.i c.args.outside.now c.args.room c.loop-i.last c.loop-i.end c.loop-i.rows.items (tail c.loop-i.rest) c.in_ok-row.row (tail c.in_ok-row.after) (rows_at c.args.count c.args.outside.now c.args.room None 0 [] (tail c.args.from)) c.loop-i-test.true c.in_ok-row.ensures.value c.loop-i.invariant.read);
  fits = c.in_ok-row.ensures.fits;
}

pub returns : goal.returns
returns c = all_rows c.args.count c.loop-i.i c.args.outside.now c.args.room c.loop-i.last c.loop-i.end c.loop-i.rows.items (tail c.loop-i.rest) (rows_at c.args.count c.args.outside.now c.args.room None 0 [] (tail c.args.from)) c.loop-i-test.false c.loop-i.invariant.read

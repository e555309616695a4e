use Rattle.std.proofs.Common.{ap, arith}
use Rattle.std.proofs.lemmas.List.Sums.{sum_by_more}
use Rattle.addr_cab.specs.Written.{IsTyped}
use Rattle.addr_cab.specs.Spelling.{row_text}
use Rattle.addr_cab.specs.Written.{bytes_len}
use Rattle.addr_cab.proofs.PutLaws.{all-more}
use Rattle.addr_cab.proofs.WrittenRows.{rows_more}
use Rattle.addr_cab.proofs.writer.put_rows.Goals as goal

pub loop-object-preserved : goal.loop-object-preserved
loop-object-preserved c = record {
  rows = rows_more (row_text c.args.names.names.now) c.args.out.now.items c.put_row.new.out.items c.loop-object.out.items c.args.objects.now c.loop-object.object-index c.loop-object.offset c.object-item.result c.loop-object-test.true c.object-item.is c.loop-object.invariant.rows c.loop-object.invariant.offset c.in_ok-put_row.ensures.row;
  offset = omega (arith, c.len.ensures, c.loop-object.invariant.offset, sum_by_more bytes_len c.args.objects.now c.loop-object.object-index c.object-item.result c.loop-object-test.true, ap bytes_len c.object-item.is);
  typed = all-more IsTyped c.args.objects.now c.loop-object.object-index c.object-item.result c.loop-object-test.true c.object-item.is c.loop-object.invariant.typed c.in_ok-put_row.ensures.typed;
}

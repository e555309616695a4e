use Rattle.std.proofs.Common.{◌≡◌, ◌+◌, take, drop, sum_by}
use Rattle.addr_cab.specs.Spelling.{row_len}
use Rattle.addr_cab.specs.Faults.{lost_at}
use Rattle.addr_cab.proofs.ending.lost_at.Given as goal

abbrev pub invariant-loop-row : goal.invariant-loop-row
invariant-loop-row l = record {
  at : l.at ≡ l.start + sum_by row_len (take l.row-index l.table.rows.now);
  left : lost_at l.table.rows.now l.at (drop l.row-index l.table.rows.now) ≡ lost_at l.table.rows.now l.start l.table.rows.now;
}

use Rattle.std.proofs.Common.{◌≡◌, ◌-◌, ◌≤◌, [], None}
use Rattle.addr_cab.specs.Faults.{rows_at}
use Rattle.addr_cab.specs.Tails.{tail}
use Rattle.addr_cab.proofs.reader.rows_of.Given as goal

abbrev pub invariant-loop-i : goal.invariant-loop-i
invariant-loop-i l = record {
  read : rows_at (l.count - l.i) l.outside l.room l.last l.end l.rows.items (tail l.rest) ≡ rows_at l.count l.outside l.room None 0 [] (tail l.from);
  fits : l.end ≤ l.room;
}

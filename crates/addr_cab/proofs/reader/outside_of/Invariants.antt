use Rattle.std.proofs.Common.{◌≡◌, ◌-◌, [], None}
use Rattle.addr_cab.specs.Faults.{outside_at}
use Rattle.addr_cab.specs.Tails.{tail}
use Rattle.addr_cab.proofs.reader.outside_of.Given as goal

abbrev pub invariant-loop-i : goal.invariant-loop-i
invariant-loop-i l = outside_at (l.count - l.i) l.outside.items l.last (tail l.rest) ≡ outside_at l.count [] None (tail l.from)

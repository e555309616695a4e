use Rattle.std.proofs.Common.{◌≡◌, ◌-◌, []}
use Rattle.addr_cab.specs.Faults.{refs_at}
use Rattle.addr_cab.specs.Tails.{tail}
use Rattle.addr_cab.proofs.reader.refs_of.Given as goal

abbrev pub invariant-loop-i : goal.invariant-loop-i
invariant-loop-i l = refs_at (l.count - l.i) l.outside l.refs.items (tail l.rest) ≡ refs_at l.count l.outside [] (tail l.from)

use Rattle.std.proofs.Common.{◌≡◌, ◌++◌, length}
use Rattle.addr_tables.specs.Faults.{numbers_of}
use Rattle.addr_tables.proofs.sections.numbers_of.Given as goal

abbrev pub invariant-loop-rest : goal.invariant-loop-rest
invariant-loop-rest l = l.numbers.items ++ numbers_of l.rest ≡ numbers_of l.bytes

abbrev pub decreases-loop-rest : goal.decreases-loop-rest
decreases-loop-rest l = length l.rest

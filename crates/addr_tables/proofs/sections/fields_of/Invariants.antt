use Rattle.std.proofs.Common.{◌≡◌, ◌++◌, length}
use Rattle.addr_tables.specs.Faults.{fields_of}
use Rattle.addr_tables.proofs.sections.fields_of.Given as goal

abbrev pub invariant-loop-fields : goal.invariant-loop-fields
invariant-loop-fields l = l.entries.items ++ fields_of l.rest ≡ fields_of l.numbers

abbrev pub decreases-loop-fields : goal.decreases-loop-fields
decreases-loop-fields l = length l.rest

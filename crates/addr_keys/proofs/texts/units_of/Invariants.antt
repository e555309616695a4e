use Rattle.std.proofs.Common.{◌≡◌, ◌++◌, length}
use Rattle.addr_keys.specs.Faults.{units_of}
use Rattle.addr_keys.proofs.texts.units_of.Given as goal

abbrev pub invariant-loop-rest : goal.invariant-loop-rest
invariant-loop-rest l = l.units.items ++ units_of l.rest ≡ units_of l.body

abbrev pub decreases-loop-rest : goal.decreases-loop-rest
decreases-loop-rest l = length l.rest

use Rattle.std.proofs.Common.{◌≡◌}
use Rattle.addr_expansion.specs.Extents.{extents}
use Rattle.addr_expansion.specs.Expansion.{outcome_of}
use Rattle.addr_expansion.proofs.expansion.known.Given as goal

abbrev pub invariant-loop-round : goal.invariant-loop-round
invariant-loop-round l = l.table.items ≡ extents (outcome_of l.variables l._round) l.variables

use Rattle.std.proofs.Common.{◌≡◌, take}
use Rattle.addr_expansion.specs.Extents.{extents}
use Rattle.addr_expansion.specs.Expansion.{circular}
use Rattle.addr_expansion.proofs.expansion.unknown.Given as goal

abbrev pub invariant-loop-variable : goal.invariant-loop-variable
invariant-loop-variable l = l.table.items ≡ extents (λ text. circular) (take l.variable-index l.variables)

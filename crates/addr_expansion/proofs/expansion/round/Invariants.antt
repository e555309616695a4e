use Rattle.std.proofs.Common.{◌≡◌, ℕ, List, take}
use Rattle.addr_expansion.specs.Extents.{extents}
use Rattle.addr_expansion.specs.Expansion.{Outcome, filled}
use Rattle.addr_expansion.proofs.expansion.round.Given as goal

abbrev pub invariant-loop-variable : goal.invariant-loop-variable
invariant-loop-variable l = (lead : List ℕ → Outcome) → l.table ≡ extents lead l.variables → l.next.items ≡ extents (filled l.variables lead) (take l.variable-index l.variables)

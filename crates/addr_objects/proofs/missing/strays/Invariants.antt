use Rattle.std.proofs.Common.{take}
use Rattle.addr_history.specs.Unfolding.{Strays}
use Rattle.addr_objects.proofs.missing.strays.Given as goal

abbrev pub invariant-loop-r : goal.invariant-loop-r
invariant-loop-r l = Strays l.homes.bundles l.homes.needs l.from (take l.r-index l.refs) → ⊥

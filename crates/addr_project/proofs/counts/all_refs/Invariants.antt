use Rattle.std.proofs.Common.{◌≡◌, map, take}
use Rattle.addr_project.specs.Faults.{total_refs}
use Rattle.addr_project.proofs.counts.all_refs.Given as goal

abbrev pub invariant-loop-asset : goal.invariant-loop-asset
invariant-loop-asset l = l.total ≡ total_refs (map (λ x. x.refs) (take l.asset-index l.assets))

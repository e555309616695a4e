use Rattle.std.proofs.Common.{◌≡◌, map, drop}
use Rattle.addr_project.specs.Faults.{over_refs}
use Rattle.addr_project_rows.specs.Firsts.{first_of}
use Rattle.addr_project.proofs.counts.first_refs.Given as goal

abbrev pub invariant-loop-asset : goal.invariant-loop-asset
invariant-loop-asset l = first_of over_refs (map (λ x. x.refs) (drop l.asset-index l.assets)) ≡ first_of over_refs (map (λ x. x.refs) l.assets)

use Rattle.std.proofs.Common.{◌≡◌, take}
use Rattle.std.specs.List.{flat_map}
use Rattle.addr_cab.specs.Outside.{outside_of}
use Rattle.addr_cab.proofs.homes.homes_of_rows.Given as goal

abbrev pub invariant-loop-row : goal.invariant-loop-row
invariant-loop-row l = l.found.keys ≡ outside_of (flat_map (λ o. o.refs) (take l.row-index l.rows))

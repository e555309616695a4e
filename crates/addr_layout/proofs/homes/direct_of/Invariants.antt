use Rattle.std.proofs.Common.{◌≡◌, take}
use Rattle.std.specs.List.{flat_map}
use Rattle.addr_layout.specs.Homes.{bundles_named}
use Rattle.addr_layout.proofs.homes.direct_of.Given as goal

abbrev pub invariant-loop-row : goal.invariant-loop-row
invariant-loop-row l = l.direct.items ≡ flat_map bundles_named (take l.row-index l.rows)

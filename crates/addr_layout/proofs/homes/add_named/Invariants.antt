use Rattle.std.proofs.Common.{◌≡◌, ◌++◌, take}
use Rattle.addr_layout.specs.Homes.{bundles_named}
use Rattle.addr_layout.proofs.homes.add_named.Given as goal

abbrev pub invariant-loop-home : goal.invariant-loop-home
invariant-loop-home l = l.direct.items ≡ l.fn.direct.items ++ bundles_named (take l.home-index l.homes)

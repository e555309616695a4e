use Rattle.std.proofs.Common.{◌≡◌, map, take}
use Rattle.addr_catalog.specs.Written.{dep_numbers}
use Rattle.addr_catalog.proofs.key_numbers.all_deps.Given as goal

abbrev pub invariant-loop-asset : goal.invariant-loop-asset
invariant-loop-asset l = l.lists.items ≡ map dep_numbers (take l.asset-index l.assets)

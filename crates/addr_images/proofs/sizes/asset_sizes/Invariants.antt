use Rattle.std.proofs.Common.{◌≡◌, map, take}
use Rattle.addr_images.specs.within.Told.{asset_size}
use Rattle.addr_images.proofs.sizes.asset_sizes.Given as goal

abbrev pub invariant-loop-n : goal.invariant-loop-n
invariant-loop-n l = l.sizes.items ≡ map (asset_size l.project) (take l.n-index l.members)

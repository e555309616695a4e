use Rattle.std.proofs.Common.{◌≡◌, take, map}
use Rattle.addr_images.specs.within.Fixed.{fixed_names}
use Rattle.addr_images.proofs.fixed.fixed_set.Given as goal

abbrev pub invariant-loop-group : goal.invariant-loop-group
invariant-loop-group l = map (λ name. name.now) l.found.keys ≡ fixed_names (take l.group-index l.groups)

use Rattle.std.proofs.Common.{◌≡◌, ◌-◌, ◌^◌, min, take}
use Rattle.addr_cab.specs.Sizes.{content_size}
use Rattle.addr_cab.proofs.sizes.content_size.Given as goal

abbrev pub invariant-loop-object : goal.invariant-loop-object
invariant-loop-object l = l.size ≡ min (content_size (take l.object-index l.objects)) (2 ^ 64 - 1)

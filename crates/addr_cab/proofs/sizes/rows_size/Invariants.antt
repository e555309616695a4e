use Rattle.std.proofs.Common.{◌≡◌, ◌-◌, ◌^◌, min, take}
use Rattle.addr_cab.specs.Sizes.{rows_size}
use Rattle.addr_cab.proofs.sizes.rows_size.Given as goal

abbrev pub invariant-loop-object : goal.invariant-loop-object
invariant-loop-object l = l.size ≡ min (rows_size (take l.object-index l.objects)) (2 ^ 64 - 1)

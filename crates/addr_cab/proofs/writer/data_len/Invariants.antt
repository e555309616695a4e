use Rattle.std.proofs.Common.{◌≡◌, ◌-◌, ◌^◌, min, sum_by, take}
use Rattle.addr_cab.specs.Written.{bytes_len}
use Rattle.addr_cab.proofs.writer.data_len.Given as goal

abbrev pub invariant-loop-object : goal.invariant-loop-object
invariant-loop-object l = l.len ≡ min (sum_by bytes_len (take l.object-index l.objects)) (2 ^ 64 - 1)

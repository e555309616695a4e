use Rattle.std.proofs.Common.{◌≡◌, sum_by, take}
use Rattle.addr_tables.specs.Sizes.{bucket_size, saturated}
use Rattle.addr_tables.proofs.sizes.all_buckets.Given as goal

abbrev pub invariant-loop-numbers : goal.invariant-loop-numbers
invariant-loop-numbers l = l.total ≡ saturated (sum_by bucket_size (take l.numbers-index l.buckets))

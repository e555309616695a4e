use Rattle.std.proofs.Common.{◌≡◌, sum_by, take}
use Rattle.addr_tables.specs.Sizes.{key_size, saturated}
use Rattle.addr_tables.proofs.sizes.all_keys.Given as goal

abbrev pub invariant-loop-key : goal.invariant-loop-key
invariant-loop-key l = l.total ≡ saturated (sum_by key_size (take l.key-index l.keys))

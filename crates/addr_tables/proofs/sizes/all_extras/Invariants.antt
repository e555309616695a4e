use Rattle.std.proofs.Common.{◌≡◌, sum_by, take}
use Rattle.addr_tables.specs.Sizes.{extra_size, saturated}
use Rattle.addr_tables.proofs.sizes.all_extras.Given as goal

abbrev pub invariant-loop-entry : goal.invariant-loop-entry
invariant-loop-entry l = l.total ≡ saturated (sum_by extra_size (take l.entry-index l.entries))

use Rattle.std.proofs.Common.{◌≡◌, map}
use Rattle.std.specs.List.{range_with_len}
use Rattle.addr_catalog.specs.Inverted.{first_with}
use Rattle.addr_catalog.proofs.inverted.invert.Given as goal

abbrev pub invariant-loop-k : goal.invariant-loop-k
invariant-loop-k l = l.found.items ≡ map (first_with l.lists l.k) (range_with_len 0 l.count)

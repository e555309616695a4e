use Rattle.std.proofs.Common.{◌≡◌, ◌++◌, take}
use Rattle.std.specs.List.{flat_map}
use Rattle.std.specs.Int.{w32, to_le_bytes}
use Rattle.addr_tables.proofs.encoder.put_numbers.Given as goal

abbrev pub invariant-loop-n : goal.invariant-loop-n
invariant-loop-n l = l.into.items ≡ l.initial.into.items ++ flat_map (to_le_bytes w32) (take l.n-index l.numbers)

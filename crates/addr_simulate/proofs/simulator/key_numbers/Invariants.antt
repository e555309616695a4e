use Rattle.std.proofs.Common.{◌≡◌, map, take}
use Rattle.addr_locate.specs.Rows.{key_of}
use Rattle.addr_simulate.proofs.simulator.key_numbers.Given as goal

abbrev pub invariant-loop-key : goal.invariant-loop-key
invariant-loop-key l = l.numbers ≡ map (key_of l.locator) (take l.key-index l.keys)

use Rattle.std.proofs.Common.{◌≡◌, take}
use Rattle.std.specs.List.{flat_map}
use Rattle.addr_locate.specs.Postings.{numbers_of_key}
use Rattle.addr_locate.proofs.merging.numbers_of.Given as goal

abbrev pub invariant-loop-key : goal.invariant-loop-key
invariant-loop-key l = l.numbers.items ≡ flat_map (numbers_of_key l.kind l.rows l.postings) (take l.key-index l.keys)

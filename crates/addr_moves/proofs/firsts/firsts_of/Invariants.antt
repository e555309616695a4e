use Rattle.std.proofs.Common.{map, take}
use Rattle.addr_moves.specs.Firsts.{AreFirsts, number_under}
use Rattle.addr_moves.proofs.firsts.firsts_of.Given as goal

abbrev pub invariant-loop-n : goal.invariant-loop-n
invariant-loop-n g l = AreFirsts (map g.T.Keyed.key_of (take l.n l.things)) (number_under l.firsts)

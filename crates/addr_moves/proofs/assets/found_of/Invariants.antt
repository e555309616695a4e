use Rattle.std.proofs.Common.{take}
use Rattle.addr_moves.specs.Firsts.{number_under}
use Rattle.addr_moves.specs.within.Assets.{AreFound}
use Rattle.addr_moves.proofs.assets.found_of.Given as goal

abbrev pub invariant-loop-guid : goal.invariant-loop-guid
invariant-loop-guid l = AreFound (number_under l.numbers) (take l.guid-index l.guids) l.row

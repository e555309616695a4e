use Rattle.std.proofs.Common.{take}
use Rattle.addr_moves.specs.Firsts.{number_under}
use Rattle.addr_moves.specs.within.Holders.{AddsEach}
use Rattle.addr_moves.proofs.olds.add_entries.Given as goal

abbrev pub invariant-loop-guid : goal.invariant-loop-guid
invariant-loop-guid l = AddsEach (number_under l.initial.holders) (take l.guid-index l.guids) l.m (number_under l.holders)

use Rattle.std.proofs.Common.{take}
use Rattle.addr_moves.specs.within.Anew.{AddsNames, name_under}
use Rattle.addr_moves.proofs.anew.add_names.Given as goal

abbrev pub invariant-loop-x : goal.invariant-loop-x
invariant-loop-x l = AddsNames l.project (name_under l.initial.anew) (take l.x-index l.entries) l.name (name_under l.anew)

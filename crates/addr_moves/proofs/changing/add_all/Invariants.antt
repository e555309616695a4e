use Rattle.std.proofs.Common.{◌≡◌, ◌++◌, take}
use Rattle.addr_moves.proofs.changing.add_all.Given as goal

abbrev pub invariant-loop-guid : goal.invariant-loop-guid
invariant-loop-guid l = l.guids ≡ l.fn.guids ++ take l.guid-index l.more

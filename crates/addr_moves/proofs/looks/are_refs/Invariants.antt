use Rattle.std.proofs.Common.{◌≡◌, map, take}
use Rattle.addr_moves.proofs.looks.are_refs.Given as goal

abbrev pub invariant-loop-i : goal.invariant-loop-i
invariant-loop-i l = map (λ r. r.guid) (take l.i l.refs) ≡ take l.i l.guids

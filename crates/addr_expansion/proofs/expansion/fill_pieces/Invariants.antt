use Rattle.std.proofs.Common.{◌≡◌, ℕ, List, map, take}
use Rattle.std.specs.List.{fold}
use Rattle.addr_expansion.specs.Extents.{IsExtent, extents}
use Rattle.addr_expansion.specs.Expansion.{Outcome, with_piece, of_name}
use Rattle.addr_expansion.proofs.expansion.fill_pieces.Given as goal

abbrev pub invariant-loop-piece : goal.invariant-loop-piece
invariant-loop-piece l = (lead : List ℕ → Outcome) (a : Outcome) → l.table ≡ extents lead l.variables → IsExtent l.fn.first a → IsExtent l.extent (fold (with_piece (of_name l.variables lead)) a (map (λ piece. piece.now) (take l.piece-index l.pieces)))

use Rattle.std.proofs.Common.{◌≡◌, ◌++◌, ◌+◌, ◌-◌, ◌≤◌, List, ℕ, take, drop, sym, ap, subst, ◌∙◌, append_assoc, arith}
use Rattle.std.proofs.Math.Seq.{take-add}
use Rattle.addr_fetch.proofs.mem_fetch.pour_all.Goals as goal

-- the piece behind the bytes so far
piece_on : (bytes fed : List ℕ) (at end : ℕ) → at ≤ end → (fed ++ take at bytes) ++ take (end - at) (drop at bytes) ≡ fed ++ take end bytes
piece_on bytes fed at end later =
    let whole : at + (end - at) ≡ end = omega arith in
    append_assoc fed (take at bytes) (take (end - at) (drop at bytes)) ∙ ap (λ piece. fed ++ piece) (sym (take-add at (end - at) bytes) ∙ ap (λ n. take n bytes) whole)

pub loop-at-preserved : goal.loop-at-preserved
loop-at-preserved g c = record {
  within = c.end_of_piece-end.ensures.within;
  took = λ fed took. subst (g.P.Pour.took c.pour.new.self) (piece_on c.args.bytes.now fed c.loop-at.at c.end_of_piece-end.result (omega (arith, c.end_of_piece-end.ensures.later)))
      (c.in_ok-pour.ensures.took _ (c.loop-at.invariant.took fed took));
  fixed = c.pour.ensures.fixed ∙ c.loop-at.invariant.fixed;
}

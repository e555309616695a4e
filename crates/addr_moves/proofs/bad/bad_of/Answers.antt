use Rattle.std.proofs.Common.{◌≡◌, ◌+◌, length, subst, sym, arith}
use Rattle.addr_moves.specs.within.Ways.{AreBadBelow}
use Rattle.addr_moves.proofs.BadLemmas.{bad-more, bad-none}
use Rattle.addr_moves.proofs.bad.bad_of.Goals as goal

pub loop-n-init : goal.loop-n-init
loop-n-init c = subst (AreBadBelow c.args.spoils.now c.args.away.now c.args.lost.now 0) (sym c.new-bad.ensures) (bad-none c.args.spoils.now c.args.away.now c.args.lost.now)

pub loop-n-preserved : goal.loop-n-preserved
loop-n-preserved c =
    let n = c.loop-n.n in
    subst (AreBadBelow c.args.spoils.now c.args.away.now c.args.lost.now (n + 1)) (sym c.in_ok-add_unless.ensures) (bad-more c.args.spoils.now c.args.away.now c.args.lost.now n c.loop-n.bad c.is_good.result c.is_good.ensures c.loop-n.invariant)

pub returns : goal.returns
returns c =
    let same : c.loop-n.n ≡ length c.args.spoils.now = let low = c.loop-n-test.false in let high = c.loop-n.auto.n-end in omega (arith, low, high) in
    subst (λ k. AreBadBelow c.args.spoils.now c.args.away.now c.args.lost.now k c.loop-n.bad) same c.loop-n.invariant

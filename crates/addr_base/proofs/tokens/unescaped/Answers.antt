use Rattle.addr_base.proofs.TokenLemmas.{loose_done, loose_step}
use Rattle.addr_base.proofs.tokens.unescaped.Goals as goal

pub loop-byte-preserved : goal.loop-byte-preserved
loop-byte-preserved c =
    loose_step _ _ _ _ _ _ _ c.loop-byte-test.true c.in_ok-place.ensures.place c.in_ok-place.ensures.text c.loop-byte.invariant

pub returns : goal.returns
returns c = loose_done _ _ _ _ _ c.loop-byte-test.false c.loop-byte.invariant

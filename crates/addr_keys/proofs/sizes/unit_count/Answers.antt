use Rattle.std.proofs.Common.{length, ap, arith}
use Rattle.addr_keys.proofs.UnitLemmas.{is_next, none_left, starts}
use Rattle.addr_keys.proofs.SizeLemmas.{counted}
use Rattle.addr_keys.proofs.sizes.unit_count.Goals as goal

pub loop-init : goal.loop-init
loop-init c =
    let at = starts c.encode_utf16-items.result c.into_iter-iterator.result c.args.text.now c.into_iter-iterator.ensures.into_iter_gives c.encode_utf16-items.ensures.pending c.encode_utf16-items.ensures.text c.utf8.text in
    let len = ap length at.left in
    record { left = omega (arith, len); fits = omega arith; utf8 = at.utf8 }

pub loop-preserved : goal.loop-preserved
loop-preserved c =
    let next = is_next c.loop.iterator' c.next.new.self c.in-Some.field-0 c.loop.invariant.utf8 c.in-Some.ensures.steps in
    let len = ap length next.left in
    record { left = counted c.loop.count _ _ _ _ len c.loop.invariant.left c.saturating_add-count.ensures; fits = omega (arith, c.saturating_add-count.ensures); utf8 = next.utf8 }

pub returns : goal.returns
returns c =
    let len = ap length (none_left c.loop.iterator' c.next.new.self c.in-None.ensures.steps) in
    omega (arith, c.loop.invariant.left, c.loop.invariant.fits, len)

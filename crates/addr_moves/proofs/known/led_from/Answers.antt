use Rattle.addr_moves.proofs.KnownLemmas.{led-none, led-some}
use Rattle.addr_moves.proofs.known.led_from.Goals as goal

pub returns-in-None-2-clause-led : goal.returns-in-None-2-clause-led
returns-in-None-2-clause-led c =
    let k = c.args.known.now in
    led-none k.rows c.as_slice.result.now k.away c.as_slice-in-Some.result.now c.args.start c.in-Some.n c.in_ok-led_away-in-Some.field-0 c.in-Some.is c.as_slice.ensures c.as_slice-in-Some.ensures c.in-None-2.is c.in_ok-led_away-in-Some.ensures.led

pub returns-in-Some-2-clause-led : goal.returns-in-Some-2-clause-led
returns-in-Some-2-clause-led c =
    let k = c.args.known.now in
    led-some k.rows c.as_slice.result.now k.away c.as_slice-in-Some.result.now c.args.start c.in-Some.n c.in_ok-led_away-in-Some.field-0 c.in-Some-2.guid c.in-Some.is c.as_slice.ensures c.as_slice-in-Some.ensures c.in-Some-2.is c.in_ok-led_away-in-Some.ensures.led

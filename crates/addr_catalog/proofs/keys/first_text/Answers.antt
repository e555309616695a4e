use Rattle.std.proofs.Common.{◌<◌, length, sym, arith}
use Rattle.addr_catalog.specs.Entries.{key_text_at}
use Rattle.addr_catalog.proofs.KeyLemmas.{first_found, none_found}
use Rattle.addr_catalog.proofs.keys.first_text.Goals as goal

pub returns-in-Some : goal.returns-in-Some
returns-in-Some c =
    let small : c.loop-number.number-index < length c.args.numbers.now = omega arith in
    sym (first_found (key_text_at c.args.keys.now) c.args.numbers.now c.loop-number.number-index c.in-Some.text.now small c.loop-number.invariant (sym c.in-Some.ensures))

pub loop-number-preserved : goal.loop-number-preserved
loop-number-preserved c =
    let small : c.loop-number.number-index < length c.args.numbers.now = omega arith in
    none_found (key_text_at c.args.keys.now) c.args.numbers.now c.loop-number.number-index small c.loop-number.invariant (sym c.in_default.ensures)

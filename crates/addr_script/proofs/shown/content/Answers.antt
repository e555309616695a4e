use Rattle.std.proofs.Common.{◌∙◌, ◌≤◌, ◌<◌, sym, refl, arith, true, false, length}
use Rattle.std.proofs.lemmas.Bool.{le-leb, lt-leb}
use Rattle.std.specs.Prelude.{nat_le}
use Rattle.addr_script.proofs.WordLemmas.{content_if}
use Rattle.addr_script.proofs.shown.content.Goals as goal

pub returns-then-is_empty : goal.returns-then-is_empty
returns-then-is_empty c = c.in_ok-none.ensures ∙ sym (content_if c.args.bytes.now true (nat_le (length c.args.bytes.now) 64) (sym c.is_empty.ensures ∙ c.if-is_empty.true) refl)

pub returns-then-bytes-le-SHOWN : goal.returns-then-bytes-le-SHOWN
returns-then-bytes-le-SHOWN c =
    let few : length c.args.bytes.now ≤ 64 = omega (arith, c.if-bytes-le-SHOWN.true) in
    c.in_ok-digits.ensures ∙ sym (content_if c.args.bytes.now false true (sym c.is_empty.ensures ∙ c.if-is_empty.false) (le-leb (length c.args.bytes.now) 64 few))

pub returns : goal.returns
returns c =
    let many : 64 < length c.args.bytes.now = omega (arith, c.if-bytes-le-SHOWN.false) in
    c.in_ok-name.ensures ∙ sym (content_if c.args.bytes.now false false (sym c.is_empty.ensures ∙ c.if-is_empty.false) (lt-leb (length c.args.bytes.now) 64 many))

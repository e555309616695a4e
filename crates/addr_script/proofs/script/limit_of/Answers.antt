use Rattle.std.proofs.Common.{◌≡◌, arith, codes}
use Rattle.addr_fields.proofs.NumberLemmas.{same_word_number}
use Rattle.addr_script.proofs.script.limit_of.Goals as goal

pub returns-else-is_limit : goal.returns-else-is_limit
returns-else-is_limit c = λ n is e.
    let same : c.in-Some.limit ≡ n = same_word_number (codes "limit ") c.args.line.now c.in-Some.limit n c.in-Some.ensures (omega (arith, is.1), (cc)) in
    grind (arith, c.is_limit.ensures, c.if-is_limit.false, same, is)

use Rattle.std.proofs.Common.{◌≡◌, arith}
use Rattle.std.proofs.lemmas.Fmt.{parse-decimal}
use Rattle.addr_fields.proofs.fields.spelled_number.Goals as goal

pub returns-else-is_spelled : goal.returns-else-is_spelled
returns-else-is_spelled c = λ n is.
    let read = parse-decimal 64 n _ _ is.0 is.0 is.1 c.parse.ensures.value.0 in
    let same : c.in-Ok.n ≡ n = cc (read, c.in-Ok.is) in
    grind (arith, c.is_spelled.ensures, same, is.1)

pub returns-in-Err : goal.returns-in-Err
returns-in-Err c = λ n is. absurd (cc (parse-decimal 64 n _ _ is.0 is.0 is.1 c.parse.ensures.value.0, c.in-Err.is))

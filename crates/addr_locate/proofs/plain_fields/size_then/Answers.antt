use Rattle.std.proofs.Common.{sym, arith, decimal}
use Rattle.addr_fields.proofs.NumberLemmas.{decimal_is_free, same_number}
use Rattle.addr_locate.proofs.FieldLemmas.{cut_is}
use Rattle.addr_locate.proofs.plain_fields.size_then.Goals as goal

pub returns-in-Some-long_number-clause-only : goal.returns-in-Some-long_number-clause-only
returns-in-Some-long_number-clause-only c = λ n rest is.
    let same = cut_is 32 c.args.text.now c.in-Some.digits.now c.in-Some.rest.now (decimal n) rest c.in-Some.ensures (decimal_is_free 32 n (omega arith) is.0) is.1 in
    (same_number c.in-Some.digits.now n c.in-Some-long_number.n (is.0, same.0) c.in-Some-long_number.ensures, sym same.1)

pub returns-in-None-long_number-clause-found : goal.returns-in-None-long_number-clause-found
returns-in-None-long_number-clause-found c = λ n rest is.
    let same = cut_is 32 c.args.text.now c.in-Some.digits.now c.in-Some.rest.now (decimal n) rest c.in-Some.ensures (decimal_is_free 32 n (omega arith) is.0) is.1 in
    c.in-None-long_number.ensures n (is.0, same.0)

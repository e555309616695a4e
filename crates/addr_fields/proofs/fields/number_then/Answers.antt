use Rattle.std.proofs.Common.{◌∙◌, arith, sym}
use Rattle.std.proofs.lemmas.Fmt.{decimal_injective}
use Rattle.addr_fields.proofs.NumberLemmas.{number_before_cut}
use Rattle.addr_fields.proofs.fields.number_then.Goals as goal

pub returns-in-Some-number-clause-only : goal.returns-in-Some-number-clause-only
returns-in-Some-number-clause-only c = λ n rest is.
    let same = number_before_cut c.args.text.now c.in-Some.digits.now c.in-Some.rest.now c.in-Some.ensures n rest is in
    let number = c.in-Some-number.ensures in
    (decimal_injective n c.in-Some-number.n (omega (arith, is.0)) (omega (arith, number.0)) (sym same.0 ∙ number.1), sym same.1)

pub returns-in-None-number-clause-found : goal.returns-in-None-number-clause-found
returns-in-None-number-clause-found c = λ n rest is.
    let same = number_before_cut c.args.text.now c.in-Some.digits.now c.in-Some.rest.now c.in-Some.ensures n rest is in
    c.in-None-number.ensures n (is.0, same.0)

use Rattle.std.proofs.Common.{◌∙◌, sym}
use Rattle.addr_base.specs.Tokens.{token_of}
use Rattle.addr_base.proofs.TokenLemmas.{token_of_own}
use Rattle.addr_locate.proofs.FieldLemmas.{cut_is, token_free_of_space}
use Rattle.addr_locate.proofs.plain_fields.token_then.Goals as goal

pub returns-in-Some-2-clause-only : goal.returns-in-Some-2-clause-only
returns-in-Some-2-clause-only c = λ t rest is.
    let same = cut_is 32 c.args.text.now c.in-Some.token.now c.in-Some.rest.now (token_of t) rest c.in-Some.ensures (token_free_of_space t is.0) is.1 in
    let read = rw c.in-Some-2.is at c.in_ok-t.ensures in
    (token_of_own t c.in-Some-2.t is.0 read.0 (sym same.0 ∙ read.1), sym same.1)

pub returns-in-None-clause-found : goal.returns-in-None-clause-found
returns-in-None-clause-found c = λ t rest is.
    let same = cut_is 32 c.args.text.now c.in-Some.token.now c.in-Some.rest.now (token_of t) rest c.in-Some.ensures (token_free_of_space t is.0) is.1 in
    let none = rw c.in-None.is at c.in_ok-t.ensures in
    none t is.0 same.0

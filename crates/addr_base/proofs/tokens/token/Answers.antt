use Rattle.std.proofs.Common.{sym, ◌∙◌, ap}
use Rattle.std.proofs.lemmas.Result.{IfOk-weaker}
use Rattle.std.specs.List.{flat_map}
use Rattle.addr_base.specs.Tokens.{token_byte}
use Rattle.addr_base.proofs.TokenLemmas.{token_of_empty, token_of_other}
use Rattle.addr_base.proofs.tokens.token.Goals as goal

pub returns-then-is_empty : goal.returns-then-is_empty
returns-then-is_empty c =
    let empty = token_of_empty c.args.text.now (sym c.is_empty.ensures ∙ c.if-is_empty.true) in
    IfOk-weaker c.copy_of.result _ _ (λ copy e. e ∙ sym empty) c.copy_of.ensures

pub returns : goal.returns
returns c =
    let other = token_of_other c.args.text.now (sym c.is_empty.ensures ∙ c.if-is_empty.false) in
    c.from_string.ensures ∙ c.in_ok-token.ensures ∙ ap (flat_map token_byte) c.as_bytes.ensures.value ∙ sym other

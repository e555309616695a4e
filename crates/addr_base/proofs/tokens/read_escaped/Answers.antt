use Rattle.std.proofs.Common.{◌≡◌, IsTrue, sym, ◌∙◌, ap, string_bytes}
use Rattle.addr_base.specs.Tokens.{token_of}
use Rattle.addr_base.proofs.TokenLemmas.{err_not_ok, loose_of_token}
use Rattle.addr_base.proofs.tokens.read_escaped.Goals as goal

pub returns-in_default : goal.returns-in_default
returns-in_default c =
    λ text utf8 e.
    let whole = c.in_ok-unescaped.ensures ∙ loose_of_token c.args.token.now text utf8 e in
    err_not_ok _ _ c.in_default.is (c.from_utf8.ensures.succeeds (rw whole utf8))

pub returns-else-is_same : goal.returns-else-is_same
returns-else-is_same c =
    λ text utf8 e.
    let read : string_bytes c.in-Ok.text ≡ text = ap (λ v. v.items) c.in-Ok.ensures.ok ∙ c.in_ok-unescaped.ensures ∙ loose_of_token c.args.token.now text utf8 e in
    let same : c.args.token.now ≡ c.as_bytes.result.now = e ∙ ap token_of (sym (c.as_str.ensures.value ∙ read)) ∙ sym c.in_ok-again.ensures ∙ sym c.as_bytes.ensures in
    let equal : IsTrue c.is_same.result = c.is_same.ensures.1 same in
    cc (equal, c.if-is_same.false)

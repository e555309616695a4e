use Rattle.std.proofs.Common.{rules, ◌≡◌, List, ℕ, Option, IfSome, sym, ap, ◌∙◌}
use Rattle.addr_base.specs.Tokens.{ReadsToken, is_plain, token_of}
use Rattle.addr_base.proofs.TokenLemmas.{plain_is_own}
use Rattle.addr_base.proofs.tokens.plain_text.Goals as goal

pub returns-in-Ok : goal.returns-in-Ok
returns-in-Ok c =
    let read = c.in-Ok.ensures.cases in
    let own = plain_is_own c.args.token.now (sym c.if-is_empty.ensures) (sym c.if-not-are_plain.ensures) in
    (rw read.0 read.1, own ∙ ap token_of (sym read.0))

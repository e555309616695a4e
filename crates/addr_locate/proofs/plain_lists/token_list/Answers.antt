use Rattle.std.proofs.Common.{◌∙◌, ◌++◌, ap, map, List, [], ℕ}
use Rattle.std.specs.Str.{IsUtf8}
use Rattle.addr_base.specs.Tokens.{token_of}
use Rattle.addr_base.proofs.TokenLemmas.{token_of_own}
use Rattle.addr_locate.proofs.FieldLemmas.{token_free_of_comma}
use Rattle.addr_locate.proofs.ListFieldLemmas.{pieces, pieces_of_cut, one_piece, no_list, list_step, list_end, same_list}
use Rattle.addr_locate.proofs.plain_lists.token_list.Goals as goal

pub returns-in-None-clause-found : goal.returns-in-None-clause-found
returns-in-None-clause-found c = λ keys is.
    let cut = c.loop-token.invariant.cut ∙ ap (λ (r : List (List ℕ)). map token_of c.loop-token.keys ++ r) (pieces_of_cut c.loop-token.rest.now c.in-Some.token.now c.in-Some.after.now c.in-Some.ensures) in
    no_list token_of IsUtf8 token_free_of_comma c.args.field.now (map token_of c.loop-token.keys) c.in-Some.token.now (pieces c.in-Some.after.now) cut (rw c.in-None.is at c.in_ok-key.ensures) keys is.0 is.1 is.2

pub loop-token-preserved : goal.loop-token-preserved
loop-token-preserved c =
    let key = rw c.in-Some-2.is at c.in_ok-key.ensures in
    let step = list_step token_of IsUtf8 c.args.field.now c.loop-token.keys c.loop-token.rest.now c.in-Some.token.now c.in-Some.after.now c.in-Some-2.key c.push.new.self c.loop-token.invariant.cut c.loop-token.invariant.each c.in-Some.ensures key.0 key.1 c.in_ok-push-in-Some-2.ensures.ok in
    record { cut = step.0; each = step.1 }

pub returns-in_ok-push-in-Some-3-clause-found : goal.returns-in_ok-push-in-Some-3-clause-found
returns-in_ok-push-in-Some-3-clause-found c =
    let key = rw c.in-Some-3.is at c.in_ok-key-2.ensures in
    list_end token_of IsUtf8 c.args.field.now c.loop-token.keys c.loop-token.rest.now c.in-Some-3.key c.push-in-Some-3.new.self c.loop-token.invariant.cut c.loop-token.invariant.each c.in_default.ensures key.0 key.1 c.in_ok-push-in-Some-3.ensures.ok

pub returns-in_ok-push-in-Some-3-clause-only : goal.returns-in_ok-push-in-Some-3-clause-only
returns-in_ok-push-in-Some-3-clause-only c = λ other is.
    let key = rw c.in-Some-3.is at c.in_ok-key-2.ensures in
    let found = list_end token_of IsUtf8 c.args.field.now c.loop-token.keys c.loop-token.rest.now c.in-Some-3.key c.push-in-Some-3.new.self c.loop-token.invariant.cut c.loop-token.invariant.each c.in_default.ensures key.0 key.1 c.in_ok-push-in-Some-3.ensures.ok in
    same_list token_of IsUtf8 token_free_of_comma token_of_own c.args.field.now other c.push-in-Some-3.new.self is.0 found.0 is.1 found.1 is.2 found.2

pub returns-in-None-2-clause-found : goal.returns-in-None-2-clause-found
returns-in-None-2-clause-found c = λ keys is.
    let last = ap (λ (r : List (List ℕ)). map token_of c.loop-token.keys ++ r) (one_piece c.loop-token.rest.now c.in_default.ensures) in
    no_list token_of IsUtf8 token_free_of_comma c.args.field.now (map token_of c.loop-token.keys) c.loop-token.rest.now [] (c.loop-token.invariant.cut ∙ last) (rw c.in-None-2.is at c.in_ok-key-2.ensures) keys is.0 is.1 is.2

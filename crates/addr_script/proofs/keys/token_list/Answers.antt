use Rattle.std.proofs.Common.{◌∙◌, ◌++◌, ap, List, [], ℕ, map}
use Rattle.addr_base.specs.Tokens.{token_of}
use Rattle.addr_script.proofs.KeyLemmas.{pieces, pieces_of_cut, one_piece, no_keys, key_step, key_end}
use Rattle.addr_script.proofs.keys.token_list.Goals as goal

pub returns-in-None : goal.returns-in-None
returns-in-None c =
    let cut = c.loop-token.invariant.cut ∙ ap (λ (r : List (List ℕ)). map token_of c.loop-token.keys ++ r) (pieces_of_cut c.loop-token.rest.now c.in-Some.token.now c.in-Some.after.now c.in-Some.ensures) in
    no_keys c.args.field.now (map token_of c.loop-token.keys) c.in-Some.token.now (pieces c.in-Some.after.now) cut (rw c.in-None.is at c.in_ok-key.ensures)

pub loop-token-preserved : goal.loop-token-preserved
loop-token-preserved c =
    let step = key_step c.args.field.now c.loop-token.keys c.loop-token.rest.now c.in-Some.token.now c.in-Some.after.now c.in-Some-2.key c.push.new.self c.loop-token.invariant.cut c.loop-token.invariant.each c.in-Some.ensures (rw c.in-Some-2.is at c.in_ok-key.ensures) c.in_ok-push-in-Some-2.ensures.ok in
    record { cut = step.0; each = step.1 }

pub returns-in_ok-push-in-Some-3 : goal.returns-in_ok-push-in-Some-3
returns-in_ok-push-in-Some-3 c = key_end c.args.field.now c.loop-token.keys c.loop-token.rest.now c.in-Some-3.key c.push-in-Some-3.new.self c.loop-token.invariant.cut c.loop-token.invariant.each c.in_default.ensures (rw c.in-Some-3.is at c.in_ok-key-2.ensures) c.in_ok-push-in-Some-3.ensures.ok

pub returns-in-None-2 : goal.returns-in-None-2
returns-in-None-2 c =
    let last = ap (λ (r : List (List ℕ)). map token_of c.loop-token.keys ++ r) (one_piece c.loop-token.rest.now c.in_default.ensures) in
    no_keys c.args.field.now (map token_of c.loop-token.keys) c.loop-token.rest.now [] (c.loop-token.invariant.cut ∙ last) (rw c.in-None-2.is at c.in_ok-key-2.ensures)

use Rattle.std.proofs.Common.{sym, ◌∙◌, ap, ◌++◌, string_bytes, Some, None, lit<, rules}
use Rattle.std.proofs.lemmas.Str.Pattern.{split_parts}
use Rattle.addr_base.proofs.BraceLemmas.{lacks_at_indices, braced-without_close, put-piece}
use Rattle.addr_base.proofs.braced_names.braces.Goals as goal

pub push_piece-requires : goal.push_piece-requires
push_piece-requires c =
    let parts = split_parts 125 c.pieces.rest.now (Some (c.in-Some.piece, c.in-Some.behind)) c.in-Some.ensures.cases (lit< tt) in
    lacks_at_indices 125 c.in-Some.piece.now parts.1

pub pieces-preserved : goal.pieces-preserved
pieces-preserved c =
    let parts = split_parts 125 c.pieces.rest.now (Some (c.in-Some.piece, c.in-Some.behind)) c.in-Some.ensures.cases (lit< tt) in
    let lacks = lacks_at_indices 125 c.in-Some.piece.now parts.1 in
    record {
      text = search rules;
      read = put-piece c.args.vars.now c.pieces.rest.now c.in-Some.piece.now c.in-Some.behind.now lacks parts.0 _ _ _ c.in_ok-push_piece.ensures c.pieces.invariant.read;
    }

pub returns : goal.returns
returns c =
    let none = split_parts 125 c.pieces.rest.now None c.in_default.ensures.cases (lit< tt) in
    let lacks = lacks_at_indices 125 c.pieces.rest.now none in
    c.from_string.ensures ∙ c.in_ok-push_str.ensures.bytes ∙ ap (λ bytes. string_bytes c.pieces.made ++ bytes) (sym (braced-without_close c.args.vars.now c.pieces.rest.now lacks)) ∙ c.pieces.invariant.read

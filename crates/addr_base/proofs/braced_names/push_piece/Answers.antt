use Rattle.std.proofs.Common.{subst, ◌∷◌, Some, None, lit<, rules}
use Rattle.std.proofs.lemmas.Str.Pattern.{split_parts}
use Rattle.addr_base.proofs.BraceLemmas.{Lacks, lacks_at_indices, lacks_behind, lacks_later, put-name, put-other, put-last}
use Rattle.addr_base.proofs.braced_names.push_piece.Goals as goal

pub returns-in-Some-value_of : goal.returns-in-Some-value_of
returns-in-Some-value_of c =
    let before = c.in-Some.before.now in
    let name = c.in-Some.name.now in
    let parts = split_parts 123 c.names.rest.now (Some (c.in-Some.before, c.in-Some.name)) c.in-Some.ensures.cases (lit< tt) in
    let free = lacks_at_indices 123 before parts.1 in
    let lacks = lacks_later 125 123 name (lacks_behind 125 before (123 ∷ name) (subst (Lacks 125) parts.0 c.names.invariant.lacks)) in
    put-name c.args.vars.now c.names.rest.now before name c.in-Some-value_of.value.now free lacks parts.0 c.in-Some-value_of.ensures _ _ _ _ c.in_ok-push_str.ensures.bytes c.in_ok-push_str-2.ensures.bytes c.names.invariant.read

pub names-preserved : goal.names-preserved
names-preserved c =
    let before = c.in-Some.before.now in
    let name = c.in-Some.name.now in
    let parts = split_parts 123 c.names.rest.now (Some (c.in-Some.before, c.in-Some.name)) c.in-Some.ensures.cases (lit< tt) in
    let free = lacks_at_indices 123 before parts.1 in
    let lacks = lacks_later 125 123 name (lacks_behind 125 before (123 ∷ name) (subst (Lacks 125) parts.0 c.names.invariant.lacks)) in
    let pushed = rw (c.in_ok-push.ensures.ascii (lit< tt)) at c.in_ok-push.ensures.bytes in
    let unknown = rw c.in_default-value_of.is at c.value_of.ensures in
    record {
      text = search rules;
      lacks = lacks;
      read = put-other c.args.vars.now c.names.rest.now before name free lacks parts.0 unknown _ _ _ _ c.in_ok-push_str.ensures.bytes pushed c.names.invariant.read;
    }

pub returns : goal.returns
returns c =
    let none = split_parts 123 c.names.rest.now None c.in_default.ensures.cases (lit< tt) in
    let pushed = rw (c.in_ok-push-2.ensures.ascii (lit< tt)) at c.in_ok-push-2.ensures.bytes in
    put-last c.args.vars.now c.names.rest.now (lacks_at_indices 123 c.names.rest.now none) _ _ _ _ c.in_ok-push_str-3.ensures.bytes pushed c.names.invariant.read

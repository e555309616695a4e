use Rattle.std.proofs.Common.{length, map, ap, ◌∙◌}
use Rattle.addr_expansion.specs.Expansion.{outcome_of}
use Rattle.addr_expansion.specs.Extents.{answer_of}
use Rattle.addr_expansion.proofs.ReplyLemmas.{reply_is, replies_are}
use Rattle.addr_expansion.proofs.replies.replies_of.Goals as goal

pub returns-clause-local : goal.returns-clause-local
returns-clause-local c =
    let vs = c.args.variables.now in
    reply_is vs c.args.local.now c.in_ok-local.local (c.in_ok-local.ensures (outcome_of vs (length vs)) (c.deref-2.ensures.value ∙ c.in_ok-table.ensures))

pub returns-clause-remote : goal.returns-clause-remote
returns-clause-remote c =
    let vs = c.args.variables.now in
    reply_is vs c.args.remote.now c.in_ok-remote.remote (c.in_ok-remote.ensures (outcome_of vs (length vs)) (c.deref-3.ensures.value ∙ c.in_ok-table.ensures))

pub returns-clause-values : goal.returns-clause-values
returns-clause-values c =
    let vs = c.args.variables.now in
    ap (map answer_of) (c.in_ok-values.ensures (outcome_of vs (length vs)) (c.deref.ensures.value ∙ c.in_ok-table.ensures)) ∙ replies_are vs vs

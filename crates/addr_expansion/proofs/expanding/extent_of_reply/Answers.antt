use Rattle.std.proofs.Common.{length, ◌∙◌}
use Rattle.addr_expansion.specs.Expansion.{outcome_of}
use Rattle.addr_expansion.proofs.ReplyLemmas.{reply_is}
use Rattle.addr_expansion.proofs.expanding.extent_of_reply.Goals as goal

pub returns : goal.returns
returns c =
    let vs = c.args.variables.now in
    reply_is vs c.args.text.now c.in_ok-extent.extent (c.in_ok-extent.ensures (outcome_of vs (length vs)) (c.deref.ensures.value ∙ c.in_ok-table.ensures))

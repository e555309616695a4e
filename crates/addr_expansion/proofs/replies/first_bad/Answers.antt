use Rattle.std.proofs.Common.{sym, ◌∙◌}
use Rattle.addr_expansion.proofs.ReplyLemmas.{bad_places}
use Rattle.addr_expansion.proofs.replies.first_bad.Goals as goal

pub returns : goal.returns
returns c = c.bad_place.ensures ∙ sym (bad_places c.args.values.now)

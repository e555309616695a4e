use Rattle.std.proofs.Common.{sym, ◌∙◌}
use Rattle.addr_expansion.proofs.ReplyLemmas.{circular_places}
use Rattle.addr_expansion.proofs.replies.first_circular.Goals as goal

pub returns : goal.returns
returns c = c.circular_place.ensures ∙ sym (circular_places c.args.values.now)

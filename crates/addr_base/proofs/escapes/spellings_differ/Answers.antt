use Rattle.addr_base.proofs.EscapeLemmas.{escaped-injective}
use Rattle.addr_base.proofs.escapes.spellings_differ.Goals as goal

pub returns : goal.returns
returns c = escaped-injective

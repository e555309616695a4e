use Rattle.addr_expansion.proofs.MeaningLemmas.{meant}
use Rattle.addr_expansion.proofs.expanding.expansion_is_meant.Goals as goal

pub returns : goal.returns
returns c = meant c.args.variables.now c.args.text.now

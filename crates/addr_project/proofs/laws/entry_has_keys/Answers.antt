use Rattle.addr_project.proofs.KeyLemmas.{keys}
use Rattle.addr_project.proofs.laws.entry_has_keys.Goals as goal

pub returns : goal.returns
returns c = keys

use Rattle.addr_fetch.proofs.ChainLemmas.{chains_joined}
use Rattle.addr_fetch.proofs.chains.chains_join.Goals as goal

pub returns : goal.returns
returns g c = chains_joined g.F.Fetch.gives

use Rattle.addr_release.proofs.OwnLemmas.{are-named}
use Rattle.addr_release.proofs.puts.release_is_named.Goals as goal

pub returns : goal.returns
returns c = are-named

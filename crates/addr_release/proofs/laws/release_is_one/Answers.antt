use Rattle.addr_release.proofs.OwnLemmas.{one-release}
use Rattle.addr_release.proofs.laws.release_is_one.Goals as goal

pub returns : goal.returns
returns c = one-release c.args.project.now c.kept.ensures

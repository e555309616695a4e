use Rattle.addr_release.proofs.OwnLemmas.{apart-names}
use Rattle.addr_release.proofs.laws.names_apart.Goals as goal

pub returns : goal.returns
returns c = apart-names c.args.project.now c.args.plan.now c.requires

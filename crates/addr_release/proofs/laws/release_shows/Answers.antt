use Rattle.addr_release.proofs.BuiltLemmas.{release-shows}
use Rattle.addr_release.proofs.laws.release_shows.Goals as goal

pub returns : goal.returns
returns c = λ apart r folder old new is none after. release-shows c.args.project.now c.args.plan.now c.kept.ensures c.requires r folder old new is none after apart

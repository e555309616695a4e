use Rattle.addr_release.proofs.BuiltLemmas.{release-sound}
use Rattle.addr_release.proofs.laws.release_is_sound.Goals as goal

pub returns : goal.returns
returns c = λ apart r folder old new is none after. release-sound c.args.project.now c.args.plan.now c.kept.ensures c.requires r folder old new is none after apart

use Rattle.addr_release.proofs.BuiltLemmas.{release-held}
use Rattle.addr_release.proofs.laws.release_is_held.Goals as goal

pub returns : goal.returns
returns c = λ r folder old new is none after. release-held c.args.project.now c.args.plan.now c.kept.ensures c.requires r folder old new is none after

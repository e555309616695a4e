use Rattle.addr_release.proofs.BuiltLemmas.{release-again}
use Rattle.addr_release.proofs.laws.release_again.Goals as goal

pub returns : goal.returns
returns c = λ r s folder old new is was none after. release-again c.args.project.now c.kept.ensures r s folder old new is was none after

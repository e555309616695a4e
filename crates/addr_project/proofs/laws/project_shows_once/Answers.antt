use Rattle.addr_project.proofs.ShownLemmas.{shows_once}
use Rattle.addr_project.proofs.laws.project_shows_once.Goals as goal

pub returns : goal.returns
returns c = shows_once c.args.project.now c.kept.ensures

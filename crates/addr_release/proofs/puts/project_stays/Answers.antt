use Rattle.addr_release.proofs.ProjectLemmas.{same-folder}
use Rattle.addr_release.proofs.puts.project_stays.Goals as goal

pub returns : goal.returns
returns c = λ folder r k old new named after. same-folder folder r named k old new after

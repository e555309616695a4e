use Rattle.addr_isolate.proofs.LawLemmas.{none-again}
use Rattle.addr_isolate.proofs.laws.isolated_has_none.Goals as goal

pub returns : goal.returns
returns c = λ q other again isolated placed are. none-again q other again (c.isolation_laws.ensures.none q isolated) placed are

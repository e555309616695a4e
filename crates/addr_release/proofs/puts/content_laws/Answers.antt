use Rattle.addr_release.proofs.ContentLemmas.{catalogue-along, keeps-free}
use Rattle.addr_release.proofs.puts.content_laws.Goals as goal

pub returns-clause-catalogue : goal.returns-clause-catalogue
returns-clause-catalogue c = catalogue-along

pub returns-clause-keeps : goal.returns-clause-keeps
returns-clause-keeps c = keeps-free

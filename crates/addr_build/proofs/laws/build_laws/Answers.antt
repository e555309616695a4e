use Rattle.addr_build.proofs.CatalogueLemmas.{begun-catalogue}
use Rattle.addr_build.proofs.laws.build_laws.Goals as goal

pub returns : goal.returns
returns c = begun-catalogue

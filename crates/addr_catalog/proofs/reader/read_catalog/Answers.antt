use Rattle.addr_catalog.proofs.NamedLemmas.{catalogue_named}
use Rattle.addr_catalog.proofs.reader.read_catalog.Goals as goal

pub returns-clause-named : goal.returns-clause-named
returns-clause-named c = catalogue_named c.args.bytes.now

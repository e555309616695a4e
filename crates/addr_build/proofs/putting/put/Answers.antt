use Rattle.addr_build.proofs.PutLemmas.{puts-of}
use Rattle.addr_build.proofs.putting.put.Goals as goal

pub returns-clause-puts : goal.returns-clause-puts
returns-clause-puts g c = puts-of c.args.name.now c.args.bytes.now (g.D.Depot.now c.args.depot.now) (g.D.Depot.now c.put.new.self) c.put.result c.put.ensures.moments

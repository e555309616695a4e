use Rattle.addr_catalog.proofs.MarkLemmas.{around}
use Rattle.addr_catalog.proofs.internal_ids.around_mark.Goals as goal

pub returns : goal.returns
returns c = around c.args.id.now c.rsplit_once.result c.rsplit_once.ensures.cases

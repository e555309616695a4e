use Rattle.addr_resolve.proofs.OnceLemmas.{one-resolve}
use Rattle.addr_resolve.proofs.laws.resolve_is_one.Goals as goal

pub returns : goal.returns
returns c = λ files folder key are. one-resolve c.bundle_laws.ensures.meant c.table_laws.ensures.one files folder key are

use Rattle.std.proofs.Common.{subst}
use Rattle.addr_build.specs.within.Index.{IsStateText}
use Rattle.addr_build.proofs.IndexLemmas.{index-is}
use Rattle.addr_build.proofs.index.index_of.Goals as goal

pub returns : goal.returns
returns c =
    index-is c.args.project.now c.args.plan.now c.args.rows c.in_ok-state.state.items c.in_ok-catalogue.catalogue.items c.deref.result.now c.digest-named.result c.from_vec.result c.from_vec-2.result
    (subst (λ rows. IsStateText c.args.project.now c.args.plan.now rows c.in_ok-state.state.items) c.as_slice.ensures c.in_ok-state.ensures) c.deref.ensures.value c.digest-named.ensures c.in_ok-catalogue.ensures c.from_vec.ensures c.from_vec-2.ensures

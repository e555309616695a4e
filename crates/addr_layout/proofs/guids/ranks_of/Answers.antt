use Rattle.std.proofs.Common.{◌≡◌, ℕ, take, ◌+◌, sym, subst, Some}
use Rattle.std.proofs.lemmas.List.{get_or_default}
use Rattle.std.specs.List.{slice_get}
use Rattle.addr_base.specs.declared.ids.Guid.{Guid}
use Rattle.addr_layout.specs.Graph.{AreRanks}
use Rattle.addr_walks.proofs.Zips.{zip-more}
use Rattle.addr_layout.proofs.guids.ranks_of.Goals as goal

pub loop-guid-preserved : goal.loop-guid-preserved
loop-guid-preserved c =
    let guids = c.args.guids.now in
    let refs = c.args.refs.now in
    let more = zip-more (λ (g : Guid) (r : ℕ). slice_get guids r ≡ Some g) refs c.loop-guid.ranks c.loop-guid.guid-index _ c.rank_of.result c.loop-guid-test.true (get_or_default refs c.loop-guid.guid-index _ _ c.loop-guid-test.true) c.loop-guid.invariant c.rank_of.ensures in
    subst (AreRanks guids (take (c.loop-guid.guid-index + 1) refs)) (sym c.in_ok-push.ensures.ok) more

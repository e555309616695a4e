use Rattle.addr_moving.proofs.GatheredLemmas.{kept-more}
use Rattle.addr_moving.proofs.moving.add_kept.Goals as goal

pub loop-old-preserved : goal.loop-old-preserved
loop-old-preserved c = kept-more c.args.bundles.now.items c.args.kept.now c.loop-old.old-index c.old-item.result c.in_ok-bundle.bundle c.loop-old.bundles.items _ c.loop-old-test.true c.old-item.is c.loop-old.invariant c.in_ok-bundle.ensures c.in_ok-push.ensures.items

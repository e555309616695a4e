use Rattle.addr_moving.proofs.GatheredLemmas.{unfixed-more}
use Rattle.addr_moving.proofs.moving.unfixed_of.Goals as goal

pub loop-bundle-preserved : goal.loop-bundle-preserved
loop-bundle-preserved c = unfixed-more c.args.project.now c.as_slice-own.result.now c.loop-bundle.bundle-index c.bundle-item.result c.loop-bundle.bundles.items c.add_unfixed.new.bundles.items c.loop-bundle-test.true c.bundle-item.is c.loop-bundle.invariant c.in_ok-add_unfixed.ensures

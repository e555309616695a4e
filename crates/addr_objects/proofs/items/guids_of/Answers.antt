use Rattle.addr_objects.proofs.PickLemmas.{guids-more}
use Rattle.addr_objects.proofs.items.guids_of.Goals as goal

pub loop-r-init : goal.loop-r-init
loop-r-init c = c.new-guids.ensures

pub loop-r-preserved : goal.loop-r-preserved
loop-r-preserved c = guids-more c.args.refs.now c.loop-r.r-index c.loop-r.guids c.push.new.self _ c.loop-r-test.true c.loop-r.invariant c.in_ok-push.ensures.ok

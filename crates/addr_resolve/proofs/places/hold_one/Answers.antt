use Rattle.std.proofs.Common.{subst}
use Rattle.addr_resolve.proofs.HoldLemmas.{AllAscend, ascend-more, ascend-none, cabs-hold-one}
use Rattle.addr_resolve.proofs.PlaceLemmas.{take-end}
use Rattle.addr_resolve.proofs.places.hold_one.Goals as goal

pub loop-cab-init : goal.loop-cab-init
loop-cab-init c = ascend-none

pub loop-cab-preserved : goal.loop-cab-preserved
loop-cab-preserved c = ascend-more c.args.cabs.now c.loop-cab.cab-index c.cab-item.result c.loop-cab-test.true c.cab-item.is c.objects-rows.ensures.rising c.loop-cab.invariant

pub returns : goal.returns
returns c = cabs-hold-one c.args.cabs.now (subst AllAscend (take-end c.args.cabs.now c.loop-cab.cab-index c.loop-cab.auto.cab-index-end c.loop-cab-test.false) c.loop-cab.invariant)

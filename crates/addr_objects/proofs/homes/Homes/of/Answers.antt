use Rattle.std.proofs.Common.{arith, take}
use Rattle.addr_objects.proofs.HomeLemmas.{homes-all, homes-more, homes-none}
use Rattle.addr_objects.proofs.homes.Homes.of.Goals as goal

pub loop-b-init : goal.loop-b-init
loop-b-init c = homes-none c.args.bundles.now c.new-by_name.result c.new-by_name.ensures.empty

pub loop-b-preserved : goal.loop-b-preserved
loop-b-preserved c =
    let needs = c.args.needs.now in
    homes-more c.args.bundles.now needs c.loop-b.b-index _ c.add_name.new.by_name c.loop-b-test.true (c.in_ok-add_name.ensures (take c.loop-b.b-index needs) c.loop-b.invariant)

pub invariant_of-result : goal.invariant_of-result
invariant_of-result c =
    homes-all c.args.bundles.now c.args.needs.now c.loop-b.b-index c.loop-b.by_name (let past = c.loop-b-test.false in omega (arith, past)) c.loop-b.invariant

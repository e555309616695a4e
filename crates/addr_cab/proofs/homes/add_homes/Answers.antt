use Rattle.std.proofs.Common.{[], sym}
use Rattle.addr_base.specs.declared.images.Home.TheVariants.{Own}
use Rattle.addr_cab.proofs.HomeLaws.{homes-none, homes-step}
use Rattle.addr_cab.proofs.homes.add_homes.Goals as goal

pub loop-reference-init : goal.loop-reference-init
loop-reference-init c = sym (homes-none c.args.found.now.keys)

pub loop-reference-preserved : goal.loop-reference-preserved
loop-reference-preserved c =
    homes-step c.args.found.now.keys c.loop-reference.found.keys c.add_home.new.found.keys c.args.refs.now c.loop-reference.reference-index (record { guid = record { 0 = [] }; home = Own }) c.loop-reference-test.true c.loop-reference.invariant c.in_ok-add_home.ensures

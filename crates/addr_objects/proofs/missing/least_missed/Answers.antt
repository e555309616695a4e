use Rattle.std.proofs.Common.{take}
use Rattle.addr_history.specs.Unfolding.{Misses}
use Rattle.addr_objects.specs.Objects.{objects_in}
use Rattle.addr_objects.proofs.MissLemmas.{least-step}
use Rattle.addr_objects.proofs.missing.least_missed.Goals as goal

pub loop-place-preserved : goal.loop-place-preserved
loop-place-preserved g c =
    let these = Misses (objects_in g.I.Image.object_of c.args.images.now) c.args.homes.now.bundles c.args.homes.now.needs in
    least-step these c.args.places.now c.loop-place.place-index _ c.least_with-least.result c.loop-place-test.true (c.least_with-least.ensures (take c.loop-place.place-index c.args.places.now) c.loop-place.invariant)

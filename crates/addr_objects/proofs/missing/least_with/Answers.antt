use Rattle.addr_history.specs.Unfolding.{Misses}
use Rattle.addr_objects.specs.Objects.{objects_in}
use Rattle.addr_objects.proofs.MissLemmas.{least-more, least-pass}
use Rattle.addr_objects.proofs.missing.least_with.Goals as goal

pub returns-then-misses : goal.returns-then-misses
returns-then-misses g c = λ places least.
    let these = Misses (objects_in g.I.Image.object_of c.args.images.now) c.args.homes.now.bundles c.args.homes.now.needs in
    least-more these places c.args.place c.args.least c.lesser.result (c.misses.ensures.misses c.if-misses.true) c.lesser.ensures least

pub returns : goal.returns
returns g c = λ places least.
    let these = Misses (objects_in g.I.Image.object_of c.args.images.now) c.args.homes.now.bundles c.args.homes.now.needs in
    least-pass these places c.args.place c.args.least (c.misses.ensures.holds c.if-misses.false) least

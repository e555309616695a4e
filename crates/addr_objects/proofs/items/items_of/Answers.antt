use Rattle.std.proofs.Common.{[], refl, subst, sym}
use Rattle.addr_objects.specs.Objects.{objects_in}
use Rattle.addr_objects.specs.within.Search.{Picks}
use Rattle.addr_objects.proofs.PickLemmas.{picks-none, picks-step}
use Rattle.addr_objects.proofs.items.items_of.Goals as goal

pub loop-place-init : goal.loop-place-init
loop-place-init g c =
    let objects = objects_in g.I.Image.object_of c.args.images.now in
    record { picks = subst (Picks objects []) (sym c.new-items.ensures) (picks-none objects); last = refl }

pub loop-place-preserved : goal.loop-place-preserved
loop-place-preserved g c =
    let objects = objects_in g.I.Image.object_of c.args.images.now in
    let more = picks-step objects c.args.places.now c.loop-place.place-index _ c.loop-place.items c.add_item.new.items c.loop-place.last c.loop-place-test.true c.requires.rising c.loop-place.invariant.last c.loop-place.invariant.picks c.in_ok-add_item.ensures in
    record { picks = more.0; last = more.1 }

use Rattle.std.proofs.Common.{List, None, Some, subst}
use Rattle.addr_history.specs.Unfolding.{Misses}
use Rattle.addr_history.specs.declared.reading.Place.{Place}
use Rattle.addr_objects.specs.Objects.{objects_in}
use Rattle.addr_objects.specs.within.Search.{IsLeastAmong, Picks}
use Rattle.addr_objects.proofs.MissLemmas.{all-held, least-missed, unfolded}
use Rattle.addr_objects.proofs.unfolding.unfold.Goals as goal

pub items_of-requires-clause-held : goal.items_of-requires-clause-held
items_of-requires-clause-held g c =
    let objects = objects_in g.I.Image.object_of c.args.images.now in
    let homes = c.args.homes.now in
    let none = subst (λ (qs : List Place). IsLeastAmong (Misses objects homes.bundles homes.needs) qs None) c.as_slice.ensures.value c.in-None.ensures in
    rw c.as_slice-in-None.ensures.value (all-held objects homes.bundles homes.needs c.args.start c.in_ok-places.places.items c.in_ok-places.ensures none)

pub returns-in-Some : goal.returns-in-Some
returns-in-Some g c =
    let objects = objects_in g.I.Image.object_of c.args.images.now in
    let homes = c.args.homes.now in
    least-missed objects homes.bundles homes.needs c.args.start c.in_ok-places.places.items c.in_ok-places.ensures c.in-Some.b
    (subst (λ (qs : List Place). IsLeastAmong (Misses objects homes.bundles homes.needs) qs (Some c.in-Some.b)) c.as_slice.ensures.value c.in-Some.ensures)

pub returns : goal.returns
returns g c =
    let objects = objects_in g.I.Image.object_of c.args.images.now in
    let homes = c.args.homes.now in
    let none = subst (λ (qs : List Place). IsLeastAmong (Misses objects homes.bundles homes.needs) qs None) c.as_slice.ensures.value c.in-None.ensures in
    unfolded objects homes.bundles homes.needs c.args.start c.in_ok-places.places.items c.in_ok-places.ensures c.in_ok-items-in-None.items none
    (subst (λ (qs : List Place). Picks objects qs c.in_ok-items-in-None.items) c.as_slice-in-None.ensures.value c.in_ok-items-in-None.ensures)

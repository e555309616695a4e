use Rattle.std.proofs.Common.{◌≡◌, ◌++◌, List, [], ap, subst, sym, ◌∙◌}
use Rattle.addr_cab.specs.Lookup.{Held}
use Rattle.addr_resolve.specs.Places.{ArePlaces, row_places}
use Rattle.addr_resolve.specs.declared.graph.PlaceRow.{PlaceRow}
use Rattle.addr_resolve.proofs.PlaceLemmas.{places-more, places-none, take-end}
use Rattle.addr_resolve.proofs.places.gathered.Goals as goal

pub loop-b-init : goal.loop-b-init
loop-b-init c = subst (λ (ps : List PlaceRow). ArePlaces [] ps) (sym c.new-places.ensures) places-none

pub loop-b-preserved : goal.loop-b-preserved
loop-b-preserved c =
    let added : c.add_places.new.places ≡ c.loop-b.places ++ row_places c.loop-b.b c.index-cabs-b.result.rows = c.in_ok-add_places.ensures ∙ ap (λ rows. c.loop-b.places ++ row_places c.loop-b.b rows) c.objects.ensures.rows in
    places-more c.args.cabs.now c.loop-b.b c.index-cabs-b.result c.loop-b.places c.add_places.new.places c.loop-b-test.true c.index-cabs-b.is c.loop-b.invariant added

pub returns : goal.returns
returns c = subst (λ (cs : List Held). ArePlaces cs c.loop-b.places) (take-end c.args.cabs.now c.loop-b.b c.loop-b.auto.b-end c.loop-b-test.false) c.loop-b.invariant

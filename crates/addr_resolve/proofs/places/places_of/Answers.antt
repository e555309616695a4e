use Rattle.std.proofs.Common.{List, subst, sym}
use Rattle.addr_resolve.specs.Places.{ArePlaces}
use Rattle.addr_resolve.specs.Items.{AreHeld}
use Rattle.addr_resolve.specs.declared.graph.PlaceRow.{PlaceRow}
use Rattle.addr_resolve.specs.Graph.{AreInOrder, ShowsPlaces}
use Rattle.addr_resolve.proofs.GraphLemmas.{ordered-from}
use Rattle.addr_resolve.proofs.PlaceLemmas.{are-held, same-places, shows-places}
use Rattle.addr_resolve.proofs.places.places_of.Goals as goal

pub returns-clause-places : goal.returns-clause-places
returns-clause-places c =
    let gathered = subst (λ (ps : List PlaceRow). ArePlaces c.args.cabs.now ps) (sym c.into_vec.ensures) c.in_ok-places.ensures in
    subst (λ (ps : List PlaceRow). ArePlaces c.args.cabs.now ps) (sym c.from_vec.ensures) (same-places c.args.cabs.now c.into_vec.result.items c.in_order.result.items c.in_order.ensures.same gathered)

pub returns-clause-held : goal.returns-clause-held
returns-clause-held c =
    let gathered = subst (λ (ps : List PlaceRow). ArePlaces c.args.cabs.now ps) (sym c.into_vec.ensures) c.in_ok-places.ensures in
    subst (λ (ps : List PlaceRow). AreHeld c.args.cabs.now ps) (sym c.from_vec.ensures)
    (are-held c.args.cabs.now c.in_order.result.items (same-places c.args.cabs.now c.into_vec.result.items c.in_order.result.items c.in_order.ensures.same gathered))

pub returns-clause-ordered : goal.returns-clause-ordered
returns-clause-ordered c = subst AreInOrder (sym c.from_vec.ensures) (ordered-from c.in_order.result.items c.in_order.ensures.rising)

pub returns-clause-shown : goal.returns-clause-shown
returns-clause-shown c =
    let gathered = subst (λ (ps : List PlaceRow). ArePlaces c.args.cabs.now ps) (sym c.into_vec.ensures) c.in_ok-places.ensures in
    let sorted = same-places c.args.cabs.now c.into_vec.result.items c.in_order.result.items c.in_order.ensures.same gathered in
    λ files shows. subst (λ (ps : List PlaceRow). ShowsPlaces files ps) (sym c.from_vec.ensures) (shows-places c.args.cabs.now c.in_order.result.items sorted files shows)

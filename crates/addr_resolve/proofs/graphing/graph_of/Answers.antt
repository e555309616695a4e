use Rattle.std.proofs.Common.{List, subst}
use Rattle.std.specs.List.{AllZip}
use Rattle.addr_resolve.specs.within.Leading.{IsLostOf, IsRowOf, first_of}
use Rattle.addr_resolve.specs.declared.graph.PlaceRow.{PlaceRow}
use Rattle.addr_resolve.proofs.GraphedLemmas.{graphed, rows-below, zip-length}
use Rattle.addr_resolve.proofs.graphing.graph_of.Goals as goal

pub returns-clause-graph : goal.returns-clause-graph
returns-clause-graph c = λ files names shows. (
    let find = first_of c.in_ok-firsts.firsts in
    let cabs = c.args.cabs.now in
    let places : List PlaceRow = c.in_ok-places.places in
    let rows = c.in_ok-rows.field-0.rows in
    let lost = c.in_ok-rows.field-0.lost in
    let targets : AllZip (IsRowOf find cabs places) places rows = subst (λ (ps : List PlaceRow). AllZip (IsRowOf find cabs ps) ps rows) c.as_slice.ensures c.in_ok-rows.ensures.rows in
    let losses : AllZip (IsLostOf find cabs places) places lost = subst (λ (ps : List PlaceRow). AllZip (IsLostOf find cabs ps) ps lost) c.as_slice.ensures c.in_ok-rows.ensures.lost in
    graphed files c.args.bundles.now cabs places find names c.in_ok-firsts.ensures shows (c.in_ok-places.ensures.shown files shows) (c.in_ok-places.ensures.one files shows) rows lost c.in_ok-places.ensures.ordered targets losses)

pub returns-clause-many : goal.returns-clause-many
returns-clause-many c =
    let find = first_of c.in_ok-firsts.firsts in
    let cabs = c.args.cabs.now in
    let places : List PlaceRow = c.in_ok-places.places in
    let rows = c.in_ok-rows.field-0.rows in
    zip-length (IsRowOf find cabs places) places rows (subst (λ (ps : List PlaceRow). AllZip (IsRowOf find cabs ps) ps rows) c.as_slice.ensures c.in_ok-rows.ensures.rows)

pub returns-clause-lost : goal.returns-clause-lost
returns-clause-lost c =
    let find = first_of c.in_ok-firsts.firsts in
    let cabs = c.args.cabs.now in
    let places : List PlaceRow = c.in_ok-places.places in
    let lost = c.in_ok-rows.field-0.lost in
    zip-length (IsLostOf find cabs places) places lost (subst (λ (ps : List PlaceRow). AllZip (IsLostOf find cabs ps) ps lost) c.as_slice.ensures c.in_ok-rows.ensures.lost)

pub returns-clause-below : goal.returns-clause-below
returns-clause-below c =
    let find = first_of c.in_ok-firsts.firsts in
    let cabs = c.args.cabs.now in
    let places : List PlaceRow = c.in_ok-places.places in
    let rows = c.in_ok-rows.field-0.rows in
    rows-below find cabs places rows (subst (λ (ps : List PlaceRow). AllZip (IsRowOf find cabs ps) ps rows) c.as_slice.ensures c.in_ok-rows.ensures.rows)

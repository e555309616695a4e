use Rattle.std.proofs.Common.{◌≡◌, ◌<◌, ◌+◌, length, get_or, take, subst, sym}
use Rattle.std.proofs.lemmas.List.{get_or_default}
use Rattle.std.proofs.lemmas.Option.{slice_get-get_or}
use Rattle.std.specs.List.{AllZip}
use Rattle.addr_walks.proofs.Zips.{zip-more}
use Rattle.addr_resolve.specs.within.Leading.{AreLinksOf, IsLostOf, IsRowOf, first_of}
use Rattle.addr_resolve.specs.declared.graph.PlaceRow.{PlaceRow}
use Rattle.addr_resolve.proofs.UnfoldLemmas.{no-place}
use Rattle.addr_resolve.proofs.leading.table_of.Goals as goal

pub links_at-requires-clause-lent : goal.links_at-requires-clause-lent
links_at-requires-clause-lent c =
    let places = c.args.places.now in
    let i = c.loop-place.place-index in
    c.requires.held i (get_or places i no-place) (slice_get-get_or places i no-place c.loop-place-test.true)

pub loop-place-preserved : goal.loop-place-preserved
loop-place-preserved c =
    let find = first_of c.args.firsts.now in
    let cabs = c.args.cabs.now in
    let places = c.args.places.now in
    let i = c.loop-place.place-index in
    let q : PlaceRow = get_or places i no-place in
    let within : i < length places = c.loop-place-test.true in
    let read : q ≡ get_or places i q = get_or_default places i no-place q within in
    let links = c.in_ok-links.links in
    let are : AreLinksOf find cabs places q links.row links.lost = c.in_ok-links.ensures in
    record {
      rows = subst (AllZip (IsRowOf find cabs places) (take (i + 1) places)) (sym c.in_ok-push.ensures.ok) (zip-more (IsRowOf find cabs places) places c.loop-place.rows i q links.row within read c.loop-place.invariant.rows (are.0, are.1, are.2.targets));
      lost = subst (AllZip (IsLostOf find cabs places) (take (i + 1) places)) (sym c.in_ok-push-2.ensures.ok) (zip-more (IsLostOf find cabs places) places c.loop-place.lost i q links.lost within read c.loop-place.invariant.lost (are.0, are.1, are.2.unresolved));
    }

use Rattle.std.proofs.Common.{◌≡◌, ◌<◌, ◌+◌, length, get_or, take, refl, subst, sym}
use Rattle.std.proofs.lemmas.List.{get_or_default}
use Rattle.std.proofs.lemmas.Option.{slice_get-get_or}
use Rattle.std.specs.List.{AllZip}
use Rattle.addr_resolve.proofs.UnfoldLemmas.{no-place}
use Rattle.addr_resolve.specs.declared.graph.PlaceRow.{PlaceRow}
use Rattle.addr_walks.proofs.Zips.{zip-more}
use Rattle.addr_moves.specs.within.Changing.{AreSeen}
use Rattle.addr_moves.proofs.changing.seen_of.Goals as goal

pub loop-n-preserved : goal.loop-n-preserved
loop-n-preserved c =
    let places = c.args.places.now in
    let found = c.args.found.now in
    let i = c.loop-n.n-index in
    let n = get_or found i 0 in
    let q : PlaceRow = get_or places n no-place in
    let within : i < length found = c.loop-n-test.true in
    subst (AllZip (AreSeen places) (take (i + 1) found)) (sym c.in_ok-push.ensures.ok)
    (zip-more (AreSeen places) found c.loop-n.seen i n q.guid within (get_or_default found i 0 n within) c.loop-n.invariant (q, slice_get-get_or places n no-place (c.requires i 0 within), refl))

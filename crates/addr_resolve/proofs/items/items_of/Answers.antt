use Rattle.std.proofs.Common.{◌≡◌, ◌<◌, ◌+◌, [], length, get_or, take, Some, subst, sym}
use Rattle.std.proofs.lemmas.List.{get_or_default}
use Rattle.std.proofs.lemmas.Option.{slice_get-get_or}
use Rattle.std.specs.List.{AllZip, slice_get}
use Rattle.addr_walks.proofs.Zips.{zip-more}
use Rattle.addr_resolve.specs.Items.{IsItemOf}
use Rattle.addr_resolve.specs.declared.graph.PlaceRow.{PlaceRow}
use Rattle.addr_resolve.proofs.UnfoldLemmas.{no-place}
use Rattle.addr_resolve.proofs.items.items_of.Goals as goal

pub loop-n-init : goal.loop-n-init
loop-n-init c = subst (AllZip (IsItemOf c.args.cabs.now c.args.places.now) []) (sym c.new-items.ensures) tt

pub item_at-requires : goal.item_at-requires
item_at-requires c =
    let places = c.args.places.now in
    let n = get_or c.args.picks.now c.loop-n.n-index 0 in
    c.requires.held n (get_or places n no-place) (slice_get-get_or places n no-place (c.requires.within c.loop-n.n-index 0 c.loop-n-test.true))

pub loop-n-preserved : goal.loop-n-preserved
loop-n-preserved c =
    let places = c.args.places.now in
    let picks = c.args.picks.now in
    let k = c.loop-n.n-index in
    let n = get_or picks k 0 in
    let q : PlaceRow = get_or places n no-place in
    let within : k < length picks = c.loop-n-test.true in
    let at : slice_get places n ≡ Some q = slice_get-get_or places n no-place (c.requires.within k 0 within) in
    let R = IsItemOf c.args.cabs.now places in
    subst (AllZip R (take (k + 1) picks)) (sym c.in_ok-push.ensures.ok)
    (zip-more R picks c.loop-n.items k n c.in_ok-item.item within (get_or_default picks k 0 n within) c.loop-n.invariant (q, at, c.in_ok-item.ensures))

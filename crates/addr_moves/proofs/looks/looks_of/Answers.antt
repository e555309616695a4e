use Rattle.std.proofs.Common.{◌≡◌, ◌<◌, ◌+◌, length, get_or, take, subst, sym}
use Rattle.std.proofs.lemmas.List.{get_or_default}
use Rattle.std.proofs.lemmas.Option.{slice_get-get_or}
use Rattle.std.specs.List.{AllZip}
use Rattle.addr_walks.proofs.Zips.{zip-more}
use Rattle.addr_resolve.specs.declared.graph.PlaceRow.{PlaceRow}
use Rattle.addr_resolve.proofs.UnfoldLemmas.{no-place}
use Rattle.addr_moves.specs.within.Looks.{IsAwayOf, IsLookOf, IsSpoilsOf}
use Rattle.addr_moves.proofs.looks.looks_of.Goals as goal

pub look_at-requires-clause-lent : goal.look_at-requires-clause-lent
look_at-requires-clause-lent c =
    let places = c.args.places.now in
    let i = c.loop-place.place-index in
    c.requires.held i (get_or places i no-place) (slice_get-get_or places i no-place c.loop-place-test.true)

pub loop-place-preserved : goal.loop-place-preserved
loop-place-preserved c =
    let p = c.args.project.now in
    let cabs = c.args.cabs.now in
    let h = c.args.homes.now in
    let places = c.args.places.now in
    let i = c.loop-place.place-index in
    let q : PlaceRow = get_or places i no-place in
    let within : i < length places = c.loop-place-test.true in
    let read : q ≡ get_or places i q = get_or_default places i no-place q within in
    let look = c.in_ok-look.look in
    let is : IsLookOf p cabs h places q look.spoils look.away = c.in_ok-look.ensures in
    record {
      spoils = subst (AllZip (IsSpoilsOf p cabs h places) (take (i + 1) places)) (sym c.in_ok-push.ensures.ok) (zip-more (IsSpoilsOf p cabs h places) places c.loop-place.spoils i q look.spoils within read c.loop-place.invariant.spoils (is.0, is.1, is.2.spoilt));
      away = subst (AllZip (IsAwayOf cabs h) (take (i + 1) places)) (sym c.in_ok-push-2.ensures.ok) (zip-more (IsAwayOf cabs h) places c.loop-place.away i q look.away within read c.loop-place.invariant.away (is.0, is.1, is.2.led));
    }

use Rattle.std.proofs.Common.{◌≡◌, List, Some, subst, sym}
use Rattle.std.proofs.lemmas.Option.{slice_get_within}
use Rattle.std.specs.List.{Contains, slice_get}
use Rattle.std.specs.List.Sorted.{IsStrictlySortedBy}
use Rattle.addr_resolve.specs.Graph.{place_at}
use Rattle.addr_resolve.specs.Order.{place_cmp}
use Rattle.addr_resolve.specs.declared.graph.PlaceRow.{PlaceRow}
use Rattle.addr_resolve.proofs.RowLemmas.{finds-stops, lost-start, not-held, sorted-from}
use Rattle.addr_resolve.proofs.rows.unfold_from.Goals as goal

pub number_of-requires-clause-rising : goal.number_of-requires-clause-rising
number_of-requires-clause-rising c = subst (λ (ps : List PlaceRow). IsStrictlySortedBy place_cmp ps) (sym c.as_slice.ensures) (sorted-from c.args.graph.now.places c.requires.ordered)

pub unfold-requires-clause-within : goal.unfold-requires-clause-within
unfold-requires-clause-within c =
    slice_get_within c.args.graph.now.places c.in-Some.n c.args.start.now (subst (λ (ps : List PlaceRow). slice_get ps c.in-Some.n ≡ Some c.args.start.now) c.as_slice.ensures c.in-Some.ensures)

pub returns-in-Some-clause-finds : goal.returns-in-Some-clause-finds
returns-in-Some-clause-finds c = λ files is. (
    let start = c.args.start.now in
    let at : slice_get c.args.graph.now.places c.in-Some.n ≡ Some start = subst (λ (ps : List PlaceRow). slice_get ps c.in-Some.n ≡ Some start) c.as_slice.ensures c.in-Some.ensures in
    finds-stops files (place_at start) c.unfold.result (is.is.held c.in-Some.n start at) (c.unfold.ensures.unfolds files start is.is is.shows is.one at))

pub returns-in-None-clause-finds : goal.returns-in-None-clause-finds
returns-in-None-clause-finds c = λ files is. (
    let graph = c.args.graph.now in
    let start = c.args.start.now in
    lost-start files (place_at start) (not-held files graph.places graph.rows graph.lost is.is start (λ here. c.in-None.ensures (subst (λ (ps : List PlaceRow). Contains ps start) (sym c.as_slice.ensures) here))))

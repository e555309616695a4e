use Rattle.std.proofs.Common.{◌≡◌, ◌<◌, ◌+◌, [], length, get_or, take, Some, refl, subst, sym, ◌∙◌}
use Rattle.std.proofs.lemmas.Bool.{false≢true}
use Rattle.std.proofs.lemmas.Option.{slice_get-get_or}
use Rattle.std.specs.List.{slice_get}
use Rattle.std.specs.Ordering.{nat_cmp}
use Rattle.addr_walks.specs.Walks.{IsListOf}
use Rattle.addr_resolve.specs.Graph.{IsFirst}
use Rattle.addr_resolve.specs.declared.graph.PlaceRow.{PlaceRow}
use Rattle.addr_resolve.proofs.UnfoldLemmas.{no-place}
use Rattle.addr_resolve.proofs.PickLemmas.{IsLast, picks-more, picks-none}
use Rattle.addr_resolve.proofs.picking.picks_of.Goals.{then-not-is_last+in_ok-push, else-not-is_last}
use Rattle.addr_resolve.proofs.picking.picks_of.Goals as goal

pub loop-n-init : goal.loop-n-init
loop-n-init c = record { list = subst (IsListOf nat_cmp (IsFirst c.args.places.now [])) (sym c.new-picks.ensures) (picks-none c.args.places.now); last = refl }

pub loop-n-preserved : goal.loop-n-preserved
loop-n-preserved c =
    let places = c.args.places.now in
    let found = c.args.found.now in
    let k = c.loop-n.n-index in
    let n = get_or found k 0 in
    let s : PlaceRow = get_or places n no-place in
    let within : k < length found = c.loop-n-test.true in
    let at : slice_get places n ≡ Some s = slice_get-get_or places n no-place (c.requires.within k 0 within) in
    let more = picks-more places c.requires.ordered found c.requires.rising k c.loop-n.picks c.loop-n.last s within at c.loop-n.invariant.list c.loop-n.invariant.last in
    elim c.if-not-is_last.branch [
      | then-not-is_last+in_ok-push w ↦ record {
        list = subst (IsListOf nat_cmp (IsFirst places (take (k + 1) found))) (sym (w.picks-is ∙ w.in_ok-push.ensures.ok)) (more.fresh (λ same. false≢true (sym w.if-not-is_last.true ∙ c.is_last.ensures.1 same)));
        last = subst (IsLast places (take (k + 1) found)) (sym w.last-is) more.ends;
      }
      | else-not-is_last w ↦ record {
        list = subst (IsListOf nat_cmp (IsFirst places (take (k + 1) found))) (sym w.picks-is) (more.known (c.is_last.ensures.0 w.if-not-is_last.false));
        last = subst (IsLast places (take (k + 1) found)) (sym w.last-is) more.ends;
      }
    ]

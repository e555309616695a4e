use Rattle.std.proofs.Common.{◌≡◌, ◌<◌, ℕ, List, All, Option, None, Some, length, ◌∷◌, [], subst, sym}
use Rattle.std.specs.Ordering.{nat_cmp}
use Rattle.addr_resolve.specs.declared.graph.PlaceRow.{PlaceRow}
use Rattle.addr_walks.specs.Rows.{LedTo}
use Rattle.addr_walks.specs.Walks.{IsListOf}
use Rattle.addr_moves.specs.within.Changing.{IsChangedAmong}
use Rattle.addr_moves.specs.within.Leasts.{IsLeastWhere}
use Rattle.addr_moves.specs.within.Walked.{IsWay}
use Rattle.addr_moves.proofs.KnownLemmas.{reached-below, read-least, tells-changed, tells-led, way-below}
use Rattle.addr_moves.proofs.known.walked.Goals as goal

pub changed_among-requires-clause-reached : goal.changed_among-requires-clause-reached
changed_among-requires-clause-reached c =
    let p = c.args.project.now in
    let k = c.args.known.now in
    let reached = c.in_ok-reached.reached in
    let list : IsListOf nat_cmp (LedTo k.refs (c.args.asset ∷ [])) reached = subst (λ (rs : List (List ℕ)). IsListOf nat_cmp (LedTo rs (c.args.asset ∷ [])) reached) c.as_slice.ensures c.in_ok-reached.ensures.found in
    subst (λ (ns : List ℕ). All (λ i. i < length p.assets) ns) (sym c.as_slice-3.ensures)
    (reached-below k.refs c.args.asset (length p.assets) reached c.requires.sized.refs_below (subst (λ n. c.args.asset < n) (sym c.requires.sized.refs) c.requires.asset) c.requires.sized.refs list)

pub changed_among-requires-clause-found : goal.changed_among-requires-clause-found
changed_among-requires-clause-found c =
    let k = c.args.known.now in
    let found = c.in_ok-found.found in
    let way : IsWay k.rows c.args.start found = subst (λ (rs : List (List ℕ)). IsWay rs c.args.start found) c.as_slice-2.ensures c.in_ok-found.ensures.way in
    subst (λ (ns : List ℕ). All (λ i. i < length c.as_slice-4.result.now) ns) (sym c.as_slice-6.ensures)
    (subst (λ (ps : List PlaceRow). All (λ i. i < length ps) found) (sym c.as_slice-4.ensures)
    (way-below k.rows c.args.start (length k.places) found c.requires.sized.below (λ i is. subst (λ n. i < n) (sym c.requires.sized.rows) (c.requires.start i is)) c.requires.sized.rows way))

pub returns-in-Some-clause-why : goal.returns-in-Some-clause-why
returns-in-Some-clause-why c = λ s now cabs bundles was r a m known shared named shows numbered old at. (
    let p = c.args.project.now in
    let k = c.args.known.now in
    let reached = c.in_ok-reached.reached in
    let found = c.in_ok-found.found in
    let list : IsListOf nat_cmp (LedTo k.refs (c.args.asset ∷ [])) reached = subst (λ (rs : List (List ℕ)). IsListOf nat_cmp (LedTo rs (c.args.asset ∷ [])) reached) c.as_slice.ensures c.in_ok-reached.ensures.found in
    let way : IsWay k.rows c.args.start found = subst (λ (rs : List (List ℕ)). IsWay rs c.args.start found) c.as_slice-2.ensures c.in_ok-found.ensures.way in
    let least = read-least p k.places c.as_slice-4.result.now k.spoils c.as_slice-5.result.now reached c.as_slice-3.result.now found c.as_slice-6.result.now (Some c.in-Some.guid) c.in_ok-changed.changed c.as_slice-4.ensures c.as_slice-5.ensures c.as_slice-3.ensures c.as_slice-6.ensures c.in-Some.is c.in_ok-changed.ensures in
    tells-changed s was r p now c.kept.ensures shared cabs shows bundles named k known c.args.asset a numbered m old reached list c.args.start found c.in-Some.guid at way least)

pub returns-clause-why : goal.returns-clause-why
returns-clause-why c = λ s now cabs bundles was r a m known shared named shows numbered old at. (
    let p = c.args.project.now in
    let k = c.args.known.now in
    let reached = c.in_ok-reached.reached in
    let found = c.in_ok-found.found in
    let list : IsListOf nat_cmp (LedTo k.refs (c.args.asset ∷ [])) reached = subst (λ (rs : List (List ℕ)). IsListOf nat_cmp (LedTo rs (c.args.asset ∷ [])) reached) c.as_slice.ensures c.in_ok-reached.ensures.found in
    let way : IsWay k.rows c.args.start found = subst (λ (rs : List (List ℕ)). IsWay rs c.args.start found) c.as_slice-2.ensures c.in_ok-found.ensures.way in
    let none = read-least p k.places c.as_slice-4.result.now k.spoils c.as_slice-5.result.now reached c.as_slice-3.result.now found c.as_slice-6.result.now None c.in_ok-changed.changed c.as_slice-4.ensures c.as_slice-5.ensures c.as_slice-3.ensures c.as_slice-6.ensures c.in-None.is c.in_ok-changed.ensures in
    tells-led s was r p now c.kept.ensures shared cabs shows bundles named k known c.args.asset a numbered m old reached list c.args.start found c.in_ok-led-in-None.led at way none c.in_ok-led-in-None.ensures.led)

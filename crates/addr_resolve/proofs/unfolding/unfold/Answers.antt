use Rattle.std.proofs.Common.{◌≡◌, ◌<◌, ℕ, List, [], ◌∷◌, length, map, Option, Some, None, All, ap, subst, sym, ◌∙◌, arith}
use Rattle.std.specs.Ordering.{nat_cmp}
use Rattle.std.specs.List.{AllZip, slice_get}
use Rattle.addr_base.specs.declared.ids.Guid.{Guid}
use Rattle.addr_walks.specs.Rows.{LedTo}
use Rattle.addr_walks.specs.Walks.{IsListOf}
use Rattle.addr_resolve.specs.Graph.{IsFirst, ShowsNumber}
use Rattle.addr_resolve.specs.Items.{item_view, IsItemOf}
use Rattle.addr_resolve.specs.Lost.{IsLeastOf}
use Rattle.addr_resolve.specs.declared.graph.PlaceRow.{PlaceRow}
use Rattle.addr_resolve.proofs.LostLemmas.{found-below, least-lost, none-lost}
use Rattle.addr_resolve.proofs.ItemLemmas.{items-show, picks-below}
use Rattle.addr_resolve.proofs.UnfoldLemmas.{unfolds}
use Rattle.addr_resolve.proofs.unfolding.unfold.Goals as goal

pub least_lost-requires : goal.least_lost-requires
least_lost-requires c =
    let graph = c.args.graph.now in
    let found : List ℕ = c.in_ok-found.found in
    let list : IsListOf nat_cmp (LedTo graph.rows (c.args.start ∷ [])) found = subst (λ (rs : List (List ℕ)). IsListOf nat_cmp (LedTo rs (c.args.start ∷ [])) found) c.as_slice.ensures c.in_ok-found.ensures.found in
    let start : c.args.start < length graph.rows = (let w = c.requires.within in let m = c.requires.many in omega (arith, w, m)) in
    let many : length graph.rows ≡ length c.as_slice-2.result.now = c.requires.many ∙ (sym c.requires.lost ∙ ap length (sym c.as_slice-2.ensures)) in
    subst (λ (ns : List ℕ). All (λ n. n < length c.as_slice-2.result.now) ns) (sym c.as_slice-3.ensures)
    (subst (λ m. All (λ n. n < m) found) many (found-below graph.rows c.args.start found c.requires.below start list))

pub picks_of-requires-clause-within : goal.picks_of-requires-clause-within
picks_of-requires-clause-within c =
    let graph = c.args.graph.now in
    let found : List ℕ = c.in_ok-found.found in
    let list : IsListOf nat_cmp (LedTo graph.rows (c.args.start ∷ [])) found = subst (λ (rs : List (List ℕ)). IsListOf nat_cmp (LedTo rs (c.args.start ∷ [])) found) c.as_slice.ensures c.in_ok-found.ensures.found in
    let start : c.args.start < length graph.rows = (let w = c.requires.within in let m = c.requires.many in omega (arith, w, m)) in
    let many : length graph.rows ≡ length c.as_slice-in-None.result.now = c.requires.many ∙ ap length (sym c.as_slice-in-None.ensures) in
    subst (λ (ns : List ℕ). All (λ n. n < length c.as_slice-in-None.result.now) ns) (sym c.as_slice-in-None-2.ensures)
    (subst (λ m. All (λ n. n < m) found) many (found-below graph.rows c.args.start found c.requires.below start list))

pub items_of-requires-clause-within : goal.items_of-requires-clause-within
items_of-requires-clause-within c =
    let graph = c.args.graph.now in
    let found : List ℕ = c.in_ok-found.found in
    let picks : List ℕ = c.in_ok-picks-in-None.picks in
    let list : IsListOf nat_cmp (LedTo graph.rows (c.args.start ∷ [])) found = subst (λ (rs : List (List ℕ)). IsListOf nat_cmp (LedTo rs (c.args.start ∷ [])) found) c.as_slice.ensures c.in_ok-found.ensures.found in
    let start : c.args.start < length graph.rows = (let w = c.requires.within in let m = c.requires.many in omega (arith, w, m)) in
    let many : length graph.rows ≡ length c.as_slice-in-None-3.result.now = c.requires.many ∙ ap length (sym c.as_slice-in-None-3.ensures) in
    let firsts : IsListOf nat_cmp (IsFirst graph.places found) picks = subst (λ (ns : List ℕ). IsListOf nat_cmp (IsFirst graph.places ns) picks) c.as_slice-in-None-2.ensures (subst (λ (ps : List PlaceRow). IsListOf nat_cmp (IsFirst ps c.as_slice-in-None-2.result.now) picks) c.as_slice-in-None.ensures c.in_ok-picks-in-None.ensures) in
    subst (λ (ns : List ℕ). All (λ n. n < length c.as_slice-in-None-3.result.now) ns) (sym c.as_slice-in-None-4.ensures)
    (picks-below graph.places found picks (length c.as_slice-in-None-3.result.now) (subst (λ m. All (λ n. n < m) found) many (found-below graph.rows c.args.start found c.requires.below start list)) firsts)

pub items_of-requires-clause-held : goal.items_of-requires-clause-held
items_of-requires-clause-held c = λ n q at. c.requires.held n q (subst (λ (ps : List PlaceRow). slice_get ps n ≡ Some q) c.as_slice-in-None-3.ensures at)

pub returns-in-Some-clause-unfolds : goal.returns-in-Some-clause-unfolds
returns-in-Some-clause-unfolds c = λ files q is shows one at. (
    let graph = c.args.graph.now in
    let found : List ℕ = c.in_ok-found.found in
    let list : IsListOf nat_cmp (LedTo graph.rows (c.args.start ∷ [])) found = subst (λ (rs : List (List ℕ)). IsListOf nat_cmp (LedTo rs (c.args.start ∷ [])) found) c.as_slice.ensures c.in_ok-found.ensures.found in
    let least : IsLeastOf graph.lost found (Some c.in-Some.guid) = subst (λ (ns : List ℕ). IsLeastOf graph.lost ns (Some c.in-Some.guid)) c.as_slice-3.ensures (subst (λ (ls : List (Option Guid)). IsLeastOf ls c.as_slice-3.result.now (Some c.in-Some.guid)) c.as_slice-2.ensures c.in-Some.ensures) in
    least-lost files graph.places graph.rows graph.lost is c.args.start q at found list c.in-Some.guid least)

pub returns-clause-unfolds : goal.returns-clause-unfolds
returns-clause-unfolds c = λ files q is shows one at. (
    let graph = c.args.graph.now in
    let found : List ℕ = c.in_ok-found.found in
    let picks : List ℕ = c.in_ok-picks-in-None.picks in
    let places : List PlaceRow = graph.places in
    let list : IsListOf nat_cmp (LedTo graph.rows (c.args.start ∷ [])) found = subst (λ (rs : List (List ℕ)). IsListOf nat_cmp (LedTo rs (c.args.start ∷ [])) found) c.as_slice.ensures c.in_ok-found.ensures.found in
    let none : IsLeastOf graph.lost found None = subst (λ (ns : List ℕ). IsLeastOf graph.lost ns None) c.as_slice-3.ensures (subst (λ (ls : List (Option Guid)). IsLeastOf ls c.as_slice-3.result.now None) c.as_slice-2.ensures c.in-None.ensures) in
    let firsts : IsListOf nat_cmp (IsFirst places found) picks = subst (λ (ns : List ℕ). IsListOf nat_cmp (IsFirst places ns) picks) c.as_slice-in-None-2.ensures (subst (λ (ps : List PlaceRow). IsListOf nat_cmp (IsFirst ps c.as_slice-in-None-2.result.now) picks) c.as_slice-in-None.ensures c.in_ok-picks-in-None.ensures) in
    let items = c.in_ok-items-in-None.items in
    let copied : AllZip (IsItemOf c.args.cabs.now places) picks items = subst (λ (ns : List ℕ). AllZip (IsItemOf c.args.cabs.now places) ns items) c.as_slice-in-None-4.ensures (subst (λ (ps : List PlaceRow). AllZip (IsItemOf c.args.cabs.now ps) c.as_slice-in-None-4.result.now items) c.as_slice-in-None-3.ensures c.in_ok-items-in-None.ensures) in
    let shown : AllZip (ShowsNumber files places) picks (map item_view items) = items-show files c.args.cabs.now places picks items shows copied in
    unfolds files places graph.rows graph.lost is c.args.start q at found list (none-lost files places graph.rows graph.lost is c.args.start q at found list none) one picks (map item_view c.in_ok-items-in-None.items) firsts shown)

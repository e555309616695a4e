use Rattle.std.proofs.Common.{ℕ, ◌<◌, List, length, get_or, subst}
use Rattle.std.proofs.lemmas.List.Elements.{Contains-get_or}
use Rattle.std.specs.List.{All}
use Rattle.std.specs.Ordering.{nat_cmp}
use Rattle.addr_walks.specs.Rows.{LedTo}
use Rattle.addr_walks.specs.Walks.{IsListOf}
use Rattle.addr_layout.specs.Graph.{seeds_at}
use Rattle.addr_layout.proofs.FoundLemmas.{led-below}
use Rattle.addr_layout.proofs.laying.member_ranks.Goals as goal

pub returns-clause-list : goal.returns-clause-list
returns-clause-list c =
    let graph = c.args.graph.now in
    let found = c.in_ok-found.found in
    let list = subst (λ (rows : List (List ℕ)). IsListOf nat_cmp (LedTo rows c.seeds_at.result.now) found) c.as_slice.ensures c.in_ok-found.ensures.found in
    subst (λ (xs : List ℕ). IsListOf nat_cmp (LedTo graph.within xs) found) c.seeds_at.ensures.value list

pub returns-clause-below : goal.returns-clause-below
returns-clause-below c = λ k d within.
    let graph = c.args.graph.now in
    let sized = c.requires.sized in
    let found = c.in_ok-found.found in
    let led = (returns-clause-list c).within (get_or found k d) (Contains-get_or found k d within) in
    let small = subst (All (λ (s : ℕ). s < length graph.within)) c.seeds_at.ensures.value c.seeds_at.ensures.below in
    led-below graph.within (seeds_at graph c.args.b) (length graph.guids) (get_or found k d) sized.within_below (subst (λ n. All (λ (s : ℕ). s < n) (seeds_at graph c.args.b)) sized.within small) led

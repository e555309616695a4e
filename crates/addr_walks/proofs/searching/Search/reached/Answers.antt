use Rattle.std.proofs.Common.{subst, sym, ◌∙◌}
use Rattle.std.specs.Ordering.{nat_cmp}
use Rattle.addr_walks.specs.Rows.{LedTo}
use Rattle.addr_walks.specs.Walks.{IsListOf}
use Rattle.addr_walks.proofs.FoundLemmas.{tracks-sorted, sorted-list}
use Rattle.addr_walks.proofs.searching.Search.reached.Goals as goal

pub invariant_of-self-in_err-found : goal.invariant_of-self-in_err-found
invariant_of-self-in_err-found c = tracks-sorted _ _ _ c.sort_unstable.ensures.permutation c.spread.ensures.tracks

pub invariant_of-self-2 : goal.invariant_of-self-2
invariant_of-self-2 c = tracks-sorted _ _ _ c.sort_unstable.ensures.permutation c.spread.ensures.tracks

pub returns-clause-found : goal.returns-clause-found
returns-clause-found c =
    let set = LedTo c.args.rows.now c.args.seeds.now in
    let list = sorted-list set _ _ c.spread.ensures.tracks.once c.in_ok-spread.ensures.found c.sort_unstable.ensures.permutation c.sort_unstable.ensures.sorted in
    subst (IsListOf nat_cmp set) (sym (c.in_ok-found.ensures ∙ c.as_slice.ensures.value)) list

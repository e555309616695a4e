use Rattle.std.proofs.Common.{List, subst, sym}
use Rattle.std.proofs.lemmas.List.Filters.{dedup_is}
use Rattle.std.proofs.lemmas.List.Kept.{Contains-dedup, Contains-from_dedup, IsStrictlySortedBy-dedup}
use Rattle.std.proofs.lemmas.List.Sorted.{Contains-permutation, IsPermutation-sym}
use Rattle.std.specs.List.{Contains}
use Rattle.std.specs.List.Sorted.{IsStrictlySortedBy}
use Rattle.addr_objects.specs.within.Search.{place_cmp}
use Rattle.addr_history.specs.declared.reading.Place.{Place}
use Rattle.addr_objects.proofs.PlaceOrder.{place_eq, place_equiv, place-same, place_ties, place_total}
use Rattle.addr_objects.proofs.searching.in_order.Goals as goal

pub returns-clause-rising : goal.returns-clause-rising
returns-clause-rising c =
    let sorted = c.sort_unstable.new.self.items in
    let is = dedup_is place_eq sorted c.dedup.new.self.items c.dedup.ensures.filtered in
    subst (IsStrictlySortedBy place_cmp) (sym is) (IsStrictlySortedBy-dedup place_total place_ties sorted c.sort_unstable.ensures.sorted)

pub returns-clause-same : goal.returns-clause-same
returns-clause-same c =
    let old = c.args.places.items in
    let sorted = c.sort_unstable.new.self.items in
    let is = dedup_is place_eq sorted c.dedup.new.self.items c.dedup.ensures.filtered in
    λ q. (
      λ here. Contains-permutation sorted old q (IsPermutation-sym old sorted c.sort_unstable.ensures.permutation) (Contains-from_dedup place_eq sorted q (subst (λ (xs : List Place). Contains xs q) is here)),
      λ here. subst (λ (xs : List Place). Contains xs q) (sym is) (Contains-dedup place_equiv place-same sorted q (Contains-permutation old sorted q c.sort_unstable.ensures.permutation here)),
    )

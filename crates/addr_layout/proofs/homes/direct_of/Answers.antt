use Rattle.std.proofs.Common.{nat_eq, sym, ap, subst, ◌∙◌}
use Rattle.std.proofs.lemmas.List.{take_all}
use Rattle.std.proofs.lemmas.List.Filters.{dedup_is}
use Rattle.std.specs.List.{flat_map}
use Rattle.std.specs.Ordering.{nat_cmp}
use Rattle.addr_layout.specs.Homes.{bundles_named, IsNamedIn}
use Rattle.addr_walks.specs.Walks.{IsListOf}
use Rattle.addr_layout.proofs.HomeLemmas.{direct-list}
use Rattle.addr_layout.proofs.homes.direct_of.Goals as goal

pub returns : goal.returns
returns c =
    let rows = c.args.rows.now in
    let sorted = c.sort_unstable.new.self.items in
    let found = c.loop-row.invariant ∙ ap (flat_map bundles_named) (take_all c.loop-row.row-index rows c.loop-row-test.false) in
    let list = direct-list rows c.loop-row.direct.items sorted found c.sort_unstable.ensures.permutation c.sort_unstable.ensures.sorted in
    let is = dedup_is nat_eq sorted c.dedup.new.self.items c.dedup.ensures.filtered in
    subst (IsListOf nat_cmp (IsNamedIn rows)) (sym (c.from_vec.ensures ∙ is)) list

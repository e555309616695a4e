use Rattle.std.proofs.Common.{List, [], nat_eq, sym, subst, ◌∙◌}
use Rattle.std.proofs.lemmas.List.Filters.{dedup_is}
use Rattle.std.specs.Ordering.{nat_cmp}
use Rattle.addr_cab.specs.declared.object.ObjectRow.{ObjectRow}
use Rattle.addr_base.specs.declared.images.RefTo.{RefTo}
use Rattle.addr_walks.specs.Walks.{IsListOf}
use Rattle.addr_needs.specs.within.Naming.{AddsSet, AnyOf, NamesOther, ObjectNames}
use Rattle.addr_needs.proofs.NamingLemmas.{adds-all, adds-more, names-list}
use Rattle.addr_needs.proofs.naming.named_by.Goals as goal

pub loop-object-preserved : goal.loop-object-preserved
loop-object-preserved c = λ plan names.
    let objects = c.args.objects.now in
    let object : ObjectRow = c.object-item.result in
    let gives = λ (o : ObjectRow). AnyOf o.refs (λ (r : RefTo). NamesOther plan c.args.b r.home) in
    let adds = subst (λ (rs : List RefTo). AddsSet c.loop-object.row.items (AnyOf rs (λ (r : RefTo). NamesOther plan c.args.b r.home)) c.add_refs.new.row.items) c.as_slice.ensures (c.in_ok-add_refs.ensures plan names) in
    adds-more gives objects c.loop-object.object-index object object [] c.loop-object.row.items c.add_refs.new.row.items c.loop-object-test.true c.object-item.is (c.loop-object.invariant plan names) adds

pub returns : goal.returns
returns c = λ plan names.
    let objects = c.args.objects.now in
    let sorted = c.sort_unstable.new.self.items in
    let found = adds-all (λ (o : ObjectRow). AnyOf o.refs (λ (r : RefTo). NamesOther plan c.args.b r.home)) objects c.loop-object.object-index [] c.loop-object.row.items c.loop-object-test.false (c.loop-object.invariant plan names) in
    let list = names-list (ObjectNames plan c.args.b objects) c.loop-object.row.items sorted found c.sort_unstable.ensures.permutation c.sort_unstable.ensures.sorted in
    let is = dedup_is nat_eq sorted c.dedup.new.self.items c.dedup.ensures.filtered in
    subst (IsListOf nat_cmp (ObjectNames plan c.args.b objects)) (sym (c.from_vec.ensures ∙ is)) list

use Rattle.std.proofs.Common.{arith}
use Rattle.addr_catalog.proofs.RowLemmas.{few_places}
use Rattle.addr_catalog.proofs.written_rows.dep_hash.Goals as goal

pub overflow_add-result : goal.overflow_add-result
overflow_add-result c =
    let numbers = c.args.numbers.now in
    omega (arith, few_places numbers.locator.now numbers.lists.once.items c.args.deps.now c.place.result c.requires numbers.all_lists c.place.ensures)

pub returns-in_default-clause-small : goal.returns-in_default-clause-small
returns-in_default-clause-small c =
    let numbers = c.args.numbers.now in
    omega (arith, few_places numbers.locator.now numbers.lists.once.items c.args.deps.now c.place.result c.requires numbers.all_lists c.place.ensures)

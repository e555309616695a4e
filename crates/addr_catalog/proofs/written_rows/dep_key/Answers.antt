use Rattle.std.proofs.Common.{◌∙◌, arith}
use Rattle.addr_catalog.specs.Written.{table_texts}
use Rattle.addr_catalog.proofs.KeyNumberLemmas.{few_keys}
use Rattle.addr_catalog.proofs.RowLemmas.{count_texts, few_places}
use Rattle.addr_catalog.proofs.written_rows.dep_key.Goals as goal

pub overflow_cast-result : goal.overflow_cast-result
overflow_cast-result c =
    let numbers = c.args.numbers.now in
    let texts = c.len.ensures ∙ (numbers.texts.ok.0 ∙ count_texts numbers.texts.items (table_texts numbers.locator.now) numbers.all_texts) in
    omega (arith, few_keys numbers.locator.now c.requires, texts)

pub overflow_add-result : goal.overflow_add-result
overflow_add-result c =
    let numbers = c.args.numbers.now in
    let texts = c.len.ensures ∙ (numbers.texts.ok.0 ∙ count_texts numbers.texts.items (table_texts numbers.locator.now) numbers.all_texts) in
    let few = few_places numbers.locator.now numbers.lists.once.items c.args.deps.now c.place.result c.requires numbers.all_lists c.place.ensures in
    omega (arith, texts, few)

use Rattle.std.proofs.Common.{◌∙◌, length, ap, arith}
use Rattle.addr_catalog.specs.Written.{table_texts}
use Rattle.addr_catalog.proofs.RowLemmas.{rows_within, count_rows, few_rows, count_texts}
use Rattle.addr_catalog.proofs.written_rows.table_buckets.Goals as goal

pub invert-requires-clause-few : goal.invert-requires-clause-few
invert-requires-clause-few c =
    let r = c.args.numbers.now.locator.now in
    let rows = ap length (c.deref.ensures.value ∙ c.args.numbers.now.all_numbers) in
    omega (arith, rows, count_rows r, few_rows r c.requires)

pub invert-requires-clause-within : goal.invert-requires-clause-within
invert-requires-clause-within c =
    let r = c.args.numbers.now.locator.now in
    let texts = c.len.ensures ∙ (c.args.numbers.now.texts.ok.0 ∙ count_texts c.args.numbers.now.texts.items (table_texts r) c.args.numbers.now.all_texts) in
    let rows = c.deref.ensures.value ∙ c.args.numbers.now.all_numbers in
    rw (texts, rows) (rows_within r c.are_rows.ensures)

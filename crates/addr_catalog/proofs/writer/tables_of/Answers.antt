use Rattle.std.proofs.Common.{◌∙◌, ap, length, subst, sym, arith}
use Rattle.addr_catalog.specs.Few.{AreFew}
use Rattle.addr_catalog.specs.Written.{table_rows}
use Rattle.addr_catalog.proofs.FewLemmas.{few_from}
use Rattle.addr_catalog.proofs.EncodeLemmas.{few_ids, few_types, can_encode}
use Rattle.addr_catalog.proofs.writer.tables_of.Goals as goal

pub overflow_cast-internals : goal.overflow_cast-internals
overflow_cast-internals c =
    omega (arith, few_ids c.args.locator.now c.are_rows.ensures c.requires.small, c.len-internals.ensures ∙ ap (λ lists. length lists.internals) c.requires.lists)

pub overflow_cast-providers : goal.overflow_cast-providers
overflow_cast-providers c =
    omega (arith, c.len-providers.ensures ∙ ap (λ lists. length lists.providers) c.requires.lists)

pub overflow_cast-kinds : goal.overflow_cast-kinds
overflow_cast-kinds c =
    omega (arith, few_types c.args.locator.now c.are_rows.ensures c.requires.small, c.len-kinds.ensures ∙ ap (λ lists. length lists.kinds) c.requires.lists)

pub encode-requires : goal.encode-requires
encode-requires c =
    let rows = c.in_ok-rows.ensures.rows ∙ ap table_rows c.in_ok-numbers.ensures in
    let internals = c.len-internals.ensures ∙ ap (λ lists. length lists.internals) c.requires.lists in
    let providers = c.len-providers.ensures ∙ ap (λ lists. length lists.providers) c.requires.lists in
    let kinds = c.len-kinds.ensures ∙ ap (λ lists. length lists.kinds) c.requires.lists in
    can_encode c.args.locator.now c.in_ok-rows.rows c.len-internals.result c.len-providers.result c.len-kinds.result rows internals providers kinds c.are_rows.ensures c.requires.small

pub of-requires-clause-few : goal.of-requires-clause-few
of-requires-clause-few c = few_from c.args.locator.now c.are_rows.ensures c.requires.small

pub table_rows-requires : goal.table_rows-requires
table_rows-requires c = subst AreFew (sym c.in_ok-numbers.ensures) (few_from c.args.locator.now c.are_rows.ensures c.requires.small)

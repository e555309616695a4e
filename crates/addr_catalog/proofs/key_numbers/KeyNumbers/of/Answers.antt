use Rattle.std.proofs.Common.{◌∙◌, map, ap}
use Rattle.addr_catalog.proofs.KeyNumberLemmas.{few_texts, few_lists}
use Rattle.addr_catalog.proofs.key_numbers.KeyNumbers.of.Goals as goal

pub of-requires : goal.of-requires
of-requires c = few_texts c.args.locator.now c.deref.result.now c.requires.few (ap (map (λ t. t.now)) c.deref.ensures.value ∙ c.in_ok-texts.ensures)

pub of-requires-2 : goal.of-requires-2
of-requires-2 c = few_lists c.args.locator.now c.deref-2.result.now c.args.deps.now c.requires.few c.requires.listed (ap (map (λ l. l.now)) c.deref-2.ensures.value ∙ c.in_ok-lists.ensures)

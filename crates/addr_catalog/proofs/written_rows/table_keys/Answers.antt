use Rattle.std.proofs.Common.{◌∙◌, ◌+◌, ◌<◌, ◌^◌, map, to_z, refl, arith}
use mir.Syntax.{w32}
use Rattle.addr_keys.specs.declared.key.Key.TheVariants.{Text}
use Rattle.addr_catalog.specs.Written.{dep_lists}
use Rattle.addr_catalog.proofs.KeyNumberLemmas.{few_keys, number_put, all_keys}
use Rattle.addr_catalog.proofs.RowLemmas.{count_texts}
use Rattle.addr_catalog.proofs.written_rows.table_keys.Goals as goal

pub overflow_cast-n : goal.overflow_cast-n
overflow_cast-n c =
    let numbers = c.args.numbers.now in
    let lists = c.len-n-end.ensures ∙ (numbers.lists.once.ok.0 ∙ count_texts numbers.lists.once.items (dep_lists numbers.locator.now) numbers.all_lists) in
    omega (arith, few_keys numbers.locator.now c.requires, lists, c.loop-n-test.true)

pub loop-n-preserved : goal.loop-n-preserved
loop-n-preserved c =
    let numbers = c.args.numbers.now in
    let lists = c.len-n-end.ensures ∙ (numbers.lists.once.ok.0 ∙ count_texts numbers.lists.once.items (dep_lists numbers.locator.now) numbers.all_lists) in
    let small : c.loop-n.n + 1 < 2 ^ 31 = omega (arith, few_keys numbers.locator.now c.requires, lists, c.loop-n-test.true) in
    number_put (map (λ t. Text t.now) numbers.texts.items) c.loop-n.keys c.push-in-loop-n.new.self c.loop-n.n (to_z w32 (c.loop-n.n + 1)) small c.loop-n.invariant refl c.in_ok-push-2.ensures.ok

pub returns : goal.returns
returns c =
    let numbers = c.args.numbers.now in
    let lists = c.len-n-end.ensures ∙ (numbers.lists.once.ok.0 ∙ count_texts numbers.lists.once.items (dep_lists numbers.locator.now) numbers.all_lists) in
    all_keys numbers.locator.now numbers.texts.items c.loop-n.keys c.len-n-end.result c.loop-n.n numbers.all_texts lists c.loop-n.auto.n-end c.loop-n-test.false c.loop-n.invariant

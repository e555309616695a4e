use Rattle.std.proofs.Common.{◌∙◌, ◌+◌, ◌<◌, get_or, length, ap, arith}
use Rattle.addr_catalog.specs.Written.{asset_entry}
use Rattle.addr_catalog.proofs.RowLemmas.{few_rows, few_kinds, numbered_put}
use Rattle.addr_catalog.proofs.written_rows.push_assets.Goals as goal

pub overflow_cast-first : goal.overflow_cast-first
overflow_cast-first c =
    omega (arith, few_rows c.args.numbers.now.locator.now c.requires, ap length c.bundles-first.ensures.rows, ap length c.assets-asset-items.ensures.rows, c.loop-i-test.true)

pub asset_entry-requires-clause-kind : goal.asset_entry-requires-clause-kind
asset_entry-requires-clause-kind c =
    let r = c.args.numbers.now.locator.now in
    let items = c.assets-asset-items.ensures.rows in
    let is = c.asset-item.is ∙ ap (λ assets. get_or assets c.loop-i.i c.asset-item.result) items in
    let within : c.loop-i.i < length r.assets = omega (arith, c.loop-i-test.true, ap length items) in
    few_kinds r c.loop-i.i c.asset-item.result c.are_rows.ensures c.requires is within

pub loop-i-preserved : goal.loop-i-preserved
loop-i-preserved c =
    let r = c.args.numbers.now.locator.now in
    let items = c.assets-asset-items.ensures.rows in
    let is = c.asset-item.is ∙ ap (λ assets. get_or assets c.loop-i.i c.asset-item.result) items in
    let within : c.loop-i.i < length r.assets = omega (arith, c.loop-i-test.true, ap length items) in
    let entry = c.asset_entry.ensures ∙ ap (λ n. asset_entry r (n + c.loop-i.i) c.asset-item.result) (ap length c.bundles-first.ensures.rows) in
    numbered_put (asset_entry r) (length r.bundles) c.args.entries.now c.loop-i.entries c.push.new.self r.assets c.loop-i.i c.asset-item.result c.asset_entry.result is within c.loop-i.invariant c.in_ok-push.ensures.ok entry

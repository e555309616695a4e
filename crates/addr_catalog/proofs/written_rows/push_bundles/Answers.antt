use Rattle.std.proofs.Common.{◌∙◌, ◌≡◌, ◌+◌, ◌<◌, get_or, length, ap, arith}
use Rattle.addr_catalog.specs.Written.{bundle_entry, HasOptions}
use Rattle.addr_catalog.proofs.RowLemmas.{numbered_put, all_put}
use Rattle.addr_catalog.proofs.written_rows.push_bundles.Goals as goal

pub loop-i-preserved : goal.loop-i-preserved
loop-i-preserved c =
    let r = c.args.numbers.now.locator.now in
    let items = c.bundles-bundle-items.ensures.rows in
    let is = c.bundle-item.is ∙ ap (λ bs. get_or bs c.loop-i.i c.bundle-item.result) items in
    let within : c.loop-i.i < length r.bundles = omega (arith, c.loop-i-test.true, ap length items) in
    let place : c.loop-i.i ≡ 0 + c.loop-i.i = omega arith in
    let entry = c.in_ok-bundle_entry.ensures.entry ∙ ap (λ n. bundle_entry r n c.bundle-item.result) place in
    record {
      put = numbered_put (bundle_entry r) 0 c.args.entries.now c.loop-i.entries c.push.new.self r.bundles c.loop-i.i c.bundle-item.result c.in_ok-bundle_entry.field-0 is within c.loop-i.invariant.put c.in_ok-push.ensures.ok entry;
      again = all_put HasOptions r.bundles c.loop-i.i c.bundle-item.result is within c.loop-i.invariant.again c.in_ok-bundle_entry.ensures.again;
    }

use Rattle.std.proofs.Common.{◌≡◌, ◌++◌, map, take}
use Rattle.addr_catalog.specs.Written.{bundle_key_numbers, asset_key_numbers, table_texts}
use Rattle.addr_catalog.proofs.key_numbers.row_key_numbers.Given as goal

abbrev pub invariant-loop-bundle : goal.invariant-loop-bundle
invariant-loop-bundle l = l.rows.items ≡ map (bundle_key_numbers (table_texts l.locator)) (take l.bundle-index l.locator.bundles)

abbrev pub invariant-loop-asset : goal.invariant-loop-asset
invariant-loop-asset l = l.rows.items ≡ map (bundle_key_numbers (table_texts l.locator)) l.locator.bundles ++ map (asset_key_numbers (table_texts l.locator) l.locator) (take l.asset-index l.locator.assets)

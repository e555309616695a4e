use Rattle.std.proofs.Common.{◌≡◌, ◌∙◌, sym, ap, length, List, Option, arith}
use Rattle.addr_locate.specs.Rows.{keys_of}
use Rattle.addr_locate.specs.declared.rows.BundleRow.{BundleRow}
use Rattle.addr_locate.specs.declared.rows.PlainAsset.{PlainAsset}
use Rattle.addr_catalog.specs.Catalogue.{somes}
use Rattle.addr_catalog.proofs.GoodLemmas.{each_long, somes_few, assets_good, deps_good, deps_same, keys_good, keys_same, keys_few}
use Rattle.addr_catalog.proofs.reader.read_locator.Goals as goal

pub read_assets-requires-clause-few_bundles : goal.read_assets-requires-clause-few_bundles
read_assets-requires-clause-few_bundles c = omega (arith, ap length c.as_slice-2.ensures, each_long _ 0 c.args.rows.now.entries c.in_ok-bundles.bundles c.in_ok-bundles.ensures, c.requires.few_entries)

pub of_rows-requires-clause-few_bundles : goal.of_rows-requires-clause-few_bundles
of_rows-requires-clause-few_bundles c =
    let made : c.in_ok-bundle_rows.bundle_rows.items ≡ somes c.in_ok-bundles.bundles = c.in_ok-bundle_rows.ensures in
    let long = each_long _ 0 c.args.rows.now.entries c.in_ok-bundles.bundles c.in_ok-bundles.ensures in
    omega (arith, ap length made, somes_few c.in_ok-bundles.bundles, long, c.requires.few_entries)

pub of_rows-requires-clause-few_assets : goal.of_rows-requires-clause-few_assets
of_rows-requires-clause-few_assets c =
    let made : c.in_ok-asset_rows.asset_rows.items ≡ somes c.in_ok-assets.assets = c.in_ok-asset_rows.ensures in
    let long = each_long _ 0 c.args.rows.now.entries c.in_ok-assets.assets c.in_ok-assets.ensures in
    omega (arith, ap length made, somes_few c.in_ok-assets.assets, long, c.requires.few_entries)

pub of_rows-requires-clause-few_keys : goal.of_rows-requires-clause-few_keys
of_rows-requires-clause-few_keys c =
    let made : c.in_ok-asset_rows.asset_rows.items ≡ somes c.in_ok-assets.assets = c.in_ok-asset_rows.ensures in
    let good = assets_good c.args.lists.now c.args.rows.now c.as_slice-2.result.now c.args.rows.now.entries c.in_ok-assets.assets c.requires.distinct c.in_ok-assets.ensures in
    let few = keys_few _ c.args.rows.now (somes c.in_ok-assets.assets) good in
    omega (arith, ap (λ (assets : List PlainAsset). length (keys_of assets)) made, few, c.requires.few_keys)

pub of_rows-requires-clause-deps : goal.of_rows-requires-clause-deps
of_rows-requires-clause-deps c =
    let bundles : c.in_ok-bundle_rows.bundle_rows.items ≡ somes c.in_ok-bundles.bundles = c.in_ok-bundle_rows.ensures in
    let made : c.in_ok-asset_rows.asset_rows.items ≡ somes c.in_ok-assets.assets = c.in_ok-asset_rows.ensures in
    let good = assets_good c.args.lists.now c.args.rows.now c.as_slice-2.result.now c.args.rows.now.entries c.in_ok-assets.assets c.requires.distinct c.in_ok-assets.ensures in
    let count : length (somes c.as_slice-2.result.now) ≡ length c.in_ok-bundle_rows.bundle_rows.items = ap (λ (bs : List (Option BundleRow)). length (somes bs)) c.as_slice-2.ensures ∙ sym (ap length bundles) in
    let deps = deps_good (length (somes c.as_slice-2.result.now)) c.args.rows.now (somes c.in_ok-assets.assets) good in
    deps_same count made deps

pub of_rows-requires-clause-keys : goal.of_rows-requires-clause-keys
of_rows-requires-clause-keys c =
    let made : c.in_ok-asset_rows.asset_rows.items ≡ somes c.in_ok-assets.assets = c.in_ok-asset_rows.ensures in
    let good = assets_good c.args.lists.now c.args.rows.now c.as_slice-2.result.now c.args.rows.now.entries c.in_ok-assets.assets c.requires.distinct c.in_ok-assets.ensures in
    keys_same made (keys_good _ c.args.rows.now (somes c.in_ok-assets.assets) good)

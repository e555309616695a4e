use Rattle.std.proofs.Common.{◌≡◌, ◌++◌, map, take, string_bytes}
use Rattle.std.specs.List.{AllByRecursion}
use Rattle.addr_locate.specs.PlainRows.{asset_line}
use Rattle.addr_locate.specs.PlainText.{HasTexts, ended, plain_asset}
use Rattle.addr_locate.proofs.plain_writer.push_assets.Given as goal

abbrev pub invariant-loop-asset : goal.invariant-loop-asset
invariant-loop-asset l = record {
  written : string_bytes l.text ≡ string_bytes l.fn.text ++ ended (map asset_line (map (plain_asset l.locator) (take l.asset-index l.assets)));
  form : AllByRecursion HasTexts (map (plain_asset l.locator) (take l.asset-index l.assets));
}

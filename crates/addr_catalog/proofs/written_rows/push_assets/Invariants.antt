use Rattle.std.proofs.Common.{◌≡◌, ◌++◌, take, length}
use Rattle.addr_catalog.specs.Written.{each_numbered, asset_entry}
use Rattle.addr_catalog.proofs.written_rows.push_assets.Given as goal

abbrev pub invariant-loop-i : goal.invariant-loop-i
invariant-loop-i l = l.entries ≡ l.fn.entries ++ each_numbered (asset_entry l.numbers.locator.now) (length l.numbers.locator.now.bundles) (take l.i l.numbers.locator.now.assets)

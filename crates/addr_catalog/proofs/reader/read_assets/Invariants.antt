use Rattle.std.proofs.Common.{◌≡◌, drop}
use Rattle.addr_catalog.specs.Entries.{asset_read}
use Rattle.addr_catalog.specs.Steps.{read_each}
use Rattle.addr_catalog.proofs.EachLemmas.{behind}
use Rattle.addr_catalog.proofs.reader.read_assets.Given as goal

abbrev pub invariant-loop-i : goal.invariant-loop-i
invariant-loop-i l = behind l.assets (read_each (asset_read l.lists l.rows l.bundles.numbers) l.i (drop l.i l.rows.entries)) ≡ read_each (asset_read l.lists l.rows l.bundles.numbers) 0 l.rows.entries

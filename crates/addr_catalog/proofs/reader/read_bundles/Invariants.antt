use Rattle.std.proofs.Common.{◌≡◌, drop}
use Rattle.addr_catalog.specs.Entries.{bundle_read}
use Rattle.addr_catalog.specs.Steps.{read_each}
use Rattle.addr_catalog.proofs.EachLemmas.{behind}
use Rattle.addr_catalog.proofs.reader.read_bundles.Given as goal

abbrev pub invariant-loop-i : goal.invariant-loop-i
invariant-loop-i l = behind l.bundles (read_each (bundle_read l.lists l.rows) l.i (drop l.i l.rows.entries)) ≡ read_each (bundle_read l.lists l.rows) 0 l.rows.entries

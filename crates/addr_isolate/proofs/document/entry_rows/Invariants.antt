use Rattle.std.proofs.Common.{◌≡◌, map, take}
use Rattle.toml.specs.View.{view}
use Rattle.addr_isolate.specs.Document.{entry_row}
use Rattle.addr_isolate.proofs.document.entry_rows.Given as goal

abbrev pub invariant-loop-guid : goal.invariant-loop-guid
invariant-loop-guid l = map view l.rows.items ≡ map (entry_row l.group) (take l.guid-index l.guids)

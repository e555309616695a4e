use Rattle.std.proofs.Common.{◌≡◌, map, take}
use Rattle.addr_project_rows.specs.Lookups.{keys_in}
use Rattle.addr_project.specs.Reading.{entry_from}
use Rattle.addr_project.proofs.checking.numbered.Given as goal

abbrev pub invariant-loop-row : goal.invariant-loop-row
invariant-loop-row l = l.entries ≡ map (entry_from (keys_in l.named.guids.keys.items) (keys_in l.named.names.keys.items)) (take l.row-index l.rows)

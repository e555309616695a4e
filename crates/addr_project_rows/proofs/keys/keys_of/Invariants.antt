use Rattle.std.proofs.Common.{◌≡◌, map, take}
use Rattle.addr_project_rows.specs.Lookups.{keys_in}
use Rattle.addr_project_rows.proofs.keys.keys_of.Given as goal

abbrev pub invariant-loop-row : goal.invariant-loop-row
invariant-loop-row g l = keys_in l.keys.items ≡ map g.T.Keyed.key_of (take l.row-index l.rows)

use Rattle.std.proofs.Common.{◌≡◌, take, map, None}
use Rattle.std.specs.List.{filter_map}
use Rattle.toml.specs.View.{view}
use Rattle.addr_project_rows.specs.Fields.{first_bad}
use Rattle.addr_project_rows.proofs.reader.rows_read.Given as goal

abbrev pub invariant-loop-i : goal.invariant-loop-i
invariant-loop-i g l = record {
  read : l.found ≡ filter_map g.T.Row.row_of (take l.i (map view l.rows));
  none : first_bad g.T.Row.row_of (take l.i (map view l.rows)) ≡ None;
}

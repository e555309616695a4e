use Rattle.std.proofs.Common.{sym, map}
use Rattle.toml.specs.View.{view}
use Rattle.addr_project_rows.proofs.RowLemmas.{all-read, none-read}
use Rattle.addr_project_rows.proofs.reader.items_read.Goals as goal

pub returns-in-Some : goal.returns-in-Some
returns-in-Some g c = sym (none-read g.T.Row.row_of (map view c.args.rows.now) _ _ c.in_ok-found.ensures _ c.in-Some.is)

pub returns-in-None : goal.returns-in-None
returns-in-None g c = sym (all-read g.T.Row.row_of (map view c.args.rows.now) _ _ c.in_ok-found.ensures c.in-None.is)

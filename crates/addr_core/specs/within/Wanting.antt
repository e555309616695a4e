-- What an operation wants, as the machine keeps it: the rows that it found and the bundles that they need.
use Rattle.std.specs.Prelude.{List, [], slice_get, unwrap_or}
use Rattle.addr_base.specs.declared.ids.OpId.{OpId}
use Rattle.addr_locate.specs.Rows.{Rows}
use Rattle.addr_history.specs.declared.ask.Ask.{Ask}
use Rattle.addr_history.specs.declared.event.Event.{Event}
use Rattle.addr_history.specs.Events.{rows_of_ask, needs_of}
use Rattle.addr_history.specs.Counts.{rows_of_op, needs_of_op}
use Rattle.addr_core.specs.declared.wanted.Wanted.{Wanted}

abbrev pub nothing : Wanted
nothing = record { rows = []; needs = [] }

-- what an ask wants, and what an operation of a history does
abbrev pub wanted_of : Rows → Ask → Wanted
wanted_of rows ask = record { rows = rows_of_ask rows ask; needs = needs_of rows ask }

abbrev pub wanted_of_op : Rows → List Event → OpId → Wanted
wanted_of_op rows h op = record { rows = rows_of_op rows h op; needs = needs_of_op rows h op }

-- what is kept for an operation
abbrev pub wanted_at : List Wanted → OpId → Wanted
wanted_at wanted op = unwrap_or (slice_get wanted op.0) nothing

use Rattle.std.proofs.Common.{◌≡◌, ◌++◌, map, take, string_bytes}
use Rattle.addr_change.specs.ResolvedText.{rows_text}
use Rattle.addr_resolve.specs.Resolving.{row_view}
use Rattle.addr_change.proofs.resolved_text.put_rows.Given as goal

abbrev pub invariant-loop-row : goal.invariant-loop-row
invariant-loop-row l = string_bytes l.text ≡ string_bytes l.fn.text ++ rows_text (map row_view (take l.row-index l.rows))

use Rattle.std.proofs.Common.{◌≡◌, drop, [], length}
use Rattle.serde_json.specs.View.{items_view}
use Rattle.addr_state.specs.Reading.{rows_read}
use Rattle.addr_state.specs.Rules.{entries_of}
use Rattle.addr_state.specs.within.Seen.{HasGuids}
use Rattle.addr_state.proofs.reader.read_rows.Given as goal

abbrev pub invariant-loop-value : goal.invariant-loop-value
invariant-loop-value l = record {
  count : length l.bundles ≡ l.value-index;
  seen : HasGuids l.earlier (entries_of l.bundles);
  read : rows_read l.bundles (items_view (drop l.value-index l.values)) ≡ rows_read [] (items_view l.values);
}

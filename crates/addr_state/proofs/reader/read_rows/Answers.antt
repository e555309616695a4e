use Rattle.std.proofs.Common.{◌+◌, List, length, drop, sym, ap, subst, ◌∙◌}
use Rattle.std.proofs.lemmas.Result.{err_from_is_err_and}
use Rattle.serde_json.specs.View.{items_view}
use Rattle.addr_state.specs.declared.model.StateBundle.{StateBundle}
use Rattle.addr_state.specs.Reading.{rows_read}
use Rattle.addr_state.specs.Rules.{entries_of}
use Rattle.addr_state.specs.within.Seen.{HasGuids}
use Rattle.addr_state.proofs.RowLemmas.{row_found, row_bad, rows_done, entries_none, row_at, one_longer, seen_more}
use Rattle.addr_state.proofs.reader.read_rows.Goals as goal

pub loop-value-init : goal.loop-value-init
loop-value-init c = record {
  count = ap length c.new-bundles.ensures;
  seen = subst (HasGuids c.none_seen-earlier.result) (sym (ap entries_of c.new-bundles.ensures ∙ entries_none)) c.none_seen-earlier.ensures;
  read = ap (λ (bs : List StateBundle). rows_read bs (items_view c.args.values.now)) c.new-bundles.ensures;
}

pub returns-in_err-bundle : goal.returns-in_err-bundle
returns-in_err-bundle c =
    let p = err_from_is_err_and c.from_residual.result c.from_residual.ensures.1 in
    let seen = subst (λ (bs : List StateBundle). HasGuids c.loop-value.earlier (entries_of bs)) (sym c.as_slice.ensures) c.loop-value.invariant.seen in
    rw (p.1, p.2) (λ some. row_bad c.loop-value.bundles c.args.values.now c.loop-value.value-index c.value-item.result _ _ c.loop-value-test.true
    (row_at c.as_slice.result.now c.loop-value.bundles c.value-item.result _ _ c.as_slice.ensures c.value-item.is (c.in_err-bundle.ensures seen some)) c.loop-value.invariant.read)

pub loop-value-preserved : goal.loop-value-preserved
loop-value-preserved c =
    let b = c.in_ok-bundle.bundle in
    let seen = subst (λ (bs : List StateBundle). HasGuids c.loop-value.earlier (entries_of bs)) (sym c.as_slice.ensures) c.loop-value.invariant.seen in
    let here = row_at c.as_slice.result.now c.loop-value.bundles c.value-item.result _ _ c.as_slice.ensures c.value-item.is (c.in_ok-bundle.ensures seen) in
    record {
      count = one_longer c.loop-value.bundles c.push.new.self b c.loop-value.value-index c.in_ok-push.ensures.ok c.loop-value.invariant.count;
      seen = seen_more c.add_all.new.seen c.loop-value.bundles c.push.new.self b c.as_slice-in-loop-value.result.now c.in_ok-push.ensures.ok c.as_slice-in-loop-value.ensures (c.in_ok-add_all.ensures (entries_of c.loop-value.bundles) c.loop-value.invariant.seen);
      read = ap (λ (bs : List StateBundle). rows_read bs (items_view (drop (c.loop-value.value-index + 1) c.args.values.now))) c.in_ok-push.ensures.ok
          ∙ row_found c.loop-value.bundles c.args.values.now c.loop-value.value-index c.value-item.result b _ c.loop-value-test.true here c.loop-value.invariant.read;
    }

pub returns : goal.returns
returns c = rows_done c.loop-value.bundles c.args.values.now c.loop-value.value-index _ c.loop-value-test.false c.loop-value.invariant.read

use Rattle.std.proofs.Common.{List, length, ap, ◌∙◌, arith}
use Rattle.std.proofs.lemmas.Result.{err_from_is_err_and}
use Rattle.addr_reading.proofs.ListLaws.{all_more, all_ends, all_done}
use Rattle.addr_tables.specs.declared.rows.EntryRow.{EntryRow}
use Rattle.addr_tables.specs.Faults.{entry_read}
use Rattle.addr_tables.proofs.Loops.{entry_alike}
use Rattle.addr_tables.proofs.decoder.entries_of.Goals as goal

pub returns-in_err-row : goal.returns-in_err-row
returns-in_err-row c =
    let p = err_from_is_err_and c.from_residual.result c.from_residual.ensures.1 in
    rw (p.1, p.2) (λ ne.
    let h = entry_alike c.args.tables.now c.args.parts.now.extras _ c.args.keys _ c.loop-fields.fields-index c.loop-fields.rows.items c.args.parts.now.entries _ _ _ c.as_slice-fields-items.ensures c.as_slice.ensures (c.len-place.ensures ∙ c.loop-fields.rows.ok.0) (c.in_err-row.ensures ne) in
    all_ends (λ (others : List EntryRow). entry_read c.args.tables.now c.args.parts.now.extras c.args.keys (length others)) c.loop-fields.rows.items c.args.parts.now.entries c.loop-fields.fields-index _ c.in_err-row.field-0.0 _ (omega (arith, ap length c.as_slice-fields-items.ensures, c.loop-fields-test.true)) h c.loop-fields.invariant.0)

pub loop-fields-preserved : goal.loop-fields-preserved
loop-fields-preserved c =
    let h = entry_alike c.args.tables.now c.args.parts.now.extras _ c.args.keys _ c.loop-fields.fields-index c.loop-fields.rows.items c.args.parts.now.entries _ _ _ c.as_slice-fields-items.ensures c.as_slice.ensures (c.len-place.ensures ∙ c.loop-fields.rows.ok.0) c.in_ok-row.ensures in (
      rw c.in_ok-push.ensures.items (all_more (λ (others : List EntryRow). entry_read c.args.tables.now c.args.parts.now.extras c.args.keys (length others)) c.loop-fields.rows.items c.args.parts.now.entries c.loop-fields.fields-index _ c.in_ok-row.row _ (omega (arith, ap length c.as_slice-fields-items.ensures, c.loop-fields-test.true)) h c.loop-fields.invariant.0),
      omega (arith, c.in_ok-push.ensures.len, c.loop-fields.invariant.1),
    )

pub returns : goal.returns
returns c = all_done (λ (others : List EntryRow). entry_read c.args.tables.now c.args.parts.now.extras c.args.keys (length others)) c.loop-fields.rows.items c.args.parts.now.entries c.loop-fields.fields-index _ (omega (arith, ap length c.as_slice-fields-items.ensures, c.loop-fields-test.false)) c.loop-fields.invariant.0

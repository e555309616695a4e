use Rattle.std.proofs.Common.{List, ℕ, ◌++◌, length, ap, ◌∙◌, arith}
use Rattle.std.specs.Int.{w32, to_le_bytes}
use Rattle.addr_tables.proofs.WrittenLemmas.{entries_few, rows_start, rows_more, rows_done, fields_alike}
use Rattle.addr_tables.proofs.encoder.entry_tables.Goals as goal

pub overflow_cast-entries : goal.overflow_cast-entries
overflow_cast-entries c = let few = entries_few c.args.entries.now c.requires.entry_small in omega arith

pub loop-i-init : goal.loop-i-init
loop-i-init c =
    rows_start c.args.entries.now _ _ (c.in_ok-put_u32.ensures ∙ ap (λ (x : List ℕ). x ++ to_le_bytes w32 (length c.args.entries.now)) c.new-entry_table.ensures.items) c.new-extra_table.ensures.items

pub loop-i-preserved : goal.loop-i-preserved
loop-i-preserved c =
    rows_more c.args.entries.now c.loop-i.i c.loop-i.entry_table.items c.loop-i.extra_table.items _ _ c.index-entries-i.result c.loop-i-test.true c.index-entries-i.is
    (fields_alike c.loop-i.entry_table.items _ _ (length c.loop-i.extra_table.items) c.fields_of-fields.result c.index-entries-i.result (c.len.ensures ∙ c.loop-i.extra_table.ok.0) c.fields_of-fields.ensures.value c.in_ok-put_fields.ensures)
    c.in_ok-put_extra.ensures.written (c.in_ok-put_extra.ensures.form, c.fields_of-fields.ensures.fits) c.loop-i.invariant

pub returns-clause-rows : goal.returns-clause-rows
returns-clause-rows c = (rows_done c.args.entries.now c.loop-i.i c.loop-i.entry_table.items c.loop-i.extra_table.items c.loop-i-test.false c.loop-i.invariant).rows_are

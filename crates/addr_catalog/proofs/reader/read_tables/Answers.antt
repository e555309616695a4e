use Rattle.std.proofs.Common.{◌≡◌, ◌∙◌, ap, sym}
use Rattle.std.proofs.lemmas.Result.{err_from_is_err_and}
use Rattle.addr_tables.specs.Faults.{rows_read}
use Rattle.addr_tables.specs.declared.error.TableErr.{TableErr}
use Rattle.addr_catalog.specs.Tables.{tables_of}
use Rattle.addr_catalog.specs.FaultsBelow.{of_table, of_tables}
use Rattle.addr_catalog.proofs.SoundLemmas.{rows_capped, sound_rows}
use Rattle.addr_catalog.proofs.reader.read_tables.Goals as goal

pub returns-in_err-decode-clause-exact : goal.returns-in_err-decode-clause-exact
returns-in_err-decode-clause-exact c =
    let p = err_from_is_err_and c.from_residual.result c.from_residual.ensures.1 in
    rw (p.1, p.2) (λ ne. ap of_tables (sym (rows_capped (tables_of c.args.lists.now c.args.strings)) ∙ ap rows_read (sym c.tables_of-tables.ensures) ∙ c.in_err-decode.ensures.exact (λ (e : c.in_err-decode.field-0.0 ≡ TableErr.NoMemory). ne (ap of_table e))))

pub returns-clause-exact : goal.returns-clause-exact
returns-clause-exact c = ap of_tables (sym (rows_capped (tables_of c.args.lists.now c.args.strings)) ∙ ap rows_read (sym c.tables_of-tables.ensures) ∙ c.in_ok-decode.ensures.exact)

pub returns-clause-sound : goal.returns-clause-sound
returns-clause-sound c = sound_rows _ c.in_ok-decode.field-0 c.in_ok-decode.ensures.found

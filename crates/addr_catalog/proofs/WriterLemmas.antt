-- What a reader makes of the text that is written: its document, the tables in it, and what their rows stand for.
use Rattle.std.proofs.Common.{◌≡◌, ℕ, List, Ok, refl, ap, ◌∙◌}
use Rattle.addr_catalog_json.specs.Document.{document_read}
use Rattle.addr_locate.specs.Rows.{Rows}
use Rattle.addr_tables.specs.Faults.{rows_read}
use Rattle.addr_tables.specs.Written.{written}
use Rattle.addr_catalog.specs.Catalogue.{catalogue_read}
use Rattle.addr_catalog.specs.declared.catalogue.Catalogue.{Catalogue}
use Rattle.addr_catalog.specs.ReadBack.{read_back}
use Rattle.addr_catalog.specs.ReadsAlike.{ReadsAlike, ReadsBackAlike}
use Rattle.addr_reading.specs.Steps.{◌>>=◌}
use Rattle.addr_catalog.specs.Tables.{tables_of}
use Rattle.addr_catalog.specs.Written.{table_rows, lists_of, tables_written, strings_in, document_of}

-- the tables in the document are those that were written
tables_in : (r : Rows) → tables_of (lists_of r) (strings_in (tables_written r)) ≡ tables_written r
unfolding written
tables_in r = refl

pub text_read : (c : Catalogue) (bytes : List ℕ) → document_read bytes ≡ Ok (document_of c) → rows_read (tables_written c.locator) ≡ Ok (table_rows c.locator)
    → catalogue_read bytes ≡ read_back c
unfolding catalogue_read
text_read c bytes document rows =
    let tables = ap rows_read (tables_in c.locator) ∙ rows in
    rw (document, tables) refl

pub reads_alike : (c : Catalogue) (bytes : List ℕ) → catalogue_read bytes ≡ read_back c → ReadsBackAlike c.locator → ReadsAlike bytes c
reads_alike c bytes read (s, is, alike) = (record { locator = s; state = c.state }, read ∙ ap (λ l. l >>= (λ (rows : Rows). Ok (record { locator = rows; state = c.state }))) is, alike, refl)

-- The catalogue that bytes stand for, or else the first fault: exactly one of the two is defined.
use Rattle.std.specs.Prelude.{ℕ, List, Option, Result, Ok}
use Rattle.std.specs.List.{filter_map}
use Rattle.addr_catalog_json.specs.declared.document.Lists.{Lists}
use Rattle.addr_locate.specs.Rows.{Rows, rows_of}
use Rattle.addr_tables.specs.Faults.{rows_read}
use Rattle.addr_tables.specs.declared.rows.Rows.{Rows as TableRows}
use Rattle.addr_catalog.specs.declared.catalogue.Catalogue.{Catalogue}
use Rattle.addr_catalog.specs.declared.error.CatErr.{CatErr}
use Rattle.addr_catalog_json.specs.Document.{document_read}
use Rattle.addr_catalog.specs.Tables.{tables_of}
use Rattle.addr_catalog.specs.Entries.{bundle_read, asset_read, numbers_from}
use Rattle.addr_catalog.specs.FaultsBelow.{of_documents, of_tables}
use Rattle.addr_reading.specs.Steps.{◌>>=◌}
use Rattle.addr_catalog.specs.Steps.{read_each}

-- those that are there
abbrev pub somes : {A : Type 0} → List (Option A) → List A
somes xs = filter_map (λ x. x) xs

-- the rows that entries stand for: all as bundles, with their faults, and after that all as assets
unfoldable pub locator_read : Lists → TableRows → Result Rows CatErr
locator_read lists rows = do
  bundles ← read_each (bundle_read lists rows) 0 rows.entries
  assets ← read_each (asset_read lists rows (numbers_from 0 bundles)) 0 rows.entries
  Ok (rows_of (somes bundles) (somes assets))

unfoldable pub catalogue_read : List ℕ → Result Catalogue CatErr
catalogue_read bytes = do
  document ← of_documents (document_read bytes)
  rows ← of_tables (rows_read (tables_of document.lists document.strings))
  locator ← locator_read document.lists rows
  Ok (record { locator = locator; state = document.state })

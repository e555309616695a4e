-- What is written for a catalogue's rows is read as rows that say the same, where no two bundles have the same key.
use Rattle.std.specs.Prelude.{ℕ, ◌≡◌, List, IsTrue, map, Ok}
use Rattle.addr_locate.specs.Alike.{Alike}
use Rattle.addr_locate.specs.Rows.{Rows, no_text_twice}
use Rattle.addr_catalog.specs.Catalogue.{locator_read, catalogue_read}
use Rattle.addr_catalog.specs.declared.catalogue.Catalogue.{Catalogue}
use Rattle.addr_catalog.specs.Written.{table_rows, lists_of}

-- no two bundles have the same key
abbrev pub HasDistinctKeys : Rows → Type 0
HasDistinctKeys r = IsTrue (no_text_twice (map (λ b. b.key) r.bundles))

-- what is written for the rows is read as alike rows
abbrev pub ReadsBackAlike : Rows → Type 0
ReadsBackAlike r = (s : Rows) × (locator_read (lists_of r) (table_rows r) ≡ Ok s) × Alike r s

-- the bytes are read as a catalogue with alike rows and the same state
abbrev pub ReadsAlike : List ℕ → Catalogue → Type 0
ReadsAlike bytes c = (d : Catalogue) × (catalogue_read bytes ≡ Ok d) × Alike c.locator d.locator × (d.state ≡ c.state)

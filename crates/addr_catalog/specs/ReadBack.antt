-- What a reader makes of a catalogue that was written.
use Rattle.std.specs.Prelude.{Result, Ok}
use Rattle.addr_catalog.specs.Catalogue.{locator_read}
use Rattle.addr_catalog.specs.declared.catalogue.Catalogue.{Catalogue}
use Rattle.addr_catalog.specs.declared.error.CatErr.{CatErr}
use Rattle.addr_reading.specs.Steps.{◌>>=◌}
use Rattle.addr_catalog.specs.Written.{lists_of, table_rows}

-- what the rows that are written for a catalogue stand for, with the same state
abbrev pub read_back : Catalogue → Result Catalogue CatErr
read_back c = do
  locator ← locator_read (lists_of c.locator) (table_rows c.locator)
  Ok (record { locator = locator; state = c.state })

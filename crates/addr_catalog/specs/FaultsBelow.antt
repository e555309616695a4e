-- The faults of a document and of tables as faults of a catalogue. Want of memory stays what it is.
use Rattle.std.specs.Prelude.{Result, Ok, Err}
use Rattle.addr_catalog_json.specs.declared.error.DocErr.{DocErr}
use Rattle.addr_catalog_json.specs.declared.error.DocErr.TheVariants as document
use Rattle.addr_tables.specs.declared.error.TableErr.{TableErr}
use Rattle.addr_tables.specs.declared.error.TableErr.TheVariants as tables
use Rattle.addr_catalog.specs.declared.error.CatErr.{CatErr}
use Rattle.addr_catalog.specs.declared.error.CatErr.TheVariants.{Json, Member, Table, NoMemory}

abbrev pub of_document : DocErr → CatErr
of_document document.NoMemory = NoMemory
of_document document.Json = Json
of_document (document.Member which) = Member which

-- what is read of a document, with its fault
abbrev pub of_documents : {A : Type 0} → Result A DocErr → Result A CatErr
of_documents (Ok x) = Ok x
of_documents (Err fault) = Err (of_document fault)

abbrev pub of_table : TableErr → CatErr
of_table tables.NoMemory = NoMemory
of_table fault = Table fault

-- what is read of tables, with their fault
abbrev pub of_tables : {A : Type 0} → Result A TableErr → Result A CatErr
of_tables (Ok x) = Ok x
of_tables (Err fault) = Err (of_table fault)

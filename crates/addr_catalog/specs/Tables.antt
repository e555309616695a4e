-- The tables in a document, with how many internal ids, providers and types their numbers may name.
use Rattle.std.specs.Prelude.{length}
use Rattle.addr_catalog_json.specs.declared.document.Lists.{Lists}
use Rattle.addr_catalog_json.specs.declared.document.Strings.{Strings}
use Rattle.addr_tables.specs.declared.rows.Tables.{Tables}

abbrev pub tables_of : Lists → Strings → Tables
tables_of lists strings = record {
  key = strings.key;
  bucket = strings.bucket;
  entry = strings.entry;
  extra = strings.extra;
  internals = length lists.internals;
  providers = length lists.providers;
  kinds = length lists.kinds;
}

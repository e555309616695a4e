-- How large the parts of tables are, and when tables stay below their bound.
use Rattle.std.specs.Prelude.{ℕ, ◌+◌, ◌-◌, ◌*◌, ◌<◌, ◌^◌, List, length, min}
use Rattle.std.specs.List.{flat_map}
use Rattle.addr_keys.specs.declared.key.Key.{Key}
use Rattle.addr_keys.specs.Format.{key_text}
use Rattle.addr_tables.specs.Format.{bucket_table, entry_table}
use Rattle.addr_tables.specs.Written.{key_bytes, buckets_from, extra_text, fields_from}
use Rattle.addr_tables.specs.declared.rows.EntryRow.{EntryRow}
use Rattle.addr_tables.specs.declared.rows.Rows.{Rows}

-- the bytes of a key
abbrev pub key_size : Key → ℕ
key_size key = length (key_text key)

-- the bytes of a bucket: the place of its key, a count and the numbers
abbrev pub bucket_size : List ℕ → ℕ
bucket_size ns = 8 + 4 * length ns

-- the bytes of an entry's extra object, none where it has no such object
abbrev pub extra_size : EntryRow → ℕ
extra_size row = length (extra_text row)

-- a size, or the greatest number of 64 bits where it is greater
abbrev pub saturated : ℕ → ℕ
saturated n = min n (2 ^ 64 - 1)

-- each table of the rows stays below 2^31 bytes
pub record AreSmall (rows : Rows) : Type 0 where
  pub key_small : length (key_bytes rows.keys) < 2 ^ 31
  pub bucket_small : length (bucket_table (buckets_from 4 rows.keys rows.buckets)) < 2 ^ 31
  pub entry_small : length (entry_table (fields_from 0 rows.entries)) < 2 ^ 31
  pub extra_small : length (flat_map extra_text rows.entries) < 2 ^ 31

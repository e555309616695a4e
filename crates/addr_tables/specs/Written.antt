-- The tables that are written: keys in order without gaps, and one object of extra data for each entry that has one.
use Rattle.std.specs.Prelude.{◌≡◌, ℕ, ◌+◌, ◌<◌, ◌^◌, true, List, [], ◌∷◌, ◌++◌, length, Option, Some, None, FitsSigned}
use Rattle.std.specs.List.{flat_map, list_all, AllByRecursion}
use Rattle.std.specs.Int.{w32, to_le_bytes, cast_unsigned}
use Rattle.base64.specs.GeneralPurpose.{encode_of}
use Rattle.base64.specs.Engines.{standard}
use Rattle.addr_keys.specs.declared.key.Key.{Key}
use Rattle.addr_keys.specs.Format.{key_text, IsForm, IsWritable}
use Rattle.addr_tables.specs.declared.rows.EntryRow.{EntryRow}
use Rattle.addr_tables.specs.declared.rows.Rows.{Rows}
use Rattle.addr_tables.specs.declared.rows.Tables.{Tables}
use Rattle.addr_tables.specs.declared.parts.Bucket.{Bucket}
use Rattle.addr_tables.specs.declared.parts.Fields.{Fields}
use Rattle.addr_tables.specs.declared.parts.Parts.{Parts}
use Rattle.addr_tables.specs.Format.{bucket_table, entry_table, nothing, is_within}
use Rattle.addr_tables.specs.Rows.{AreDistinct}

-- the key table: a count, and the keys one after the other
unfoldable pub key_bytes : List Key → List ℕ
key_bytes keys = to_le_bytes w32 (length keys) ++ flat_map key_text keys

-- the buckets of keys that are written one after the other from a place on
unfoldable pub buckets_from : ℕ → List Key → List (List ℕ) → List Bucket
buckets_from at (k ∷ ks) (ns ∷ nss) = record { offset = at; numbers = ns } ∷ buckets_from (at + length (key_text k)) ks nss
buckets_from at _ _ = []

-- the extra object of an entry
abbrev pub option_text : Option Key → List ℕ
option_text None = []
option_text (Some key) = key_text key

abbrev pub extra_text : EntryRow → List ℕ
extra_text row = option_text row.extra

-- where an extra object that is written at a place stands, or -1 where there is none
abbrev pub extra_place : ℕ → Option Key → ℕ
extra_place at None = nothing
extra_place at (Some key) = at

abbrev pub link_number : Option ℕ → ℕ
link_number None = nothing
link_number (Some n) = n

-- the numbers of an entry whose extra object is written at a place
abbrev pub fields_at : ℕ → EntryRow → Fields
fields_at at row = record {
  internal = row.internal;
  provider = row.provider;
  dep = link_number row.dep;
  dep_hash = cast_unsigned w32 row.dep_hash;
  extra = extra_place at row.extra;
  primary = row.primary;
  kind = row.kind;
}

-- the entries whose extra objects are written one after the other from a place on
unfoldable pub fields_from : ℕ → List EntryRow → List Fields
fields_from at [] = []
fields_from at (row ∷ rows) = fields_at at row ∷ fields_from (at + length (extra_text row)) rows

-- the parts that are written; the first key stands behind the four bytes of the count
abbrev pub written_parts : Rows → Parts
written_parts rows = record {
  keys = key_bytes rows.keys;
  buckets = buckets_from 4 rows.keys rows.buckets;
  entries = fields_from 0 rows.entries;
  extras = flat_map extra_text rows.entries;
}

-- the tables of the rows
unfoldable pub written : Rows → ℕ → ℕ → ℕ → Tables
written rows internals providers kinds = record {
  key = encode_of standard (key_bytes rows.keys);
  bucket = encode_of standard (bucket_table (buckets_from 4 rows.keys rows.buckets));
  entry = encode_of standard (entry_table (fields_from 0 rows.entries));
  extra = encode_of standard (flat_map extra_text rows.entries);
  internals = internals;
  providers = providers;
  kinds = kinds;
}

-- a dependency is the number of a key
abbrev pub IsLink : ℕ → Option ℕ → Type 0
IsLink keys None = Unit {0}
IsLink keys (Some n) = is_within keys n ≡ true

abbrev pub IsExtraWritable : Option Key → Type 0
IsExtraWritable None = Unit {0}
IsExtraWritable (Some key) = IsWritable key

-- an extra key whose written form is a form of it
abbrev pub HasForm : Option Key → Type 0
HasForm None = Unit {0}
HasForm (Some key) = IsForm key (key_text key)

-- a row whose extra key reads back, with a dependency hash of four bytes
abbrev pub IsGoodRow : EntryRow → Type 0
IsGoodRow row = HasForm row.extra × FitsSigned w32 row.dep_hash

-- a row each of whose numbers names something, with extra data that can be written
pub record CanWriteRow (internals providers keys kinds : ℕ) (row : EntryRow) : Type 0 where
  pub internal : is_within internals row.internal ≡ true
  pub provider : is_within providers row.provider ≡ true
  pub dep : IsLink keys row.dep
  pub primary : is_within keys row.primary ≡ true
  pub kind : is_within kinds row.kind ≡ true
  pub extra : IsExtraWritable row.extra

-- rows that have tables: what `decode` tests, and tables below 2^31 bytes
pub record CanEncode (rows : Rows) (internals providers kinds : ℕ) : Type 0 where
  pub paired : length rows.buckets ≡ length rows.keys
  pub distinct : AreDistinct rows.keys
  pub keys : AllByRecursion IsWritable rows.keys
  pub buckets : AllByRecursion (λ ns. list_all (is_within (length rows.entries)) ns ≡ true) rows.buckets
  pub entries : AllByRecursion (CanWriteRow internals providers (length rows.keys) kinds) rows.entries
  pub key_small : length (key_bytes rows.keys) < 2 ^ 31
  pub bucket_small : length (bucket_table (buckets_from 4 rows.keys rows.buckets)) < 2 ^ 31
  pub entry_small : length (entry_table (fields_from 0 rows.entries)) < 2 ^ 31
  pub extra_small : length (flat_map extra_text rows.entries) < 2 ^ 31

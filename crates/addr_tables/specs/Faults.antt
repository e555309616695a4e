-- What reading four tables gives, test after test: the rows, or the first fault that is met.
use Rattle.std.specs.Prelude.{ℕ, ◌*◌, ◌^◌, ◌%◌, not, List, [], ◌∷◌, length, take, drop, map, Option, Some, None, Result, Ok, Err, nat_lt, nat_le, ◌==◌, ◌&&◌, ◌||◌, if◌then◌else◌}
use Rattle.std.specs.List.{list_all, list_any}
use Rattle.std.specs.Int.{w32, from_le_bytes, cast_signed}
use Rattle.base64.specs.declared.decode.DecodeError.{DecodeError}
use Rattle.base64.specs.GeneralPurpose.{decode_of}
use Rattle.base64.specs.Engines.{standard}
use Rattle.addr_reading.specs.Steps.{◌>>=◌}
use Rattle.addr_reading.specs.Lists.{read_all, read_times}
use Rattle.addr_keys.specs.declared.key.Key.{Key}
use Rattle.addr_keys.specs.declared.error.KeyErr.{KeyErr}
use Rattle.addr_keys.specs.Faults.{key_read}
use Rattle.addr_tables.specs.declared.rows.EntryRow.{EntryRow}
use Rattle.addr_tables.specs.declared.rows.Rows.{Rows}
use Rattle.addr_tables.specs.declared.rows.Tables.{Tables}
use Rattle.addr_tables.specs.declared.parts.Bucket.{Bucket}
use Rattle.addr_tables.specs.declared.parts.Fields.{Fields}
use Rattle.addr_tables.specs.declared.parts.Parts.{Parts}
use Rattle.addr_tables.specs.declared.error.TableErr.{TableErr}
use Rattle.addr_tables.specs.declared.error.TableErr.TheVariants as errors
use Rattle.addr_tables.specs.Format.{nothing, is_within, is_same_key}

-- ---- texts and tables

-- the bytes that a text encodes
abbrev pub bytes_or : ℕ → Result (List ℕ) DecodeError → Result (List ℕ) TableErr
bytes_or which (Ok bytes) = Ok bytes
bytes_or which (Err e) = Err (errors.Base64 which)

unfoldable pub text_bytes : ℕ → List ℕ → Result (List ℕ) TableErr
text_bytes which text = bytes_or which (decode_of standard text)

-- the numbers of a table, four bytes each; fewer bytes at the end are left over
unfoldable pub numbers_of : List ℕ → List ℕ
numbers_of (a ∷ b ∷ c ∷ d ∷ rest) = from_le_bytes w32 (a ∷ b ∷ c ∷ d ∷ []) ∷ numbers_of rest
numbers_of _ = []

-- a count at the front, which isn't negative
unfoldable pub count_first : ℕ → List ℕ → Result (ℕ × List ℕ) TableErr
count_first which [] = Err (errors.Short which)
count_first which (n ∷ rest) = if nat_lt n (2 ^ 31) then Ok (n, rest) else Err (errors.Short which)

-- a bucket at the front
unfoldable pub bucket_first : List ℕ → Result (Bucket × List ℕ) TableErr
bucket_first (offset ∷ n ∷ rest) =
    if nat_lt n (2 ^ 31) && nat_le n (length rest) then Ok (record { offset = offset; numbers = take n rest }, drop n rest) else Err (errors.Short 1)
bucket_first _ = Err (errors.Short 1)

-- so many buckets, behind those that were read
abbrev pub buckets_first : ℕ → List Bucket → List ℕ → Result (List Bucket × List ℕ) TableErr
buckets_first n before numbers = read_times (λ others rest. bucket_first rest) n before numbers

-- the buckets of a table, all of its bytes
unfoldable pub buckets_of : List ℕ → Result (List Bucket) TableErr
buckets_of bytes = do
  n ← count_first 1 (numbers_of bytes)
  found ← buckets_first n.0 [] n.1
  if length found.1 == 0 && length bytes % 4 == 0 then Ok found.0 else Err (errors.Trailing 1)

-- entries of seven numbers each
unfoldable pub fields_of : List ℕ → List Fields
fields_of (a ∷ b ∷ c ∷ d ∷ e ∷ f ∷ g ∷ rest) =
    record { internal = a; provider = b; dep = c; dep_hash = d; extra = e; primary = f; kind = g } ∷ fields_of rest
fields_of _ = []

-- the entries of a table, all of its bytes
unfoldable pub entries_of : List ℕ → Result (List Fields) TableErr
entries_of bytes = do
  n ← count_first 2 (numbers_of bytes)
  if nat_lt (length n.1) (7 * n.0) then Err (errors.Short 2)
      else if length n.1 == 7 * n.0 && length bytes % 4 == 0 then Ok (fields_of n.1)
      else Err (errors.Trailing 2)

-- how many keys a table says that it has
unfoldable pub key_count : List ℕ → Result ℕ TableErr
key_count keys = do
  n ← count_first 0 (numbers_of (take 4 keys))
  Ok n.0

-- the parts of the tables, with as many buckets as keys
unfoldable pub parts_of : Tables → Result Parts TableErr
parts_of tables = do
  keys ← text_bytes 0 tables.key
  buckets ← text_bytes 1 tables.bucket
  entries ← text_bytes 2 tables.entry
  extras ← text_bytes 3 tables.extra
  count ← key_count keys
  found ← buckets_of buckets
  rows ← entries_of entries
  if count == length found then Ok (record { keys = keys; buckets = found; entries = rows; extras = extras })
      else Err (errors.Counts count (length found))

-- ---- keys and rows

-- the key that was read for a bucket, where no earlier bucket has it
abbrev pub new_key : List Key → Result (Key × ℕ) KeyErr → Result Key TableErr
new_key before (Ok x) = if list_any (is_same_key x.0) before then Err (errors.Key (length before)) else Ok x.0
new_key before (Err e) = Err (errors.Key (length before))

-- the key at a bucket's own offset
unfoldable pub bucket_key : List ℕ → List Key → Bucket → Result Key TableErr
bucket_key keys before b = if nat_lt b.offset (2 ^ 31) then new_key before (key_read keys b.offset) else Err (errors.Key (length before))

-- a bucket's key, where each of its numbers is that of an entry
unfoldable pub bucket_read : List ℕ → ℕ → List Key → Bucket → Result Key TableErr
bucket_read keys count before b = do
  key ← bucket_key keys before b
  if list_all (is_within count) b.numbers then Ok key else Err (errors.Place (length before))

-- the keys of buckets, behind those that were read
abbrev pub keys_read : List ℕ → ℕ → List Key → List Bucket → Result (List Key) TableErr
keys_read keys count before bs = read_all (bucket_read keys count) before bs

-- the first field of an entry that names nothing, of so many internal ids, providers, keys and kinds
unfoldable pub bad_field : ℕ → ℕ → ℕ → ℕ → Fields → Option ℕ
bad_field internals providers keys kinds e =
    if not (is_within internals e.internal) then Some 0
    else if not (is_within providers e.provider) then Some 1
    else if not (e.dep == nothing || is_within keys e.dep) then Some 2
    else if not (e.extra == nothing || nat_lt e.extra (2 ^ 31)) then Some 4
    else if not (is_within keys e.primary) then Some 5
    else if not (is_within kinds e.kind) then Some 6
    else None

-- the extra key that was read for an entry
abbrev pub extra_or : ℕ → Result (Key × ℕ) KeyErr → Result (Option Key) TableErr
extra_or place (Ok x) = Ok (Some x.0)
extra_or place (Err e) = Err (errors.Extra place)

-- the extra key at an entry's offset, or none
unfoldable pub extra_read : List ℕ → ℕ → ℕ → Result (Option Key) TableErr
extra_read extras place offset = if offset == nothing then Ok None else extra_or place (key_read extras offset)

-- the row of an entry with an extra key
abbrev pub row_of : Fields → Option Key → EntryRow
row_of e extra = record {
  internal = e.internal;
  provider = e.provider;
  dep = if e.dep == nothing then None else Some e.dep;
  dep_hash = cast_signed w32 e.dep_hash;
  extra = extra;
  primary = e.primary;
  kind = e.kind;
}

-- an entry none of whose fields is bad, as a row
abbrev pub row_or : List ℕ → ℕ → Fields → Option ℕ → Result EntryRow TableErr
row_or extras place e (Some field) = Err (errors.Index place field)
row_or extras place e None = do
  extra ← extra_read extras place e.extra
  Ok (row_of e extra)

unfoldable pub entry_read : Tables → List ℕ → ℕ → ℕ → Fields → Result EntryRow TableErr
entry_read tables extras keys place e = row_or extras place e (bad_field tables.internals tables.providers keys tables.kinds e)

-- the rows of entries, behind those that were read
abbrev pub entries_read : Tables → List ℕ → ℕ → List EntryRow → List Fields → Result (List EntryRow) TableErr
entries_read tables extras keys before es = read_all (λ others. entry_read tables extras keys (length others)) before es

abbrev pub numbers_in : Bucket → List ℕ
numbers_in b = b.numbers

-- the rows of the tables
unfoldable pub rows_read : Tables → Result Rows TableErr
rows_read tables = do
  parts ← parts_of tables
  keys ← keys_read parts.keys (length parts.entries) [] parts.buckets
  entries ← entries_read tables parts.extras (length keys) [] parts.entries
  Ok (record { keys = keys; buckets = map numbers_in parts.buckets; entries = entries })

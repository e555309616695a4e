-- Rows that were decoded can be encoded again where the new tables stay small, so encoding asks of rows nothing beyond what
-- decoding tests and the size of the tables. Tables of short texts stay small.
use Rattle.std.proofs.Common.{◌≡◌, ℕ, suc, ◌+◌, ◌-◌, ◌*◌, ◌^◌, ◌<◌, ◌≤◌, Bool, true, false, cond, eqb, List, [], ◌∷◌, length, drop, map, Option, Some, None, refl, sym, ap, subst, ◌∙◌, arith}
use Rattle.std.specs.Prelude.{◌||◌, slice_range, replicate}
use Rattle.std.specs.List.{flat_map, list_all, AllByRecursion}
use Rattle.std.specs.Int.{w32, to_le_bytes}
use Rattle.std.proofs.lemmas.List.{length-append, length-map, length-take, length-drop}
use Rattle.std.proofs.lemmas.List.Concat.{flat_map-cons}
use Rattle.base64.specs.Rfc4648.{encode_symbols, padding_len}
use Rattle.base64.specs.GeneralPurpose.{encode_of}
use Rattle.base64.specs.Engines.{standard}
use Rattle.addr_keys.specs.declared.key.Key.{Key}
use Rattle.addr_keys.specs.Format.{key_text, IsWritable, KeyAt}
use Rattle.addr_keys.proofs.FormLemmas.{is_writable, written_shortest}
use Rattle.addr_tables.specs.declared.rows.EntryRow.{EntryRow}
use Rattle.addr_tables.specs.declared.rows.Rows.{Rows}
use Rattle.addr_tables.specs.declared.rows.Tables.{Tables}
use Rattle.addr_tables.specs.declared.parts.Bucket.{Bucket}
use Rattle.addr_tables.specs.declared.parts.Fields.{Fields}
use Rattle.addr_tables.specs.Format.{bucket_numbers, field_numbers, bucket_table, entry_table, nothing, is_within}
use Rattle.addr_tables.specs.Faults.{row_of, numbers_in}
use Rattle.addr_tables.specs.Rows.{Beside, IsKeyOf, IsPlaced, IsExtra, IsRow, StandFor}
use Rattle.addr_tables.specs.Written.{key_bytes, buckets_from, option_text, extra_text, fields_from, IsLink, IsExtraWritable, CanWriteRow, CanEncode}
use Rattle.addr_tables.proofs.SectionLemmas.{seven_each}
use Rattle.addr_tables.proofs.WrittenLemmas.{two_each, length-table, length-fields}

-- ---- what decoding tested

beside_len : {A B : Type 0} (R : A → B → Type 0) (xs : List A) (ys : List B) → Beside R xs ys → length ys ≡ length xs
beside_len R [] [] is = refl
beside_len R [] (y ∷ ys) is = absurd is
beside_len R (x ∷ xs) [] is = absurd is
beside_len R (x ∷ xs) (y ∷ ys) is = ap suc (beside_len R xs ys is.1)

keys_writable : (bytes : List ℕ) (bs : List Bucket) (ks : List Key) → Beside (IsKeyOf bytes) bs ks → AllByRecursion IsWritable ks
keys_writable bytes [] [] is = tt
keys_writable bytes [] (k ∷ ks) is = absurd is
keys_writable bytes (b ∷ bs) [] is = tt
keys_writable bytes (b ∷ bs) (k ∷ ks) is = (is_writable k _ is.0.1.1.2, keys_writable bytes bs ks is.1)

within_each : (count : ℕ) (bs : List Bucket) → AllByRecursion (IsPlaced count) bs → AllByRecursion (λ ns. list_all (is_within count) ns ≡ true) (map numbers_in bs)
within_each count [] placed = tt
within_each count (b ∷ bs) placed = (placed.0.1, within_each count bs placed.1)

link_of : (keys n : ℕ) (t : Bool) → eqb n nothing ≡ t → (t || is_within keys n) ≡ true → IsLink keys (cond t None (Some n))
link_of keys n true e is = tt
link_of keys n false e is = is

extra_writable : (extras : List ℕ) (offset : ℕ) (extra : Option Key) → IsExtra extras offset extra → IsExtraWritable extra
extra_writable extras offset None is = tt
extra_writable extras offset (Some key) is = is_writable key _ is.1.1.2

row_can : (tables : Tables) (extras : List ℕ) (keys : ℕ) (e : Fields) (row : EntryRow) → IsRow tables extras keys e row → CanWriteRow tables.internals tables.providers keys tables.kinds row
row_can tables extras keys e row is =
    let made = row_of e row.extra in
    let can : CanWriteRow tables.internals tables.providers keys tables.kinds made = record {
      internal = is.named.internal;
      provider = is.named.provider;
      dep = link_of keys e.dep (eqb e.dep nothing) refl is.named.dep;
      primary = is.named.primary;
      kind = is.named.kind;
      extra = extra_writable extras e.extra row.extra is.extra;
    } in
    subst (CanWriteRow tables.internals tables.providers keys tables.kinds) (sym is.same) can

rows_can : (tables : Tables) (extras : List ℕ) (keys : ℕ) (es : List Fields) (rows : List EntryRow) → Beside (IsRow tables extras keys) es rows → AllByRecursion (CanWriteRow tables.internals tables.providers keys tables.kinds) rows
rows_can tables extras keys [] [] is = tt
rows_can tables extras keys [] (r ∷ rs) is = absurd is
rows_can tables extras keys (e ∷ es) [] is = tt
rows_can tables extras keys (e ∷ es) (r ∷ rs) is = (row_can tables extras keys e r is.0, rows_can tables extras keys es rs is.1)

-- the tables that would be written are below 2^31 bytes
pub record AreSmall (rows : Rows) : Type 0 where
  pub key : length (key_bytes rows.keys) < 2 ^ 31
  pub bucket : length (bucket_table (buckets_from 4 rows.keys rows.buckets)) < 2 ^ 31
  pub entry : length (entry_table (fields_from 0 rows.entries)) < 2 ^ 31
  pub extra : length (flat_map extra_text rows.entries) < 2 ^ 31

pub decoded_can : (tables : Tables) (rows : Rows) → StandFor tables rows → AreSmall rows → CanEncode rows tables.internals tables.providers tables.kinds
decoded_can tables rows is small =
    let many = beside_len (IsKeyOf is.parts.keys) is.parts.buckets rows.keys is.keys in
    let rows-many = beside_len (IsRow tables is.parts.extras (length rows.keys)) is.parts.entries rows.entries is.entries in
    record {
      paired = ap length is.buckets ∙ length-map is.parts.buckets numbers_in ∙ sym many;
      distinct = is.distinct;
      keys = keys_writable is.parts.keys is.parts.buckets rows.keys is.keys;
      buckets = rw (is.buckets, rows-many) (within_each (length is.parts.entries) is.parts.buckets is.placed);
      entries = rows_can tables is.parts.extras (length rows.keys) is.parts.entries rows.entries is.entries;
      key_small = small.key;
      bucket_small = small.bucket;
      entry_small = small.entry;
      extra_small = small.extra;
    }

-- ---- short texts

symbols_longer : (t bytes : List ℕ) → length bytes ≤ length (encode_symbols t bytes)
unfolding encode_symbols
symbols_longer t [] = omega arith
symbols_longer t (a ∷ []) = omega arith
symbols_longer t (a ∷ b ∷ []) = omega arith
symbols_longer t (a ∷ b ∷ c ∷ rest) = omega (arith, symbols_longer t rest)

text_longer : (text bytes : List ℕ) → text ≡ encode_of standard bytes → length bytes ≤ length text
text_longer text bytes is =
    let pad = replicate (padding_len (length bytes)) standard.padding.value in
    omega (arith, ap length is, length-append (encode_symbols standard.encode_table bytes) pad, symbols_longer standard.encode_table bytes)

cut_shorter : (bytes : List ℕ) (at end : ℕ) → length (slice_range bytes at end) ≤ length bytes
cut_shorter bytes at end = omega (arith, length-take (end - at) (drop at bytes), length-drop at bytes)

key_fits : (bytes : List ℕ) (at end : ℕ) (key : Key) → KeyAt bytes at key end → length (key_text key) ≤ length bytes
key_fits bytes at end key is = omega (arith, written_shortest key _ is.2, cut_shorter bytes at end)

keys_fit : (bytes : List ℕ) (m : ℕ) (bs : List Bucket) (ks : List Key) → length bytes ≤ m → Beside (IsKeyOf bytes) bs ks → length (flat_map key_text ks) ≤ length ks * m
keys_fit bytes m [] [] le is = omega arith
keys_fit bytes m [] (k ∷ ks) le is = absurd is
keys_fit bytes m (b ∷ bs) [] le is = absurd is
keys_fit bytes m (b ∷ bs) (k ∷ ks) le is =
    let len = ap length (flat_map-cons key_text k ks) ∙ length-append (key_text k) (flat_map key_text ks) in
    let first = key_fits bytes b.offset is.0.1.0 k is.0.1.1 in
    let others = keys_fit bytes m bs ks le is.1 in
    omega arith

extra_fits : (bytes : List ℕ) (offset : ℕ) (extra : Option Key) → IsExtra bytes offset extra → length (option_text extra) ≤ length bytes
extra_fits bytes offset None is = omega arith
extra_fits bytes offset (Some key) is = key_fits bytes offset is.1.0 key is.1.1

extras_fit : (tables : Tables) (bytes : List ℕ) (m keys : ℕ) (es : List Fields) (rows : List EntryRow) → length bytes ≤ m → Beside (IsRow tables bytes keys) es rows → length (flat_map extra_text rows) ≤ length rows * m
extras_fit tables bytes m keys [] [] le is = omega arith
extras_fit tables bytes m keys [] (r ∷ rs) le is = absurd is
extras_fit tables bytes m keys (e ∷ es) [] le is = absurd is
extras_fit tables bytes m keys (e ∷ es) (r ∷ rs) le is =
    let len = ap length (flat_map-cons extra_text r rs) ∙ length-append (extra_text r) (flat_map extra_text rs) in
    let first = extra_fits bytes e.extra r.extra is.0.extra in
    let others = extras_fit tables bytes m keys es rs le is.1 in
    omega arith

same_numbers : (bytes : List ℕ) (at : ℕ) (bs : List Bucket) (ks : List Key) → Beside (IsKeyOf bytes) bs ks → length (flat_map bucket_numbers (buckets_from at ks (map numbers_in bs))) ≡ length (flat_map bucket_numbers bs)
unfolding buckets_from
same_numbers bytes at [] [] is = refl
same_numbers bytes at [] (k ∷ ks) is = absurd is
same_numbers bytes at (b ∷ bs) [] is = absurd is
same_numbers bytes at (b ∷ bs) (k ∷ ks) is =
    let made : Bucket = record { offset = at; numbers = b.numbers } in
    let left = ap length (flat_map-cons bucket_numbers made (buckets_from (at + length (key_text k)) ks (map numbers_in bs))) in
    let right = ap length (flat_map-cons bucket_numbers b bs) in
    let others = same_numbers bytes (at + length (key_text k)) bs ks is.1 in
    let left-sum = length-append (bucket_numbers made) (flat_map bucket_numbers (buckets_from (at + length (key_text k)) ks (map numbers_in bs))) in
    let right-sum = length-append (bucket_numbers b) (flat_map bucket_numbers bs) in
    omega arith

bucket_table_len : (bs : List Bucket) → length (bucket_table bs) ≡ 4 * (1 + length (flat_map bucket_numbers bs))
unfolding bucket_table
bucket_table_len bs = length-table (length bs ∷ flat_map bucket_numbers bs) ∙ omega arith

entry_table_len : (es : List Fields) → length (entry_table es) ≡ 4 * (1 + 7 * length es)
unfolding entry_table
entry_table_len es = length-table (length es ∷ flat_map field_numbers es) ∙ omega (arith, seven_each es)

key_table_len : (ks : List Key) → length (key_bytes ks) ≡ 4 + length (flat_map key_text ks)
unfolding key_bytes
key_table_len ks = length-append (to_le_bytes w32 (length ks)) (flat_map key_text ks)

-- texts of a few hundred bytes
pub record AreShort (tables : Tables) : Type 0 where
  pub key : length tables.key < 2 ^ 14
  pub bucket : length tables.bucket < 2 ^ 14
  pub entry : length tables.entry < 2 ^ 14
  pub extra : length tables.extra < 2 ^ 14

short_small : (tables : Tables) (rows : Rows) → StandFor tables rows → AreShort tables → AreSmall rows
short_small tables rows is short =
    let bs = is.parts.buckets in
    let es = is.parts.entries in
    let many = beside_len (IsKeyOf is.parts.keys) bs rows.keys is.keys in
    let rows-many = beside_len (IsRow tables is.parts.extras (length rows.keys)) es rows.entries is.entries in
    let key-text = text_longer tables.key is.parts.keys is.spelled.key in
    let bucket-text = text_longer tables.bucket (bucket_table bs) is.spelled.bucket in
    let entry-text = text_longer tables.entry (entry_table es) is.spelled.entry in
    let extra-text = text_longer tables.extra is.parts.extras is.spelled.extra in
    let keys = keys_fit is.parts.keys (2 ^ 14) bs rows.keys (omega (arith, short.key)) is.keys in
    let extras = extras_fit tables is.parts.extras (2 ^ 14) (length rows.keys) es rows.entries (omega (arith, short.extra)) is.entries in
    let same : length (flat_map bucket_numbers (buckets_from 4 rows.keys rows.buckets)) ≡ length (flat_map bucket_numbers bs) = rw (is.buckets) (same_numbers is.parts.keys 4 bs rows.keys is.keys) in
    let bucket-len = bucket_table_len bs in
    let entry-len = entry_table_len es in
    record {
      key = omega (arith, key_table_len rows.keys, two_each bs, short.bucket);
      bucket = omega (arith, bucket_table_len (buckets_from 4 rows.keys rows.buckets), short.bucket);
      entry = omega (arith, entry_table_len (fields_from 0 rows.entries), length-fields 0 rows.entries, short.entry);
      extra = omega (arith, short.entry);
    }

pub short_can : (tables : Tables) (rows : Rows) → StandFor tables rows → AreShort tables → CanEncode rows tables.internals tables.providers tables.kinds
short_can tables rows is short = decoded_can tables rows is (short_small tables rows is short)

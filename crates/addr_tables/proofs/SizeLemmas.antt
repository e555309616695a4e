-- The sizes of tables as sums over the rows: what is measured is what is written.
use Rattle.std.proofs.Common.{◌≡◌, ℕ, ◌+◌, ◌*◌, ◌<◌, ◌^◌, ◌↔◌, ◌&&◌, nat_lt, IsTrue, true, List, [], ◌∷◌, length, sum_by, refl, ap, ◌∙◌, arith, length-append}
use Rattle.std.specs.List.{flat_map}
use Rattle.std.specs.Int.{w32, to_le_bytes}
use Rattle.std.proofs.lemmas.Bool.{and_parts, ltb-true, lt-ltb}
use Rattle.std.proofs.lemmas.List.Concat.{flat_map-cons, length-flat_map}
use Rattle.std.proofs.lemmas.List.Sums.{sum_by-cons}
use Rattle.addr_keys.specs.declared.key.Key.{Key}
use Rattle.addr_keys.specs.Format.{key_text}
use Rattle.addr_tables.specs.Format.{bucket_numbers, field_numbers, bucket_table, entry_table}
use Rattle.addr_tables.specs.Written.{key_bytes, buckets_from, extra_text, fields_from}
use Rattle.addr_tables.specs.declared.parts.Bucket.{Bucket}
use Rattle.addr_tables.specs.declared.rows.EntryRow.{EntryRow}
use Rattle.addr_tables.proofs.SectionLemmas.{seven_each}
use Rattle.addr_tables.proofs.WrittenLemmas.{length-table, length-fields}
use Rattle.addr_tables.specs.declared.rows.Rows.{Rows as TableRows}
use Rattle.addr_tables.specs.Sizes.{key_size, bucket_size, extra_size, saturated, AreSmall}

-- ---- tables

pub key_table-size : (keys : List Key) → length (key_bytes keys) ≡ 4 + sum_by key_size keys
unfolding key_bytes
key_table-size keys = length-append (to_le_bytes w32 (length keys)) (flat_map key_text keys) ∙ ap (λ n. 4 + n) (length-flat_map key_text keys)

buckets-size : (at : ℕ) (ks : List Key) (nss : List (List ℕ)) → length nss ≡ length ks → 4 * length (flat_map bucket_numbers (buckets_from at ks nss)) ≡ sum_by bucket_size nss
unfolding buckets_from
buckets-size at [] [] same = refl
buckets-size at [] (ns ∷ nss) same = absurd (omega (arith, same))
buckets-size at (k ∷ ks) [] same = absurd (omega (arith, same))
buckets-size at (k ∷ ks) (ns ∷ nss) same =
    let later = buckets_from (at + length (key_text k)) ks nss in
    let bucket : Bucket = record { offset = at; numbers = ns } in
    let parts = ap length (flat_map-cons bucket_numbers bucket later) ∙ length-append (bucket_numbers bucket) (flat_map bucket_numbers later) in
    omega (arith, parts, sum_by-cons bucket_size ns nss, buckets-size (at + length (key_text k)) ks nss (omega (arith, same)))

pub bucket_table-size : (keys : List Key) (nss : List (List ℕ)) → length nss ≡ length keys → length (bucket_table (buckets_from 4 keys nss)) ≡ 4 + sum_by bucket_size nss
unfolding bucket_table
bucket_table-size keys nss same =
    let bs = buckets_from 4 keys nss in
    omega (arith, length-table (length bs ∷ flat_map bucket_numbers bs), buckets-size 4 keys nss same)

pub entry_table-size : (rows : List EntryRow) → length (entry_table (fields_from 0 rows)) ≡ 4 + 28 * length rows
unfolding entry_table
entry_table-size rows =
    let es = fields_from 0 rows in
    omega (arith, length-table (length es ∷ flat_map field_numbers es), seven_each es, length-fields 0 rows)

pub extra_table-size : (rows : List EntryRow) → length (flat_map extra_text rows) ≡ sum_by extra_size rows
extra_table-size rows = length-flat_map extra_text rows

-- ---- what is measured

record AreMeasured (rows : TableRows) (keys buckets entries extras : ℕ) : Type 0 where
  keys_are : keys ≡ saturated (length (key_bytes rows.keys))
  buckets_are : buckets ≡ saturated (length (bucket_table (buckets_from 4 rows.keys rows.buckets)))
  entries_are : entries ≡ saturated (length (entry_table (fields_from 0 rows.entries)))
  extras_are : extras ≡ saturated (length (flat_map extra_text rows.entries))

below : (n size : ℕ) → size ≡ saturated n → nat_lt size (2 ^ 31) ≡ true → n < 2 ^ 31
below n size is less = omega (arith, is, ltb-true size (2 ^ 31) less)

measured : (n size : ℕ) → size ≡ saturated n → n < 2 ^ 31 → nat_lt size (2 ^ 31) ≡ true
measured n size is less = lt-ltb size (2 ^ 31) (omega (arith, is, less))

small_from : (rows : TableRows) (keys buckets entries extras : ℕ) → AreMeasured rows keys buckets entries extras → IsTrue (nat_lt keys (2 ^ 31) && (nat_lt buckets (2 ^ 31) && (nat_lt entries (2 ^ 31) && (nat_lt extras (2 ^ 31) && true)))) → AreSmall rows
small_from rows keys buckets entries extras are less =
    let first = and_parts (nat_lt keys (2 ^ 31)) (nat_lt buckets (2 ^ 31) && (nat_lt entries (2 ^ 31) && (nat_lt extras (2 ^ 31) && true))) less in
    let second = and_parts (nat_lt buckets (2 ^ 31)) (nat_lt entries (2 ^ 31) && (nat_lt extras (2 ^ 31) && true)) first.1 in
    let third = and_parts (nat_lt entries (2 ^ 31)) (nat_lt extras (2 ^ 31) && true) second.1 in
    let fourth = and_parts (nat_lt extras (2 ^ 31)) true third.1 in
    record {
      key_small = below (length (key_bytes rows.keys)) keys are.keys_are first.0;
      bucket_small = below (length (bucket_table (buckets_from 4 rows.keys rows.buckets))) buckets are.buckets_are second.0;
      entry_small = below (length (entry_table (fields_from 0 rows.entries))) entries are.entries_are third.0;
      extra_small = below (length (flat_map extra_text rows.entries)) extras are.extras_are fourth.0;
    }

found_small : (rows : TableRows) (keys buckets entries extras : ℕ) → AreMeasured rows keys buckets entries extras → AreSmall rows → IsTrue (nat_lt keys (2 ^ 31) && (nat_lt buckets (2 ^ 31) && (nat_lt entries (2 ^ 31) && (nat_lt extras (2 ^ 31) && true))))
found_small rows keys buckets entries extras are small =
    let first = measured (length (key_bytes rows.keys)) keys are.keys_are small.key_small in
    let second = measured (length (bucket_table (buckets_from 4 rows.keys rows.buckets))) buckets are.buckets_are small.bucket_small in
    let third = measured (length (entry_table (fields_from 0 rows.entries))) entries are.entries_are small.entry_small in
    let fourth = measured (length (flat_map extra_text rows.entries)) extras are.extras_are small.extra_small in
    rw (first, second, third, fourth) refl

pub all_small : (rows : TableRows) (keys buckets entries extras : ℕ) → length rows.buckets ≡ length rows.keys → keys ≡ saturated (saturated (sum_by key_size rows.keys) + 4) → buckets ≡ saturated (saturated (sum_by bucket_size rows.buckets) + 4)
    → entries ≡ saturated (saturated (length rows.entries * 28) + 4) → extras ≡ saturated (sum_by extra_size rows.entries) → IsTrue (nat_lt keys (2 ^ 31) && (nat_lt buckets (2 ^ 31) && (nat_lt entries (2 ^ 31) && (nat_lt extras (2 ^ 31) && true)))) ↔ AreSmall rows
all_small rows keys buckets entries extras paired k b e x =
    let key = key_table-size rows.keys in
    let bucket = bucket_table-size rows.keys rows.buckets paired in
    let entry = entry_table-size rows.entries in
    let extra = extra_table-size rows.entries in
    let are : AreMeasured rows keys buckets entries extras = record { keys_are = omega (arith, k, key); buckets_are = omega (arith, b, bucket); entries_are = omega (arith, e, entry); extras_are = omega (arith, x, extra) } in
    (small_from rows keys buckets entries extras are, found_small rows keys buckets entries extras are)

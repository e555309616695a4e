-- No fault of tables is want of memory.
use Rattle.std.proofs.Common.{ℕ, ◌^◌, ltb, List, [], ◌∷◌, length, Option, Some, None, Result, Ok, Err}
use Rattle.std.specs.Prelude.{◌≢◌}
use Rattle.base64.specs.GeneralPurpose.{decode_of}
use Rattle.base64.specs.Engines.{standard}
use Rattle.base64.specs.declared.decode.DecodeError.{DecodeError}
use Rattle.addr_reading.specs.Gives.{IsNamed}
use Rattle.addr_reading.proofs.StepLaws.{ok_named, err_named, if_named, then_named}
use Rattle.addr_reading.proofs.ListLaws.{all_named, times_named}
use Rattle.addr_keys.specs.declared.key.Key.{Key}
use Rattle.addr_keys.specs.declared.error.KeyErr.{KeyErr}
use Rattle.addr_tables.specs.declared.error.TableErr.TheVariants as errors
use Rattle.addr_tables.specs.declared.rows.Tables.{Tables}
use Rattle.addr_tables.specs.declared.parts.Bucket.{Bucket}
use Rattle.addr_tables.specs.declared.parts.Fields.{Fields}
use Rattle.addr_tables.specs.Faults.{bytes_or, text_bytes, count_first, bucket_first, buckets_of, entries_of, key_count, parts_of, new_key, bucket_key, bucket_read, extra_or, extra_read, row_or, entry_read, rows_read}

not_base64 : (which : ℕ) → errors.Base64 which ≢ errors.NoMemory
not_base64 which same = absurd cc

not_short : (which : ℕ) → errors.Short which ≢ errors.NoMemory
not_short which same = absurd cc

not_counts : (keys buckets : ℕ) → errors.Counts keys buckets ≢ errors.NoMemory
not_counts keys buckets same = absurd cc

not_index : (entry field : ℕ) → errors.Index entry field ≢ errors.NoMemory
not_index entry field same = absurd cc

not_key : (bucket : ℕ) → errors.Key bucket ≢ errors.NoMemory
not_key bucket same = absurd cc

not_trailing : (which : ℕ) → errors.Trailing which ≢ errors.NoMemory
not_trailing which same = absurd cc

not_place : (bucket : ℕ) → errors.Place bucket ≢ errors.NoMemory
not_place bucket same = absurd cc

not_extra : (entry : ℕ) → errors.Extra entry ≢ errors.NoMemory
not_extra entry same = absurd cc

-- ---- texts and tables

decoded_named : (which : ℕ) (r : Result (List ℕ) DecodeError) → IsNamed errors.NoMemory (bytes_or which r)
decoded_named which (Ok bytes) = ok_named errors.NoMemory _
decoded_named which (Err e) = err_named errors.NoMemory _ (not_base64 _)

text_named : (which : ℕ) (text : List ℕ) → IsNamed errors.NoMemory (text_bytes which text)
unfolding text_bytes
text_named which text = decoded_named which (decode_of standard text)

count_named : (which : ℕ) (numbers : List ℕ) → IsNamed errors.NoMemory (count_first which numbers)
unfolding count_first
count_named which [] = err_named errors.NoMemory _ (not_short _)
count_named which (n ∷ rest) = if_named errors.NoMemory _ _ _ (ok_named errors.NoMemory _) (err_named errors.NoMemory _ (not_short _))

bucket_first_named : (numbers : List ℕ) → IsNamed errors.NoMemory (bucket_first numbers)
unfolding bucket_first
bucket_first_named [] = err_named errors.NoMemory _ (not_short _)
bucket_first_named (offset ∷ []) = err_named errors.NoMemory _ (not_short _)
bucket_first_named (offset ∷ n ∷ rest) = if_named errors.NoMemory _ _ _ (ok_named errors.NoMemory _) (err_named errors.NoMemory _ (not_short _))

buckets_named : (bytes : List ℕ) → IsNamed errors.NoMemory (buckets_of bytes)
unfolding buckets_of
buckets_named bytes = then_named errors.NoMemory _ _ (count_named 1 _) (λ n. then_named errors.NoMemory _ _ (times_named errors.NoMemory _ (λ before rest. bucket_first_named rest) n.0 [] n.1) (λ found. if_named errors.NoMemory _ _ _ (ok_named errors.NoMemory _) (err_named errors.NoMemory _ (not_trailing _))))

entry_table_named : (bytes : List ℕ) → IsNamed errors.NoMemory (entries_of bytes)
unfolding entries_of
entry_table_named bytes = then_named errors.NoMemory _ _ (count_named 2 _) (λ n. if_named errors.NoMemory _ _ _ (err_named errors.NoMemory _ (not_short _)) (if_named errors.NoMemory _ _ _ (ok_named errors.NoMemory _) (err_named errors.NoMemory _ (not_trailing _))))

key_count_named : (keys : List ℕ) → IsNamed errors.NoMemory (key_count keys)
unfolding key_count
key_count_named keys = then_named errors.NoMemory _ _ (count_named 0 _) (λ n. ok_named errors.NoMemory _)

parts_named : (tables : Tables) → IsNamed errors.NoMemory (parts_of tables)
unfolding parts_of
parts_named tables =
    then_named errors.NoMemory _ _ (text_named 0 tables.key) (λ keys. then_named errors.NoMemory _ _ (text_named 1 tables.bucket) (λ buckets. then_named errors.NoMemory _ _ (text_named 2 tables.entry) (λ entries. then_named errors.NoMemory _ _ (text_named 3 tables.extra) (λ extras.
    then_named errors.NoMemory _ _ (key_count_named keys) (λ count. then_named errors.NoMemory _ _ (buckets_named buckets) (λ found. then_named errors.NoMemory _ _ (entry_table_named entries) (λ rows. if_named errors.NoMemory _ _ _ (ok_named errors.NoMemory _) (err_named errors.NoMemory _ (not_counts _ _)))))))))

-- ---- keys and rows

new_key_named : (before : List Key) (r : Result (Key × ℕ) KeyErr) → IsNamed errors.NoMemory (new_key before r)
new_key_named before (Ok x) = if_named errors.NoMemory _ _ _ (err_named errors.NoMemory _ (not_key _)) (ok_named errors.NoMemory _)
new_key_named before (Err e) = err_named errors.NoMemory _ (not_key _)

bucket_key_named : (keys : List ℕ) (before : List Key) (b : Bucket) → IsNamed errors.NoMemory (bucket_key keys before b)
unfolding bucket_key
bucket_key_named keys before b = if_named errors.NoMemory (ltb b.offset (2 ^ 31)) _ _ (new_key_named before _) (err_named errors.NoMemory _ (not_key _))

bucket_named : (keys : List ℕ) (count : ℕ) (before : List Key) (b : Bucket) → IsNamed errors.NoMemory (bucket_read keys count before b)
unfolding bucket_read
bucket_named keys count before b = then_named errors.NoMemory _ _ (bucket_key_named keys before b) (λ key. if_named errors.NoMemory _ _ _ (ok_named errors.NoMemory _) (err_named errors.NoMemory _ (not_place _)))

extra_or_named : (place : ℕ) (r : Result (Key × ℕ) KeyErr) → IsNamed errors.NoMemory (extra_or place r)
extra_or_named place (Ok x) = ok_named errors.NoMemory _
extra_or_named place (Err e) = err_named errors.NoMemory _ (not_extra _)

extra_named : (extras : List ℕ) (place offset : ℕ) → IsNamed errors.NoMemory (extra_read extras place offset)
unfolding extra_read
extra_named extras place offset = if_named errors.NoMemory _ _ _ (ok_named errors.NoMemory _) (extra_or_named place _)

row_named : (extras : List ℕ) (place : ℕ) (e : Fields) (bad : Option ℕ) → IsNamed errors.NoMemory (row_or extras place e bad)
row_named extras place e (Some field) = err_named errors.NoMemory _ (not_index _ _)
row_named extras place e None = then_named errors.NoMemory _ _ (extra_named extras place e.extra) (λ extra. ok_named errors.NoMemory _)

entry_named : (tables : Tables) (extras : List ℕ) (keys place : ℕ) (e : Fields) → IsNamed errors.NoMemory (entry_read tables extras keys place e)
unfolding entry_read
entry_named tables extras keys place e = row_named extras place e _

pub rows_named : (tables : Tables) → IsNamed errors.NoMemory (rows_read tables)
unfolding rows_read
rows_named tables = then_named errors.NoMemory _ _ (parts_named tables) (λ parts. then_named errors.NoMemory _ _ (all_named errors.NoMemory _ (bucket_named parts.keys _) [] parts.buckets) (λ keys. then_named errors.NoMemory _ _ (all_named errors.NoMemory _ (λ before e. entry_named tables parts.extras (length keys) (length before) e) [] parts.entries) (λ entries. ok_named errors.NoMemory _)))

-- The two laws of decoding: what is decoded is what the tables stand for, and what they stand for is decoded.
use Rattle.std.proofs.Common.{◌≡◌, ℕ, true, eqb, List, [], ◌∷◌, length, map, Ok, refl, sym, ap, subst, ◌∙◌, eq-eqb}
use Rattle.std.specs.List.{list_all, AllByRecursion}
use Rattle.std.specs.Int.{w32, to_le_bytes}
use Rattle.std.proofs.lemmas.Bool.{eqb-true}
use Rattle.base64.specs.GeneralPurpose.{encode_of}
use Rattle.base64.specs.Engines.{standard}
use Rattle.addr_tables.specs.declared.error.TableErr.TheVariants as errors
use Rattle.addr_tables.specs.declared.rows.Rows.{Rows}
use Rattle.addr_tables.specs.declared.rows.Tables.{Tables}
use Rattle.addr_tables.specs.declared.parts.Bucket.{Bucket}
use Rattle.addr_tables.specs.declared.parts.Parts.{Parts}
use Rattle.addr_tables.specs.Format.{bucket_table, entry_table, is_within}
use Rattle.addr_tables.specs.Faults.{text_bytes, key_count, buckets_of, entries_of, parts_of, keys_read, entries_read, numbers_in, rows_read}
use Rattle.addr_tables.specs.Rows.{IsPlaced, AreSpelled, AreTexts, StandFor}
use Rattle.addr_reading.proofs.StepLaws.{bind_ok, ok_is, chosen}
use Rattle.addr_tables.proofs.Steps.{text_taken, text_holds_bytes, text_again, IsBytes-table}
use Rattle.addr_tables.proofs.SectionLemmas.{IsFew, bucket_table_taken, bucket_table_again, entry_table_taken, entry_table_again, key_count_taken, key_count_again}
use Rattle.addr_tables.proofs.RowLemmas.{keys_again, keys_taken, all_keys, all_rows, entries_again, entries_taken}

-- ---- the parts

parts_again : (tables : Tables) (parts : Parts) → AreSpelled tables parts → AllByRecursion IsFew parts.buckets → parts_of tables ≡ Ok parts
unfolding parts_of bucket_table entry_table
parts_again tables parts is few =
    let keys = text_again 0 tables.key parts.keys is.bytes.0 is.key in
    let buckets = text_again 1 tables.bucket (bucket_table parts.buckets) (IsBytes-table _) is.bucket in
    let entries = text_again 2 tables.entry (entry_table parts.entries) (IsBytes-table _) is.entry in
    let extras = text_again 3 tables.extra parts.extras is.bytes.1 is.extra in
    let count = key_count_again parts.keys (length parts.buckets) is.few.0 is.count in
    let found = bucket_table_again parts.buckets few is.few.0 is.numbers.0 in
    let rows = entry_table_again parts.entries is.few.1 is.numbers.1 in
    let same : eqb (length parts.buckets) (length parts.buckets) ≡ true = eq-eqb _ _ refl in
    rw (keys, buckets, entries, extras, count, found, rows, same) refl

-- the parts that were read spell the tables
pub record TakesParts (tables : Tables) (parts : Parts) : Type 0 where
  pub spelled : AreSpelled tables parts
  pub few : AllByRecursion IsFew parts.buckets

parts_taken : (tables : Tables) (parts : Parts) → AreTexts tables → parts_of tables ≡ Ok parts → TakesParts tables parts
unfolding parts_of
parts_taken tables parts texts e =
    let a = bind_ok (text_bytes 0 tables.key) _ parts e in
    let b = bind_ok (text_bytes 1 tables.bucket) _ parts a.2 in
    let c = bind_ok (text_bytes 2 tables.entry) _ parts b.2 in
    let d = bind_ok (text_bytes 3 tables.extra) _ parts c.2 in
    let n = bind_ok (key_count a.0) _ parts d.2 in
    let f = bind_ok (buckets_of b.0) _ parts n.2 in
    let g = bind_ok (entries_of c.0) _ parts f.2 in
    let made : Parts = record { keys = a.0; buckets = f.0; entries = g.0; extras = d.0 } in
    let t = chosen (eqb n.0 (length f.0)) (errors.Counts n.0 (length f.0)) made parts g.2 in
    let keys = text_holds_bytes 0 tables.key a.0 texts.0 a.1 in
    let extras = text_holds_bytes 3 tables.extra d.0 texts.3 d.1 in
    let count = key_count_taken a.0 n.0 keys n.1 in
    let buckets = bucket_table_taken b.0 f.0 (text_holds_bytes 1 tables.bucket b.0 texts.1 b.1) f.1 in
    let entries = entry_table_taken c.0 g.0 (text_holds_bytes 2 tables.entry c.0 texts.2 c.1) g.1 in
    subst (TakesParts tables) t.1 (record {
      spelled = record {
        key = text_taken 0 tables.key a.0 texts.0 a.1;
        bucket = text_taken 1 tables.bucket b.0 texts.1 b.1 ∙ ap (encode_of standard) buckets.spelled;
        entry = text_taken 2 tables.entry c.0 texts.2 c.1 ∙ ap (encode_of standard) entries.spelled;
        extra = text_taken 3 tables.extra d.0 texts.3 d.1;
        count = count.0 ∙ ap (to_le_bytes w32) (eqb-true _ _ t.0);
        bytes = (keys, extras);
        numbers = (buckets.small, entries.small);
        few = (buckets.many, entries.many);
      };
      few = buckets.few;
    })

-- ---- the rows

both_placed : (count : ℕ) (bs : List Bucket) → AllByRecursion IsFew bs → AllByRecursion (λ b. list_all (is_within count) b.numbers ≡ true) bs → AllByRecursion (IsPlaced count) bs
both_placed count [] few placed = tt
both_placed count (b ∷ bs) few placed = ((few.0, placed.0), both_placed count bs few.1 placed.1)

few_of_placed : (count : ℕ) (bs : List Bucket) → AllByRecursion (IsPlaced count) bs → AllByRecursion IsFew bs
few_of_placed count [] placed = tt
few_of_placed count (b ∷ bs) placed = (placed.0.0, few_of_placed count bs placed.1)

pub is_found : (tables : Tables) (rows : Rows) → AreTexts tables → rows_read tables ≡ Ok rows → StandFor tables rows
unfolding rows_read
is_found tables rows texts e =
    let p = bind_ok (parts_of tables) _ rows e in
    let parts = p.0 in
    let k = bind_ok (keys_read parts.keys (length parts.entries) [] parts.buckets) _ rows p.2 in
    let r = bind_ok (entries_read tables parts.extras (length k.0) [] parts.entries) _ rows k.2 in
    let t = parts_taken tables parts texts p.1 in
    let keys = keys_taken parts.keys (length parts.entries) [] parts.buckets k.0 t.spelled.bytes.0 tt k.1 in
    let entries = entries_taken tables parts.extras (length k.0) [] parts.entries r.0 t.spelled.bytes.1 r.1 in
    let made : Rows = record { keys = k.0; buckets = map numbers_in parts.buckets; entries = r.0 } in
    subst (StandFor tables) (ok_is made rows r.2) (record {
      parts = parts;
      spelled = t.spelled;
      keys = all_keys parts.keys (length parts.entries) parts.buckets k.0 keys;
      distinct = keys.distinct;
      placed = both_placed (length parts.entries) parts.buckets t.few keys.placed;
      buckets = refl;
      entries = all_rows tables parts.extras (length k.0) parts.entries r.0 entries;
    })

pub is_read : (tables : Tables) (rows : Rows) → StandFor tables rows → rows_read tables ≡ Ok rows
unfolding rows_read
is_read tables rows is =
    let parts = parts_again tables is.parts is.spelled (few_of_placed (length is.parts.entries) is.parts.buckets is.placed) in
    let keys = keys_again is.parts.keys (length is.parts.entries) [] is.parts.buckets rows.keys is.keys tt is.distinct is.placed in
    let entries = entries_again tables is.parts.extras (length rows.keys) [] is.parts.entries rows.entries is.entries in
    rw (parts, keys, entries) (ap (λ (b : List (List ℕ)). Ok (record { keys = rows.keys; buckets = b; entries = rows.entries })) (sym is.buckets))

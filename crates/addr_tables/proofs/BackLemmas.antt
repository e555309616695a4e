-- The tables that are written stand for the rows that they were written from: each key and each extra object stands where its
-- bucket or entry says, and each number is one of four bytes.
use Rattle.std.proofs.Common.{◌≡◌, ℕ, ◌+◌, ◌^◌, ◌<◌, Bool, true, false, cond, ltb, eqb, List, [], ◌∷◌, ◌++◌, length, take, map, Option, Some, None, Result, Ok, Err, refl, sym, ap, subst, ◌∙◌, append_assoc, arith}
use Rattle.std.specs.Prelude.{◌||◌, ℤ, FitsSigned, IfOk}
use Rattle.std.specs.List.{flat_map, list_all, AllByRecursion}
use Rattle.std.specs.Int.{w32, to_le_bytes, cast_signed, cast_unsigned}
use Rattle.std.proofs.lemmas.Bool.{ltb-true, lt-ltb, eqb-true}
use Rattle.std.proofs.lemmas.Int.{to_z-of_z, ints}
use Rattle.std.proofs.lemmas.List.{length-append, take_at}
use Rattle.std.proofs.lemmas.List.Concat.{flat_map-cons}
use Rattle.base64.specs.GeneralPurpose.{IsBytes}
use Rattle.addr_base.specs.declared.memory.NoMemory.{NoMemory}
use Rattle.addr_keys.specs.declared.key.Key.{Key}
use Rattle.addr_keys.specs.Format.{key_text, IsForm}
use Rattle.addr_keys.proofs.PlaceLemmas.{IsBytes-append, four_bytes, form_is_bytes, stands_at}
use Rattle.addr_tables.specs.declared.rows.EntryRow.{EntryRow}
use Rattle.addr_tables.specs.declared.rows.Rows.{Rows}
use Rattle.addr_tables.specs.declared.rows.Tables.{Tables}
use Rattle.addr_tables.specs.declared.parts.Bucket.{Bucket}
use Rattle.addr_tables.specs.Format.{bucket_numbers, field_numbers, bucket_table, nothing, is_within}
use Rattle.addr_tables.specs.Faults.{row_of, numbers_in, rows_read}
use Rattle.addr_tables.specs.Rows.{Beside, AreNumbers, IsKeyOf, IsPlaced, IsExtra, IsRow, StandFor}
use Rattle.addr_tables.specs.Written.{key_bytes, buckets_from, option_text, extra_text, extra_place, link_number, fields_at, fields_from, written_parts, written, IsLink, HasForm, IsGoodRow, CanWriteRow, CanEncode}
use Rattle.addr_tables.proofs.Steps.{both_true}
use Rattle.addr_tables.proofs.SectionLemmas.{IsFew}
use Rattle.addr_tables.proofs.WholeLemmas.{is_read}
use Rattle.addr_tables.proofs.WrittenLemmas.{length-table, length-buckets, length-fields, keys_few, entries_few}

-- ---- numbers

within_small : (bound n : ℕ) → is_within bound n ≡ true → n < 2 ^ 31
unfolding is_within
within_small bound n is = ltb-true _ _ (both_true (ltb n bound) (ltb n (2 ^ 31)) is).1

all_within : (bound : ℕ) (ns : List ℕ) → list_all (is_within bound) ns ≡ true → AreNumbers ns
all_within bound [] is = tt
all_within bound (n ∷ ns) is =
    let both = both_true (is_within bound n) (list_all (is_within bound) ns) is in
    let small = within_small bound n both.0 in
    (omega arith, all_within bound ns both.1)

numbers_more : (xs ys : List ℕ) → AreNumbers xs → AreNumbers ys → AreNumbers (xs ++ ys)
numbers_more [] ys first second = second
numbers_more (x ∷ xs) ys first second = (first.0, numbers_more xs ys first.1 second)

-- ---- keys

keys_are_bytes : (ks : List Key) → AllByRecursion (λ k. IsForm k (key_text k)) ks → IsBytes (flat_map key_text ks)
keys_are_bytes [] forms = λ i. omega arith
keys_are_bytes (k ∷ ks) forms =
    subst IsBytes (sym (flat_map-cons key_text k ks)) (IsBytes-append (key_text k) (flat_map key_text ks) (form_is_bytes k (key_text k) forms.0) (keys_are_bytes ks forms.1))

key_then : (front : List ℕ) (k : Key) (ks : List Key) → front ++ flat_map key_text (k ∷ ks) ≡ front ++ (key_text k ++ flat_map key_text ks)
key_then front k ks = ap (λ (x : List ℕ). front ++ x) (flat_map-cons key_text k ks)

-- each key stands at its bucket's offset
keys_stand : (bytes front : List ℕ) (ks : List Key) (nss : List (List ℕ)) → bytes ≡ front ++ flat_map key_text ks → length bytes < 2 ^ 31 → length nss ≡ length ks → AllByRecursion (λ k. IsForm k (key_text k)) ks
    → Beside (IsKeyOf bytes) (buckets_from (length front) ks nss) ks
unfolding buckets_from
keys_stand bytes front [] [] is small same forms = tt
keys_stand bytes front [] (ns ∷ nss) is small same forms = absurd (omega arith)
keys_stand bytes front (k ∷ ks) [] is small same forms = absurd (omega arith)
keys_stand bytes front (k ∷ ks) (ns ∷ nss) is small same forms =
    let here : bytes ≡ front ++ (key_text k ++ flat_map key_text ks) = is ∙ key_then front k ks in
    let next : bytes ≡ (front ++ key_text k) ++ flat_map key_text ks = here ∙ sym (append_assoc front (key_text k) (flat_map key_text ks)) in
    let fits : length front < 2 ^ 31 = omega (arith, ap length is, length-append front (flat_map key_text (k ∷ ks))) in
    let others = keys_stand bytes (front ++ key_text k) ks nss next small (omega arith) forms.1 in
    ((fits, (length front + length (key_text k), stands_at bytes front (key_text k) (flat_map key_text ks) k here forms.0)), subst (λ (n : ℕ). Beside (IsKeyOf bytes) (buckets_from n ks nss) ks) (length-append front (key_text k)) others)

-- ---- buckets

numbers_back : (at : ℕ) (ks : List Key) (nss : List (List ℕ)) → length nss ≡ length ks → nss ≡ map numbers_in (buckets_from at ks nss)
unfolding buckets_from
numbers_back at [] [] same = refl
numbers_back at [] (ns ∷ nss) same = absurd (omega arith)
numbers_back at (k ∷ ks) [] same = absurd (omega arith)
numbers_back at (k ∷ ks) (ns ∷ nss) same = ap (λ (l : List (List ℕ)). ns ∷ l) (numbers_back (at + length (key_text k)) ks nss (omega arith))

few_each : (bs : List Bucket) → length (flat_map bucket_numbers bs) < 2 ^ 31 → AllByRecursion IsFew bs
few_each [] small = tt
few_each (b ∷ bs) small =
    let len = ap length (flat_map-cons bucket_numbers b bs) in
    let sum = length-append (bucket_numbers b) (flat_map bucket_numbers bs) in
    (omega arith, few_each bs (omega arith))

placed_each : (count at : ℕ) (ks : List Key) (nss : List (List ℕ)) → AllByRecursion (λ ns. list_all (is_within count) ns ≡ true) nss → AllByRecursion IsFew (buckets_from at ks nss) → AllByRecursion (IsPlaced count) (buckets_from at ks nss)
unfolding buckets_from
placed_each count at [] nss within few = tt
placed_each count at (k ∷ ks) [] within few = tt
placed_each count at (k ∷ ks) (ns ∷ nss) within few = ((few.0, within.0), placed_each count (at + length (key_text k)) ks nss within.1 few.1)

bucket_small : (b : Bucket) (count : ℕ) → b.offset < 2 ^ 31 → IsPlaced count b → AreNumbers (bucket_numbers b)
bucket_small b count place placed = (omega arith, (omega (arith, placed.0), all_within count b.numbers placed.1))

buckets_small : (bytes : List ℕ) (count : ℕ) (bs : List Bucket) (ks : List Key) → Beside (IsKeyOf bytes) bs ks → AllByRecursion (IsPlaced count) bs → AreNumbers (flat_map bucket_numbers bs)
buckets_small bytes count [] ks keys placed = tt
buckets_small bytes count (b ∷ bs) [] keys placed = absurd keys
buckets_small bytes count (b ∷ bs) (k ∷ ks) keys placed =
    subst AreNumbers (sym (flat_map-cons bucket_numbers b bs))
    (numbers_more (bucket_numbers b) (flat_map bucket_numbers bs) (bucket_small b count keys.0.0 placed.0) (buckets_small bytes count bs ks keys.1 placed.1))

-- ---- entries

extra_is_bytes : (o : Option Key) → HasForm o → IsBytes (option_text o)
extra_is_bytes None form = λ i. omega arith
extra_is_bytes (Some key) form = form_is_bytes key (key_text key) form

extras_are_bytes : (rows : List EntryRow) → AllByRecursion IsGoodRow rows → IsBytes (flat_map extra_text rows)
extras_are_bytes [] good = λ i. omega arith
extras_are_bytes (row ∷ rows) good =
    subst IsBytes (sym (flat_map-cons extra_text row rows)) (IsBytes-append (extra_text row) (flat_map extra_text rows) (extra_is_bytes row.extra good.0.0) (extras_are_bytes rows good.1))

or_true : (a b : Bool) → b ≡ true → (a || b) ≡ true
or_true true b e = refl
or_true false b e = e

apart : (n : ℕ) (t : Bool) → eqb n nothing ≡ t → n < 2 ^ 31 → t ≡ false
apart n true e small = let same = eqb-true n nothing e in absurd (omega arith)
apart n false e small = refl

-- what a dependency's number is read as
link_back : (keys : ℕ) (dep : Option ℕ) → IsLink keys dep → dep ≡ cond (eqb (link_number dep) nothing) None (Some (link_number dep))
link_back keys None is = refl
link_back keys (Some n) is = rw (apart n (eqb n nothing) refl (within_small keys n is)) refl

link_named : (keys : ℕ) (dep : Option ℕ) → IsLink keys dep → (eqb (link_number dep) nothing || is_within keys (link_number dep)) ≡ true
link_named keys None is = refl
link_named keys (Some n) is = or_true (eqb n nothing) (is_within keys n) is

place_named : (at : ℕ) (extra : Option Key) → at < 2 ^ 31 → (eqb (extra_place at extra) nothing || ltb (extra_place at extra) (2 ^ 31)) ≡ true
place_named at None small = refl
place_named at (Some key) small = or_true (eqb at nothing) (ltb at (2 ^ 31)) (lt-ltb at (2 ^ 31) small)

extra_stands : (bytes front rest : List ℕ) (extra : Option Key) → bytes ≡ front ++ (option_text extra ++ rest) → length front < 2 ^ 31 → HasForm extra → IsExtra bytes (extra_place (length front) extra) extra
extra_stands bytes front rest None is small form = refl
extra_stands bytes front rest (Some key) is small form = (λ e. absurd (omega arith), (length front + length (key_text key), stands_at bytes front (key_text key) rest key is form))

abbrev row_with : EntryRow → Option ℕ → ℤ → EntryRow
row_with row dep hash = record { internal = row.internal; provider = row.provider; dep = dep; dep_hash = hash; extra = row.extra; primary = row.primary; kind = row.kind }

row_back : (at keys : ℕ) (row : EntryRow) → IsLink keys row.dep → FitsSigned w32 row.dep_hash → row ≡ row_of (fields_at at row) row.extra
row_back at keys row link fits =
    let dep = link_back keys row.dep link in
    let hash : cast_signed w32 (cast_unsigned w32 row.dep_hash) ≡ row.dep_hash = to_z-of_z w32 row.dep_hash fits in
    ap (λ (d : Option ℕ). row_with row d row.dep_hash) dep ∙ ap (λ (h : ℤ). row_with row (cond (eqb (link_number row.dep) nothing) None (Some (link_number row.dep))) h) (sym hash)

row_stands : (tables : Tables) (bytes front rest : List ℕ) (keys : ℕ) (row : EntryRow) → bytes ≡ front ++ (extra_text row ++ rest) → length front < 2 ^ 31 → CanWriteRow tables.internals tables.providers keys tables.kinds row → IsGoodRow row
    → IsRow tables bytes keys (fields_at (length front) row) row
row_stands tables bytes front rest keys row is small can good = record {
  named = record {
    internal = can.internal;
    provider = can.provider;
    dep = link_named keys row.dep can.dep;
    extra = place_named (length front) row.extra small;
    primary = can.primary;
    kind = can.kind;
  };
  extra = extra_stands bytes front rest row.extra is small good.0;
  same = row_back (length front) keys row can.dep good.1;
}

rows_stand : (tables : Tables) (bytes front : List ℕ) (keys : ℕ) (rows : List EntryRow) → bytes ≡ front ++ flat_map extra_text rows → length bytes < 2 ^ 31
    → AllByRecursion (CanWriteRow tables.internals tables.providers keys tables.kinds) rows → AllByRecursion IsGoodRow rows → Beside (IsRow tables bytes keys) (fields_from (length front) rows) rows
unfolding fields_from
rows_stand tables bytes front keys [] is small can good = tt
rows_stand tables bytes front keys (row ∷ rows) is small can good =
    let here : bytes ≡ front ++ (extra_text row ++ flat_map extra_text rows) = is ∙ ap (λ (x : List ℕ). front ++ x) (flat_map-cons extra_text row rows) in
    let next : bytes ≡ (front ++ extra_text row) ++ flat_map extra_text rows = here ∙ sym (append_assoc front (extra_text row) (flat_map extra_text rows)) in
    let fits : length front < 2 ^ 31 = omega (arith, ap length is, length-append front (flat_map extra_text (row ∷ rows))) in
    let others = rows_stand tables bytes (front ++ extra_text row) keys rows next small can.1 good.1 in
    (row_stands tables bytes front (flat_map extra_text rows) keys row here fits can.0 good.0, subst (λ (n : ℕ). Beside (IsRow tables bytes keys) (fields_from n rows) rows) (length-append front (extra_text row)) others)

link_small : (keys : ℕ) (dep : Option ℕ) → IsLink keys dep → link_number dep < 2 ^ 32
link_small keys None is = omega arith
link_small keys (Some n) is = let small = within_small keys n is in omega arith

place_small : (at : ℕ) (extra : Option Key) → at < 2 ^ 31 → extra_place at extra < 2 ^ 32
place_small at None small = omega arith
place_small at (Some key) small = omega arith

hash_small : (z : ℤ) → FitsSigned w32 z → cast_unsigned w32 z < 2 ^ 32
hash_small z fits = omega (arith, ints)

fields_small : (at internals providers keys kinds : ℕ) (row : EntryRow) → at < 2 ^ 31 → CanWriteRow internals providers keys kinds row → IsGoodRow row → AreNumbers (field_numbers (fields_at at row))
fields_small at internals providers keys kinds row small can good =
    let a = within_small internals row.internal can.internal in
    let b = within_small providers row.provider can.provider in
    let f = within_small keys row.primary can.primary in
    let g = within_small kinds row.kind can.kind in
    (omega arith, (omega arith, (link_small keys row.dep can.dep, (hash_small row.dep_hash good.1, (place_small at row.extra small, (omega arith, (omega arith, tt)))))))

all_fields_small : (at internals providers keys kinds : ℕ) (rows : List EntryRow) → at + length (flat_map extra_text rows) < 2 ^ 31 → AllByRecursion (CanWriteRow internals providers keys kinds) rows → AllByRecursion IsGoodRow rows
    → AreNumbers (flat_map field_numbers (fields_from at rows))
unfolding fields_from
all_fields_small at internals providers keys kinds [] small can good = tt
all_fields_small at internals providers keys kinds (row ∷ rows) small can good =
    let len = ap length (flat_map-cons extra_text row rows) in
    let sum = length-append (extra_text row) (flat_map extra_text rows) in
    let others = fields_from (at + length (extra_text row)) rows in
    subst AreNumbers (sym (flat_map-cons field_numbers (fields_at at row) others))
    (numbers_more (field_numbers (fields_at at row)) (flat_map field_numbers others) (fields_small at internals providers keys kinds row (omega arith) can.0 good.0) (all_fields_small (at + length (extra_text row)) internals providers keys kinds rows (omega arith) can.1 good.1))

-- ---- the whole

count_first : (keys : List Key) → take 4 (key_bytes keys) ≡ to_le_bytes w32 (length keys)
unfolding key_bytes
count_first keys = take_at (to_le_bytes w32 (length keys)) (flat_map key_text keys) 4 refl

keys_all_bytes : (keys : List Key) → AllByRecursion (λ k. IsForm k (key_text k)) keys → IsBytes (key_bytes keys)
unfolding key_bytes
keys_all_bytes keys forms = IsBytes-append (to_le_bytes w32 (length keys)) (flat_map key_text keys) (four_bytes (length keys)) (keys_are_bytes keys forms)

buckets_few : (bs : List Bucket) → length (bucket_table bs) < 2 ^ 31 → AllByRecursion IsFew bs
unfolding bucket_table
buckets_few bs small = few_each bs (omega (arith, length-table (length bs ∷ flat_map bucket_numbers bs)))

pub stand_for : (rows : Rows) (internals providers kinds : ℕ) → CanEncode rows internals providers kinds → AllByRecursion (λ k. IsForm k (key_text k)) rows.keys → AllByRecursion IsGoodRow rows.entries → StandFor (written rows internals providers kinds) rows
unfolding written key_bytes
stand_for rows internals providers kinds can forms good =
    let bs = buckets_from 4 rows.keys rows.buckets in
    let fs = fields_from 0 rows.entries in
    let count = to_le_bytes w32 (length rows.keys) in
    let many = length-buckets 4 rows.keys rows.buckets can.paired in
    let rows-many = length-fields 0 rows.entries in
    let few = buckets_few bs can.bucket_small in
    let keys = keys_stand (key_bytes rows.keys) count rows.keys rows.buckets refl can.key_small can.paired forms in
    let placed = subst (λ (n : ℕ). AllByRecursion (IsPlaced n) bs) (sym rows-many) (placed_each (length rows.entries) 4 rows.keys rows.buckets can.buckets few) in
    record {
      parts = written_parts rows;
      spelled = record {
        key = refl;
        bucket = refl;
        entry = refl;
        extra = refl;
        count = count_first rows.keys ∙ ap (to_le_bytes w32) (sym many);
        bytes = (keys_all_bytes rows.keys forms, extras_are_bytes rows.entries good);
        numbers = (buckets_small (key_bytes rows.keys) (length fs) bs rows.keys keys placed, all_fields_small 0 internals providers (length rows.keys) kinds rows.entries (omega (arith, can.extra_small)) can.entries good);
        few = (omega (arith, many, keys_few rows.keys rows.buckets can.paired can.bucket_small), omega (arith, rows-many, entries_few rows.entries can.entry_small));
      };
      keys = keys;
      distinct = can.distinct;
      placed = placed;
      buckets = numbers_back 4 rows.keys rows.buckets can.paired;
      entries = rows_stand (written rows internals providers kinds) (flat_map extra_text rows.entries) [] (length rows.keys) rows.entries refl can.extra_small can.entries good;
    }

-- ---- the answer of encoding

pub stand_of : (rows : Rows) (internals providers kinds : ℕ) (r : Result Tables NoMemory) → CanEncode rows internals providers kinds → IfOk r (λ _. AllByRecursion (λ k. IsForm k (key_text k)) rows.keys) → IfOk r (λ _. AllByRecursion IsGoodRow rows.entries)
    → IfOk r (λ tables. tables ≡ written rows internals providers kinds) → IfOk r (λ tables. StandFor tables rows)
stand_of rows internals providers kinds (Ok tables) can forms good is = subst (λ (t : Tables). StandFor t rows) (sym is) (stand_for rows internals providers kinds can forms good)
stand_of rows internals providers kinds (Err e) can forms good is = tt

pub again_of : (rows : Rows) (r : Result Tables NoMemory) → IfOk r (λ tables. StandFor tables rows) → IfOk r (λ tables. rows_read tables ≡ Ok rows)
again_of rows (Ok tables) stand = is_read tables rows stand
again_of rows (Err e) stand = tt

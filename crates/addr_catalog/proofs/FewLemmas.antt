-- Tables that are small have few rows and few keys: each text is kept once, and each row, text and list has a place in a table.
use Rattle.std.proofs.Common.{◌≡◌, ℕ, ◌+◌, ◌<◌, ◌≤◌, ◌^◌, Bool, true, false, not, List, [], ◌∷◌, ◌++◌, length, map, filter, refl, ap, subst, ◌∙◌, arith}
use Rattle.std.specs.List.{list_any, flat_map}
use Rattle.std.specs.Str.{bytes_eq}
use Rattle.std.proofs.lemmas.Bool.{and_parts, and_from, false≢true}
use Rattle.addr_locate.specs.Rows.{Rows, AreRows, texts_once, no_text_twice, rows_of, written}
use Rattle.addr_locate.specs.declared.rows.BundleRow.{BundleRow}
use Rattle.addr_locate.specs.declared.rows.PlainAsset.{PlainAsset}
use Rattle.addr_locate.proofs.TextLemmas.{same_texts}
use Rattle.addr_tables.proofs.SectionLemmas.{seven_each}
use Rattle.addr_tables.proofs.WrittenLemmas.{length-table, two_each, length-buckets, length-fields}
use Rattle.addr_tables.specs.Format.{bucket_numbers, field_numbers, bucket_table, entry_table}
use Rattle.addr_tables.specs.Written.{buckets_from, fields_from}
use Rattle.addr_tables.specs.declared.rows.EntryRow.{EntryRow}
use Rattle.addr_keys.specs.declared.key.Key.{Key}
use Rattle.addr_catalog.specs.Few.{AreFew}
use Rattle.addr_catalog.specs.Written.{table_texts, table_keys, table_buckets, table_entries, CanWrite}
use Rattle.addr_catalog.proofs.KeyNumberLemmas.{count_keys, paired}
use Rattle.addr_catalog.proofs.RowLemmas.{count_entries}

-- texts that are kept once stand once
none-filter : (p : List ℕ → Bool) (t : List ℕ) (ts : List (List ℕ)) → list_any (λ u. bytes_eq u t) ts ≡ false → list_any (λ u. bytes_eq u t) (filter p ts) ≡ false
none-filter p t [] out = refl
none-filter p t (u ∷ us) out = by_test (p u) (bytes_eq u t) refl refl (none-filter p t us)
  where
    by_test : (kept same : Bool) → p u ≡ kept → bytes_eq u t ≡ same → (list_any (λ w. bytes_eq w t) us ≡ false → list_any (λ w. bytes_eq w t) (filter p us) ≡ false) → list_any (λ w. bytes_eq w t) (filter p (u ∷ us)) ≡ false
    by_test kept true k e rest = let clash : true ≡ false = rw e at out in absurd (cc)
    by_test true false k e rest = rw (k, e) (rest (rw e at out))
    by_test false false k e rest = rw k (rest (rw e at out))

twice-filter : (p : List ℕ → Bool) (ts : List (List ℕ)) → no_text_twice ts ≡ true → no_text_twice (filter p ts) ≡ true
twice-filter p [] once = refl
twice-filter p (t ∷ ts) once =
    let both = and_parts (not (list_any (λ u. bytes_eq u t) ts)) (no_text_twice ts) once in
    by_test (p t) refl both.0 (twice-filter p ts both.1)
  where
    kept_out : (b c : Bool) → not b ≡ true → (b ≡ false → c ≡ false) → not c ≡ true
    kept_out true c e step = absurd (false≢true e)
    kept_out false c e step = let out : c ≡ false = step refl in rw out refl

    by_test : (kept : Bool) → p t ≡ kept → not (list_any (λ u. bytes_eq u t) ts) ≡ true → no_text_twice (filter p ts) ≡ true → no_text_twice (filter p (t ∷ ts)) ≡ true
    by_test true k out rest = rw k (and_from (not (list_any (λ u. bytes_eq u t) (filter p ts))) (no_text_twice (filter p ts)) (kept_out (list_any (λ u. bytes_eq u t) ts) (list_any (λ u. bytes_eq u t) (filter p ts)) out (none-filter p t ts)) rest)
    by_test false k out rest = rw k rest

without_itself : (t : List ℕ) (ts : List (List ℕ)) → list_any (λ u. bytes_eq u t) (filter (λ u. not (bytes_eq u t)) ts) ≡ false
without_itself t [] = refl
without_itself t (u ∷ us) = by_test (bytes_eq u t) refl (without_itself t us)
  where
    by_test : (same : Bool) → bytes_eq u t ≡ same → list_any (λ w. bytes_eq w t) (filter (λ w. not (bytes_eq w t)) us) ≡ false → list_any (λ w. bytes_eq w t) (filter (λ w. not (bytes_eq w t)) (u ∷ us)) ≡ false
    by_test true e rest = rw e rest
    by_test false e rest = rw e (rw e rest)

pub twice-texts_once : (ts : List (List ℕ)) → no_text_twice (texts_once ts) ≡ true
twice-texts_once [] = refl
twice-texts_once (t ∷ ts) =
    let out = without_itself t (texts_once ts) in
    let rest = twice-filter (λ u. not (bytes_eq u t)) (texts_once ts) (twice-texts_once ts) in
    rw (out, rest) refl

not_there : (b : Bool) → not b ≡ true → b ≡ false
not_there true e = absurd (false≢true e)
not_there false e = refl

-- ---- no text is lost

-- a text that isn't there leaves all
all-without : (t : List ℕ) (ts : List (List ℕ)) → list_any (λ u. bytes_eq u t) ts ≡ false → filter (λ u. not (bytes_eq u t)) ts ≡ ts
all-without t [] out = refl
all-without t (u ∷ us) out = by_test (bytes_eq u t) refl (all-without t us)
  where
    by_test : (same : Bool) → bytes_eq u t ≡ same → (list_any (λ w. bytes_eq w t) us ≡ false → filter (λ w. not (bytes_eq w t)) us ≡ us) → filter (λ w. not (bytes_eq w t)) (u ∷ us) ≡ u ∷ us
    by_test true e rest = let clash : true ≡ false = rw e at out in absurd (cc)
    by_test false e rest = rw e (ap (λ ws. u ∷ ws) (rest (rw e at out)))

-- and one that is there leaves all others
others-without : (t : List ℕ) (ts : List (List ℕ)) → no_text_twice ts ≡ true → length ts ≤ 1 + length (filter (λ u. not (bytes_eq u t)) ts)
others-without t [] once = omega arith
others-without t (u ∷ us) once =
    let both = and_parts (not (list_any (λ w. bytes_eq w u) us)) (no_text_twice us) once in
    by_test (bytes_eq u t) refl (not_there (list_any (λ w. bytes_eq w u) us) both.0) (others-without t us both.1)
  where
    by_test : (same : Bool) → bytes_eq u t ≡ same → list_any (λ w. bytes_eq w u) us ≡ false → length us ≤ 1 + length (filter (λ w. not (bytes_eq w t)) us) → length (u ∷ us) ≤ 1 + length (filter (λ w. not (bytes_eq w t)) (u ∷ us))
    by_test true e out rest =
        let all = all-without t us (subst (λ (x : List ℕ). list_any (λ w. bytes_eq w x) us ≡ false) (same_texts u t e) out) in
        let long = ap length all in
        rw e (omega (arith, long))
    by_test false e out rest = rw e (omega (arith, rest))

once-itself : (ts : List (List ℕ)) → no_text_twice ts ≡ true → texts_once ts ≡ ts
once-itself [] once = refl
once-itself (t ∷ ts) once =
    let both = and_parts (not (list_any (λ u. bytes_eq u t) ts)) (no_text_twice ts) once in
    let rest = once-itself ts both.1 in
    ap (λ us. t ∷ filter (λ u. not (bytes_eq u t)) us) rest ∙ ap (λ us. t ∷ us) (all-without t ts (not_there (list_any (λ u. bytes_eq u t) ts) both.0))

behind : (front ts : List (List ℕ)) → length (texts_once ts) ≤ length (texts_once (front ++ ts))
behind [] ts = omega arith
behind (t ∷ front) ts =
    let rest = behind front ts in
    let one = others-without t (texts_once (front ++ ts)) (twice-texts_once (front ++ ts)) in
    omega (arith, rest, one)

-- ---- few keys and few rows

made_once : (bundles : List BundleRow) (assets : List PlainAsset) → no_text_twice (rows_of bundles assets).keys ≡ true
unfolding rows_of
made_once bundles assets = twice-texts_once (flat_map (λ (a : PlainAsset). a.keys) assets)

keys_once : (r : Rows) → AreRows r → no_text_twice r.keys ≡ true
keys_once r are = subst (λ (q : Rows). no_text_twice q.keys ≡ true) are.numbers (made_once r.bundles (map (written r) r.assets))

keys_among : (r : Rows) → AreRows r → length r.keys ≤ length (table_texts r)
unfolding table_texts
keys_among r are =
    let same = ap length (once-itself r.keys (keys_once r are)) in
    omega (arith, same, behind (map (λ (b : BundleRow). b.key) r.bundles) r.keys)

few_buckets : (keys : List Key) (nss : List (List ℕ)) → length nss ≡ length keys → length (bucket_table (buckets_from 4 keys nss)) < 2 ^ 31 → length keys < 2 ^ 28
unfolding bucket_table
few_buckets keys nss same small =
    let bs = buckets_from 4 keys nss in
    omega (arith, length-table (length bs ∷ flat_map bucket_numbers bs), two_each bs, length-buckets 4 keys nss same)

few_entries : (rows : List EntryRow) → length (entry_table (fields_from 0 rows)) < 2 ^ 31 → length rows < 2 ^ 28
unfolding entry_table
few_entries rows small =
    let es = fields_from 0 rows in
    omega (arith, length-table (length es ∷ flat_map field_numbers es), seven_each es, length-fields 0 rows)

pub few_from : (r : Rows) → AreRows r → CanWrite r → AreFew r
few_from r are can =
    let buckets = few_buckets (table_keys r) (table_buckets r) (paired r) can.bucket_small in
    let entries = few_entries (table_entries r) can.entry_small in
    omega (arith, buckets, count_keys r, keys_among r are, entries, count_entries r)

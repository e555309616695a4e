-- What the rows of tables keep, and what follows for the rows that are read of them.
use Rattle.std.proofs.Common.{◌≡◌, ℕ, suc, ◌-◌, ◌^◌, true, nat_lt, min, List, [], ◌∷◌, length, map, Result, Ok, refl, sym, ap, ◌∙◌, subst, arith}
use Rattle.std.specs.List.{list_all, AllByRecursion}
use Rattle.std.proofs.lemmas.Bool.{and_parts, and_from}
use Rattle.std.proofs.lemmas.Bool.Decides.{nat_tests}
use Rattle.std.proofs.lemmas.List.{length-map}
use Rattle.addr_reading.specs.Steps.{◌>>=◌}
use Rattle.addr_reading.proofs.StepLaws.{then_same}
use Rattle.addr_reading.proofs.ListLaws.{all_same}
use Rattle.addr_tables.specs.Faults.{rows_read, parts_of, keys_read, entries_read, entry_read, bad_field, row_or, numbers_in}
use Rattle.addr_tables.specs.Format.{is_within}
use Rattle.addr_tables.specs.Rows.{StandFor, Beside, IsPlaced}
use Rattle.addr_tables.specs.declared.error.TableErr.{TableErr}
use Rattle.addr_tables.specs.declared.parts.Bucket.{Bucket}
use Rattle.addr_tables.specs.declared.parts.Fields.{Fields}
use Rattle.addr_tables.specs.declared.rows.EntryRow.{EntryRow}
use Rattle.addr_tables.specs.declared.rows.Rows.{Rows}
use Rattle.addr_tables.specs.declared.rows.Tables.{Tables}
use Rattle.addr_catalog.specs.Inverted.{AreNumbersBelow}
use Rattle.addr_catalog.specs.TableRows.{AreTableRows, capped}

-- ---- counts that fit four bytes

within_capped : (bound n : ℕ) → is_within (min bound (2 ^ 32 - 1)) n ≡ is_within bound n
unfolding is_within
within_capped bound n = grind (arith, nat_tests)

field_capped : (a b k c : ℕ) (e : Fields) → bad_field (min a (2 ^ 32 - 1)) (min b (2 ^ 32 - 1)) k (min c (2 ^ 32 - 1)) e ≡ bad_field a b k c e
unfolding bad_field
field_capped a b k c e = rw (within_capped a e.internal, within_capped b e.provider, within_capped c e.kind)

entry_capped : (t : Tables) (extras : List ℕ) (keys place : ℕ) (e : Fields) → entry_read (capped t) extras keys place e ≡ entry_read t extras keys place e
unfolding entry_read
entry_capped t extras keys place e = ap (row_or extras place e) (field_capped t.internals t.providers keys t.kinds e)

entries_capped : (t : Tables) (extras : List ℕ) (keys : ℕ) (before : List EntryRow) (es : List Fields) → entries_read (capped t) extras keys before es ≡ entries_read t extras keys before es
entries_capped t extras keys before es = all_same _ _ (λ others e. entry_capped t extras keys (length others) e) before es

pub rows_capped : (t : Tables) → rows_read (capped t) ≡ rows_read t
unfolding rows_read parts_of
rows_capped t = then_same (parts_of t) (λ parts. then_same (keys_read parts.keys (length parts.entries) [] parts.buckets) (λ keys. ap (λ (r : Result (List EntryRow) TableErr). r >>= λ entries. Ok (record { keys = keys; buckets = map numbers_in parts.buckets; entries = entries })) (entries_capped t parts.extras (length keys) [] parts.entries)))

-- ---- what the rows of tables keep

beside_long : {A B : Type 0} (R : A → B → Type 0) (xs : List A) (ys : List B) → Beside R xs ys → length xs ≡ length ys
beside_long R [] [] all = refl
beside_long R [] (y ∷ ys) all = absurd all
beside_long R (x ∷ xs) [] all = absurd all
beside_long R (x ∷ xs) (y ∷ ys) all = ap suc (beside_long R xs ys all.1)

within_below : (bound : ℕ) (ns : List ℕ) → list_all (is_within bound) ns ≡ true → AreNumbersBelow bound ns
unfolding is_within
within_below bound [] all = refl
within_below bound (n ∷ ns) all =
    let both = and_parts (is_within bound n) (list_all (is_within bound) ns) all in
    and_from (nat_lt n bound) (list_all (λ m. nat_lt m bound) ns) (and_parts (nat_lt n bound) (nat_lt n (2 ^ 31)) both.0).0 (within_below bound ns both.1)

placed_below : (count : ℕ) (buckets : List Bucket) → AllByRecursion (IsPlaced count) buckets → AllByRecursion (AreNumbersBelow count) (map numbers_in buckets)
placed_below count [] all = all
placed_below count (b ∷ bs) all = (within_below count b.numbers all.0.1, placed_below count bs all.1)

pub sound_rows : (tables : Tables) (rows : Rows) → StandFor tables rows → AreTableRows rows
sound_rows tables rows stand =
    let keys_long = beside_long _ stand.parts.buckets rows.keys stand.keys in
    let entries_long = beside_long _ stand.parts.entries rows.entries stand.entries in
    let buckets_long : length rows.buckets ≡ length stand.parts.buckets = ap length stand.buckets ∙ length-map stand.parts.buckets numbers_in in
    record {
      few_entries = omega (arith, stand.spelled.few.1);
      few_keys = omega (arith, stand.spelled.few.0);
      paired = buckets_long ∙ keys_long;
      distinct = stand.distinct;
      placed = subst (λ (n : ℕ). AllByRecursion (AreNumbersBelow n) rows.buckets) entries_long (subst (λ (bs : List (List ℕ)). AllByRecursion (AreNumbersBelow (length stand.parts.entries)) bs) (sym stand.buckets) (placed_below (length stand.parts.entries) stand.parts.buckets stand.placed));
    }

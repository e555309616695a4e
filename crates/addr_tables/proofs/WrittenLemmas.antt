-- Writing one object after another: what is written so far, and what is left to write.
use Rattle.std.proofs.Common.{◌≡◌, ℕ, zero, suc, ◌+◌, ◌*◌, ◌^◌, ◌<◌, ◌≤◌, List, [], ◌∷◌, ◌++◌, length, get_or, take, drop, refl, sym, ap, subst, ◌∙◌, append_assoc, add-one, arith}
use Rattle.std.specs.List.{flat_map, AllByRecursion}
use Rattle.std.specs.Int.{w32, to_le_bytes}
use Rattle.std.proofs.Math.Seq.{drop-cons}
use Rattle.std.proofs.Math.ListN.{drop_of_length-le}
use Rattle.std.proofs.lemmas.List.{append-nil, length-append, take_more}
use Rattle.std.proofs.lemmas.List.Concat.{flat_map-cons, flat_map-append}
use Rattle.addr_keys.specs.declared.key.Key.{Key}
use Rattle.addr_keys.specs.Format.{key_text, IsForm}
use Rattle.addr_tables.specs.declared.rows.EntryRow.{EntryRow}
use Rattle.addr_tables.specs.declared.parts.Bucket.{Bucket}
use Rattle.addr_tables.specs.declared.parts.Fields.{Fields}
use Rattle.addr_tables.specs.Format.{table_of, bucket_numbers, field_numbers, bucket_table, entry_table}
use Rattle.addr_tables.proofs.SectionLemmas.{seven_each}
use Rattle.addr_tables.proofs.RowLemmas.{all_more}
use Rattle.addr_tables.specs.Written.{key_bytes, buckets_from, extra_text, fields_at, fields_from, IsGoodRow}

regroup : (a x y z : List ℕ) → ((a ++ x) ++ y) ++ z ≡ a ++ (x ++ (y ++ z))
regroup a x y z = simp append_assoc

pub bucket_put : (old one two new : List ℕ) (offset n : ℕ) (numbers : List ℕ) → one ≡ old ++ to_le_bytes w32 offset → two ≡ one ++ to_le_bytes w32 n → new ≡ two ++ flat_map (to_le_bytes w32) numbers
    → new ≡ old ++ table_of (offset ∷ n ∷ numbers)
unfolding table_of
bucket_put old one two new offset n numbers first second third =
    third ∙ ap (λ (x : List ℕ). x ++ flat_map (to_le_bytes w32) numbers) (second ∙ ap (λ (x : List ℕ). x ++ to_le_bytes w32 n) first)
    ∙ regroup old (to_le_bytes w32 offset) (to_le_bytes w32 n) (flat_map (to_le_bytes w32) numbers)
    ∙ ap (λ (x : List ℕ). old ++ x) (ap (λ (x : List ℕ). to_le_bytes w32 offset ++ x) (sym (flat_map-cons (to_le_bytes w32) n numbers)) ∙ sym (flat_map-cons (to_le_bytes w32) offset (n ∷ numbers)))

-- ---- tables of numbers

table-append : (xs ys : List ℕ) → table_of (xs ++ ys) ≡ table_of xs ++ table_of ys
unfolding table_of
table-append xs ys = flat_map-append (to_le_bytes w32) xs ys

table-one : (n : ℕ) → table_of (n ∷ []) ≡ to_le_bytes w32 n
unfolding table_of
table-one n = refl

table-nil : table_of [] ≡ []
unfolding table_of
table-nil = refl

pub length-table : (ns : List ℕ) → length (table_of ns) ≡ 4 * length ns
unfolding table_of
length-table [] = refl
length-table (n ∷ ns) = let other = length-table ns in ap length (flat_map-cons (to_le_bytes w32) n ns) ∙ omega arith

all_taken : {A : Type 0} (P : A → Type 0) (xs : List A) (i : ℕ) → length xs ≤ i → AllByRecursion P (take i xs) → AllByRecursion P xs
all_taken P [] i le all = tt
all_taken P (x ∷ xs) zero le all = absurd (omega arith)
all_taken P (x ∷ xs) (suc i) le all = (all.0, all_taken P xs i (omega arith) all.1)

pub all_at : {A : Type 0} (P : A → Type 0) (xs : List A) (i : ℕ) (d : A) → i < length xs → AllByRecursion P xs → P (get_or xs i d)
all_at P [] i d lt all = absurd (omega arith)
all_at P (x ∷ xs) zero d lt all = all.0
all_at P (x ∷ xs) (suc i) d lt all = all_at P xs i d (omega arith) all.1

-- ---- keys and buckets

pub length-buckets : (at : ℕ) (ks : List Key) (nss : List (List ℕ)) → length nss ≡ length ks → length (buckets_from at ks nss) ≡ length ks
unfolding buckets_from
length-buckets at [] [] same = refl
length-buckets at [] (ns ∷ nss) same = refl
length-buckets at (k ∷ ks) [] same = absurd (omega arith)
length-buckets at (k ∷ ks) (ns ∷ nss) same = ap suc (length-buckets (at + length (key_text k)) ks nss (omega arith))

pub two_each : (bs : List Bucket) → 2 * length bs ≤ length (flat_map bucket_numbers bs)
two_each [] = omega arith
two_each (b ∷ bs) = let len = ap length (flat_map-cons bucket_numbers b bs) in let sum = length-append (bucket_numbers b) (flat_map bucket_numbers bs) in omega (arith, two_each bs)

pub keys_few : (keys : List Key) (nss : List (List ℕ)) → length nss ≡ length keys → length (bucket_table (buckets_from 4 keys nss)) < 2 ^ 31 → length keys < 2 ^ 31
unfolding bucket_table
keys_few keys nss same small =
    let bs = buckets_from 4 keys nss in
    omega (arith, length-table (length bs ∷ flat_map bucket_numbers bs), two_each bs, length-buckets 4 keys nss same)

pub record Writing (keys : List Key) (nss : List (List ℕ)) (i : ℕ) (kt bt : List ℕ) : Type 0 where
  pub left_keys : kt ++ flat_map key_text (drop i keys) ≡ key_bytes keys
  pub left_buckets : bt ++ table_of (flat_map bucket_numbers (buckets_from (length kt) (drop i keys) (drop i nss))) ≡ bucket_table (buckets_from 4 keys nss)
  pub forms : AllByRecursion (λ k. IsForm k (key_text k)) (take i keys)

pub writing_start : (keys : List Key) (nss : List (List ℕ)) (kt bt : List ℕ) → length nss ≡ length keys → kt ≡ to_le_bytes w32 (length keys) → bt ≡ to_le_bytes w32 (length keys) → Writing keys nss 0 kt bt
unfolding key_bytes bucket_table
writing_start keys nss kt bt same first second =
    let bs = buckets_from 4 keys nss in
    let four : length kt ≡ 4 = ap length first in
    record {
      left_keys = ap (λ (x : List ℕ). x ++ flat_map key_text keys) first;
      left_buckets = ap (λ (n : ℕ). bt ++ table_of (flat_map bucket_numbers (buckets_from n keys nss))) four
          ∙ ap (λ (x : List ℕ). x ++ table_of (flat_map bucket_numbers bs)) (second ∙ ap (to_le_bytes w32) (sym (length-buckets 4 keys nss same)) ∙ sym (table-one (length bs)))
          ∙ sym (table-append (length bs ∷ []) (flat_map bucket_numbers bs));
      forms = tt;
    }

first_bucket : (at i : ℕ) (keys : List Key) (nss : List (List ℕ)) (key : Key) (ns : List ℕ) → i < length keys → length nss ≡ length keys → key ≡ get_or keys i key → ns ≡ get_or nss i ns
    → flat_map bucket_numbers (buckets_from at (drop i keys) (drop i nss)) ≡ (at ∷ length ns ∷ ns) ++ flat_map bucket_numbers (buckets_from (at + length (key_text key)) (drop (i + 1) keys) (drop (i + 1) nss))
unfolding buckets_from
first_bucket at i keys nss key ns lt same is numbers-is =
    let k : drop i keys ≡ key ∷ drop (suc i) keys = drop-cons keys i key lt ∙ ap (λ (x : Key). x ∷ drop (suc i) keys) (sym is) in
    let n : drop i nss ≡ ns ∷ drop (suc i) nss = drop-cons nss i ns (omega arith) ∙ ap (λ (x : List ℕ). x ∷ drop (suc i) nss) (sym numbers-is) in
    rw (add-one, k, n) (flat_map-cons bucket_numbers (record { offset = at; numbers = ns }) (buckets_from (at + length (key_text key)) (drop (suc i) keys) (drop (suc i) nss)))

pub writing_more : (keys : List Key) (nss : List (List ℕ)) (i : ℕ) (kt bt kt2 bt2 : List ℕ) (key : Key) (ns : List ℕ) → i < length keys → length nss ≡ length keys → key ≡ get_or keys i key → ns ≡ get_or nss i ns
    → bt2 ≡ bt ++ table_of (length kt ∷ length ns ∷ ns) → kt2 ≡ kt ++ key_text key → IsForm key (key_text key) → Writing keys nss i kt bt → Writing keys nss (i + 1) kt2 bt2
writing_more keys nss i kt bt kt2 bt2 key ns lt same is numbers-is second first form so_far =
    let k : drop i keys ≡ key ∷ drop (i + 1) keys = rw add-one (drop-cons keys i key lt ∙ ap (λ (x : Key). x ∷ drop (suc i) keys) (sym is)) in
    let rest = buckets_from (length kt + length (key_text key)) (drop (i + 1) keys) (drop (i + 1) nss) in
    let len : length kt2 ≡ length kt + length (key_text key) = ap length first ∙ length-append kt (key_text key) in
    record {
      left_keys = ap (λ (x : List ℕ). x ++ flat_map key_text (drop (i + 1) keys)) first ∙ append_assoc kt (key_text key) (flat_map key_text (drop (i + 1) keys))
          ∙ ap (λ (x : List ℕ). kt ++ x) (sym (ap (flat_map key_text) k ∙ flat_map-cons key_text key (drop (i + 1) keys))) ∙ so_far.left_keys;
      left_buckets = ap (λ (n : ℕ). bt2 ++ table_of (flat_map bucket_numbers (buckets_from n (drop (i + 1) keys) (drop (i + 1) nss)))) len
          ∙ ap (λ (x : List ℕ). x ++ table_of (flat_map bucket_numbers rest)) second ∙ append_assoc bt (table_of (length kt ∷ length ns ∷ ns)) (table_of (flat_map bucket_numbers rest))
          ∙ ap (λ (x : List ℕ). bt ++ x) (sym (table-append (length kt ∷ length ns ∷ ns) (flat_map bucket_numbers rest)) ∙ ap table_of (sym (first_bucket (length kt) i keys nss key ns lt same is numbers-is)))
          ∙ so_far.left_buckets;
      forms = subst (AllByRecursion (λ k. IsForm k (key_text k))) (sym (take_more keys i key lt ∙ ap (λ (x : Key). take i keys ++ x ∷ []) (sym is))) (all_more (λ k. IsForm k (key_text k)) (take i keys) key so_far.forms form);
    }

-- what is left to write takes no more than the whole
pub record AreSmall (kt : List ℕ) (ns : List ℕ) : Type 0 where
  pub place : length kt < 2 ^ 31
  pub count : length ns < 2 ^ 31

pub writing_small : (keys : List Key) (nss : List (List ℕ)) (i : ℕ) (kt bt : List ℕ) (key : Key) (ns : List ℕ) → i < length keys → length nss ≡ length keys → key ≡ get_or keys i key → ns ≡ get_or nss i ns
    → length (key_bytes keys) < 2 ^ 31 → length (bucket_table (buckets_from 4 keys nss)) < 2 ^ 31 → Writing keys nss i kt bt → AreSmall kt ns
writing_small keys nss i kt bt key ns lt same is numbers-is key-small bucket-small so_far =
    let rest = flat_map bucket_numbers (buckets_from (length kt + length (key_text key)) (drop (i + 1) keys) (drop (i + 1) nss)) in
    let front = flat_map bucket_numbers (buckets_from (length kt) (drop i keys) (drop i nss)) in
    let first = ap length (first_bucket (length kt) i keys nss key ns lt same is numbers-is) in
    let kept = ap length so_far.left_keys in
    let kept-sum = length-append kt (flat_map key_text (drop i keys)) in
    let whole = ap length so_far.left_buckets in
    let whole-sum = length-append bt (table_of front) in
    let sum = length-append (length kt ∷ length ns ∷ ns) rest in
    let four = length-table front in
    record { place = omega arith; count = omega arith }

pub record AreWritten (keys : List Key) (nss : List (List ℕ)) (kt bt : List ℕ) : Type 0 where
  pub keys_are : kt ≡ key_bytes keys
  pub buckets_are : bt ≡ bucket_table (buckets_from 4 keys nss)
  pub forms : AllByRecursion (λ k. IsForm k (key_text k)) keys

pub writing_done : (keys : List Key) (nss : List (List ℕ)) (i : ℕ) (kt bt : List ℕ) → length keys ≤ i → Writing keys nss i kt bt → AreWritten keys nss kt bt
unfolding buckets_from
writing_done keys nss i kt bt le so_far =
    let none = drop_of_length-le keys le in
    record {
      keys_are = sym (append-nil kt) ∙ ap (λ (x : List Key). kt ++ flat_map key_text x) (sym none) ∙ so_far.left_keys;
      buckets_are = sym (append-nil bt) ∙ ap (λ (x : List ℕ). bt ++ x) (sym table-nil) ∙ ap (λ (x : List Key). bt ++ table_of (flat_map bucket_numbers (buckets_from (length kt) x (drop i nss)))) (sym none) ∙ so_far.left_buckets;
      forms = all_taken (λ k. IsForm k (key_text k)) keys i le so_far.forms;
    }

-- ---- entries and extra data

pub length-fields : (at : ℕ) (rows : List EntryRow) → length (fields_from at rows) ≡ length rows
unfolding fields_from
length-fields at [] = refl
length-fields at (row ∷ rows) = ap suc (length-fields (at + length (extra_text row)) rows)

pub entries_few : (rows : List EntryRow) → length (entry_table (fields_from 0 rows)) < 2 ^ 31 → length rows < 2 ^ 31
unfolding entry_table
entries_few rows small =
    let es = fields_from 0 rows in
    omega (arith, length-table (length es ∷ flat_map field_numbers es), seven_each es, length-fields 0 rows)

pub record WritingRows (rows : List EntryRow) (i : ℕ) (et xt : List ℕ) : Type 0 where
  pub left_rows : et ++ table_of (flat_map field_numbers (fields_from (length xt) (drop i rows))) ≡ entry_table (fields_from 0 rows)
  pub left_extras : xt ++ flat_map extra_text (drop i rows) ≡ flat_map extra_text rows
  pub good : AllByRecursion IsGoodRow (take i rows)

pub rows_start : (rows : List EntryRow) (et xt : List ℕ) → et ≡ to_le_bytes w32 (length rows) → xt ≡ [] → WritingRows rows 0 et xt
unfolding entry_table
rows_start rows et xt first none =
    let es = fields_from 0 rows in
    record {
      left_rows = ap (λ (x : List ℕ). et ++ table_of (flat_map field_numbers (fields_from (length x) rows))) none
          ∙ ap (λ (x : List ℕ). x ++ table_of (flat_map field_numbers es)) (first ∙ ap (to_le_bytes w32) (sym (length-fields 0 rows)) ∙ sym (table-one (length es)))
          ∙ sym (table-append (length es ∷ []) (flat_map field_numbers es));
      left_extras = ap (λ (x : List ℕ). x ++ flat_map extra_text rows) none;
      good = tt;
    }

first_row : (at i : ℕ) (rows : List EntryRow) (row : EntryRow) → i < length rows → row ≡ get_or rows i row
    → flat_map field_numbers (fields_from at (drop i rows)) ≡ field_numbers (fields_at at row) ++ flat_map field_numbers (fields_from (at + length (extra_text row)) (drop (i + 1) rows))
unfolding fields_from
first_row at i rows row lt is =
    let k : drop i rows ≡ row ∷ drop (suc i) rows = drop-cons rows i row lt ∙ ap (λ (x : EntryRow). x ∷ drop (suc i) rows) (sym is) in
    rw (add-one, k) (flat_map-cons field_numbers (fields_at at row) (fields_from (at + length (extra_text row)) (drop (suc i) rows)))

pub rows_more : (rows : List EntryRow) (i : ℕ) (et xt et2 xt2 : List ℕ) (row : EntryRow) → i < length rows → row ≡ get_or rows i row
    → et2 ≡ et ++ table_of (field_numbers (fields_at (length xt) row)) → xt2 ≡ xt ++ extra_text row → IsGoodRow row → WritingRows rows i et xt → WritingRows rows (i + 1) et2 xt2
rows_more rows i et xt et2 xt2 row lt is first second good so_far =
    let k : drop i rows ≡ row ∷ drop (i + 1) rows = rw add-one (drop-cons rows i row lt ∙ ap (λ (x : EntryRow). x ∷ drop (suc i) rows) (sym is)) in
    let rest = fields_from (length xt + length (extra_text row)) (drop (i + 1) rows) in
    let one = field_numbers (fields_at (length xt) row) in
    let len : length xt2 ≡ length xt + length (extra_text row) = ap length second ∙ length-append xt (extra_text row) in
    record {
      left_rows = ap (λ (n : ℕ). et2 ++ table_of (flat_map field_numbers (fields_from n (drop (i + 1) rows)))) len
          ∙ ap (λ (x : List ℕ). x ++ table_of (flat_map field_numbers rest)) first ∙ append_assoc et (table_of one) (table_of (flat_map field_numbers rest))
          ∙ ap (λ (x : List ℕ). et ++ x) (sym (table-append one (flat_map field_numbers rest)) ∙ ap table_of (sym (first_row (length xt) i rows row lt is)))
          ∙ so_far.left_rows;
      left_extras = ap (λ (x : List ℕ). x ++ flat_map extra_text (drop (i + 1) rows)) second ∙ append_assoc xt (extra_text row) (flat_map extra_text (drop (i + 1) rows))
          ∙ ap (λ (x : List ℕ). xt ++ x) (sym (ap (flat_map extra_text) k ∙ flat_map-cons extra_text row (drop (i + 1) rows))) ∙ so_far.left_extras;
      good = subst (AllByRecursion IsGoodRow) (sym (take_more rows i row lt ∙ ap (λ (x : EntryRow). take i rows ++ x ∷ []) (sym is))) (all_more IsGoodRow (take i rows) row so_far.good good);
    }

pub rows_small : (rows : List EntryRow) (i : ℕ) (et xt : List ℕ) → length (flat_map extra_text rows) < 2 ^ 31 → WritingRows rows i et xt → length xt < 2 ^ 31
rows_small rows i et xt small so_far =
    let kept = ap length so_far.left_extras in
    omega (arith, length-append xt (flat_map extra_text (drop i rows)))

pub record AreRowsWritten (rows : List EntryRow) (et xt : List ℕ) : Type 0 where
  pub rows_are : et ≡ entry_table (fields_from 0 rows)
  pub extras_are : xt ≡ flat_map extra_text rows
  pub good : AllByRecursion IsGoodRow rows

pub rows_done : (rows : List EntryRow) (i : ℕ) (et xt : List ℕ) → length rows ≤ i → WritingRows rows i et xt → AreRowsWritten rows et xt
unfolding fields_from
rows_done rows i et xt le so_far =
    let none = drop_of_length-le rows le in
    record {
      rows_are = sym (append-nil et) ∙ ap (λ (x : List ℕ). et ++ x) (sym table-nil) ∙ ap (λ (x : List EntryRow). et ++ table_of (flat_map field_numbers (fields_from (length xt) x))) (sym none) ∙ so_far.left_rows;
      extras_are = sym (append-nil xt) ∙ ap (λ (x : List EntryRow). xt ++ flat_map extra_text x) (sym none) ∙ so_far.left_extras;
      good = all_taken IsGoodRow rows i le so_far.good;
    }

-- ---- what was put, where its parts are equal

pub bucket_alike : (bt bt2 : List ℕ) (at n : ℕ) (xs ns : List ℕ) → at ≡ n → xs ≡ ns → bt2 ≡ bt ++ table_of (at ∷ length xs ∷ xs) → bt2 ≡ bt ++ table_of (n ∷ length ns ∷ ns)
bucket_alike bt bt2 at n xs ns place numbers put = rw (← place, ← numbers) put

pub fields_alike : (et et2 : List ℕ) (at n : ℕ) (f : Fields) (row : EntryRow) → at ≡ n → f ≡ fields_at at row → et2 ≡ et ++ table_of (field_numbers f) → et2 ≡ et ++ table_of (field_numbers (fields_at n row))
fields_alike et et2 at n f row place fields put = put ∙ ap (λ (x : Fields). et ++ table_of (field_numbers x)) (fields ∙ ap (λ (k : ℕ). fields_at k row) place)

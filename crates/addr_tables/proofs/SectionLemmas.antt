-- The bucket and entry tables: what is read spells the table, and what a table spells is read again.
use Rattle.std.proofs.Common.{◌≡◌, ℕ, zero, suc, ◌*◌, ◌%◌, ◌^◌, ◌<◌, ◌≤◌, true, false, ltb, leb, eqb, List, [], ◌∷◌, ◌++◌, length, take, drop, Ok, refl, sym, ap, subst, ◌∙◌, append_assoc, arith, eq-eqb}
use Rattle.std.specs.Prelude.{◌&&◌}
use Rattle.std.specs.List.{flat_map, AllByRecursion}
use Rattle.std.specs.Int.{w32, to_le_bytes}
use Rattle.std.proofs.lemmas.Bool.{ltb-true, leb-true, eqb-true, lt-ltb, le-ltb, le-leb}
use Rattle.std.proofs.lemmas.List.{append-nil, nil_from_length, take-append-drop, length-take, length-append, take_at, drop_at}
use Rattle.std.proofs.lemmas.List.Concat.{flat_map-cons}
use Rattle.base64.specs.GeneralPurpose.{IsBytes}
use Rattle.addr_tables.specs.declared.error.TableErr.TheVariants as errors
use Rattle.addr_tables.specs.declared.parts.Bucket.{Bucket}
use Rattle.addr_tables.specs.declared.parts.Fields.{Fields}
use Rattle.addr_tables.specs.Format.{table_of, bucket_numbers, field_numbers, bucket_table, entry_table}
use Rattle.addr_reading.specs.Lists.{read_times}
use Rattle.addr_tables.specs.Faults.{numbers_of, count_first, bucket_first, buckets_first, buckets_of, fields_of, entries_of, key_count}
use Rattle.addr_tables.specs.Rows.{AreNumbers}
use Rattle.addr_keys.proofs.FieldLemmas.{IsBytes-take}
use Rattle.addr_reading.proofs.StepLaws.{bind_ok, ok_is, chosen, guarded}
use Rattle.addr_tables.proofs.Steps.{both_true, numbers_again, even_table, table_again, numbers_small}

numbers-append : (xs ys : List ℕ) → AreNumbers (xs ++ ys) → AreNumbers xs × AreNumbers ys
numbers-append [] ys all = (tt, all)
numbers-append (x ∷ xs) ys all = let rest = numbers-append xs ys all.1 in ((all.0, rest.0), rest.1)

-- ---- counts

count_taken : (which : ℕ) (numbers : List ℕ) (x : ℕ × List ℕ) → count_first which numbers ≡ Ok x → (numbers ≡ x.0 ∷ x.1) × (x.0 < 2 ^ 31)
unfolding count_first
count_taken which [] x e = absurd cc
count_taken which (n ∷ rest) x e =
    let g = chosen (ltb n (2 ^ 31)) (errors.Short which) (n, rest) x e in
    subst (λ (y : ℕ × List ℕ). (n ∷ rest ≡ y.0 ∷ y.1) × (y.0 < 2 ^ 31)) g.1 (refl, ltb-true _ _ g.0)

count_again : (which n : ℕ) (rest : List ℕ) → n < 2 ^ 31 → count_first which (n ∷ rest) ≡ Ok (n, rest)
unfolding count_first
count_again which n rest lt = rw (lt-ltb n (2 ^ 31) lt) refl

-- ---- buckets

abbrev pub IsFew : Bucket → Type 0
IsFew b = length b.numbers < 2 ^ 31

bucket_taken : (numbers : List ℕ) (x : Bucket × List ℕ) → bucket_first numbers ≡ Ok x → (numbers ≡ bucket_numbers x.0 ++ x.1) × IsFew x.0
unfolding bucket_first
bucket_taken [] x e = absurd cc
bucket_taken (offset ∷ []) x e = absurd cc
bucket_taken (offset ∷ n ∷ rest) x e =
    let made : Bucket × List ℕ = (record { offset = offset; numbers = take n rest }, drop n rest) in
    let g = chosen (ltb n (2 ^ 31) && leb n (length rest)) (errors.Short 1) made x e in
    let t = both_true (ltb n (2 ^ 31)) (leb n (length rest)) g.0 in
    let small : n < 2 ^ 31 = ltb-true _ _ t.0 in
    let enough : n ≤ length rest = leb-true _ _ t.1 in
    let len : length (take n rest) ≡ n = omega (arith, length-take n rest) in
    let whole : offset ∷ n ∷ rest ≡ offset ∷ length (take n rest) ∷ (take n rest ++ drop n rest) =
    ap (λ (l : List ℕ). offset ∷ n ∷ l) (sym (take-append-drop n rest)) ∙ ap (λ (k : ℕ). offset ∷ k ∷ (take n rest ++ drop n rest)) (sym len) in
    subst (λ (y : Bucket × List ℕ). (offset ∷ n ∷ rest ≡ bucket_numbers y.0 ++ y.1) × IsFew y.0) g.1 (whole, omega arith)

bucket_again : (b : Bucket) (rest : List ℕ) → IsFew b → bucket_first (bucket_numbers b ++ rest) ≡ Ok (b, rest)
unfolding bucket_first
bucket_again b rest few =
    let n = length b.numbers in
    let enough : n ≤ length (b.numbers ++ rest) = omega (arith, length-append b.numbers rest) in
    rw (lt-ltb n (2 ^ 31) few, le-leb n (length (b.numbers ++ rest)) enough, take_at b.numbers rest n refl, drop_at b.numbers rest n refl) refl

-- the buckets behind those that were read
pub record MoreBuckets (n : ℕ) (before : List Bucket) (numbers : List ℕ) (all : List Bucket) (left : List ℕ) : Type 0 where
  pub more : List Bucket
  pub all_are : all ≡ before ++ more
  pub spelled : numbers ≡ flat_map bucket_numbers more ++ left
  pub many : length more ≡ n
  pub few : AllByRecursion IsFew more

buckets_taken : (n : ℕ) (before : List Bucket) (numbers : List ℕ) (x : List Bucket × List ℕ) → buckets_first n before numbers ≡ Ok x → MoreBuckets n before numbers x.0 x.1
unfolding read_times
buckets_taken zero before numbers x e =
    subst (λ (y : List Bucket × List ℕ). MoreBuckets 0 before numbers y.0 y.1) (ok_is (before, numbers) x e)
    (record { more = []; all_are = sym (append-nil before); spelled = refl; many = refl; few = tt })
buckets_taken (suc n) before numbers x e =
    let a = bind_ok (bucket_first numbers) _ x e in
    let first = bucket_taken numbers a.0 a.1 in
    let rest = buckets_taken n (before ++ a.0.0 ∷ []) a.0.1 x a.2 in
    record {
      more = a.0.0 ∷ rest.more;
      all_are = rest.all_are ∙ append_assoc before (a.0.0 ∷ []) rest.more;
      spelled = first.0 ∙ ap (λ (l : List ℕ). bucket_numbers a.0.0 ++ l) rest.spelled ∙ sym (append_assoc (bucket_numbers a.0.0) (flat_map bucket_numbers rest.more) x.1)
          ∙ ap (λ (l : List ℕ). l ++ x.1) (sym (flat_map-cons bucket_numbers a.0.0 rest.more));
      many = ap suc rest.many;
      few = (first.1, rest.few);
    }

buckets_again : (bs : List Bucket) (before : List Bucket) (rest : List ℕ) → AllByRecursion IsFew bs → buckets_first (length bs) before (flat_map bucket_numbers bs ++ rest) ≡ Ok (before ++ bs, rest)
unfolding read_times
buckets_again [] before rest few = ap (λ (l : List Bucket). Ok (l, rest)) (sym (append-nil before))
buckets_again (b ∷ bs) before rest few =
    let regrouped : flat_map bucket_numbers (b ∷ bs) ++ rest ≡ bucket_numbers b ++ (flat_map bucket_numbers bs ++ rest) =
    ap (λ (l : List ℕ). l ++ rest) (flat_map-cons bucket_numbers b bs) ∙ append_assoc (bucket_numbers b) (flat_map bucket_numbers bs) rest in
    ap (buckets_first (suc (length bs)) before) regrouped
    ∙ rw (bucket_again b (flat_map bucket_numbers bs ++ rest) few.0) (buckets_again bs (before ++ b ∷ []) rest few.1 ∙ ap (λ (l : List Bucket). Ok (l, rest)) (append_assoc before (b ∷ []) bs))

-- the bucket table
pub record AreBuckets (bytes : List ℕ) (bs : List Bucket) : Type 0 where
  pub spelled : bytes ≡ bucket_table bs
  pub few : AllByRecursion IsFew bs
  pub many : length bs < 2 ^ 31
  pub small : AreNumbers (flat_map bucket_numbers bs)

pub bucket_table_taken : (bytes : List ℕ) (bs : List Bucket) → IsBytes bytes → buckets_of bytes ≡ Ok bs → AreBuckets bytes bs
unfolding buckets_of bucket_table
bucket_table_taken bytes bs fits e =
    let a = bind_ok (count_first 1 (numbers_of bytes)) _ bs e in
    let b = bind_ok (buckets_first a.0.0 [] a.0.1) _ bs a.2 in
    let g = chosen (eqb (length b.0.1) 0 && eqb (length bytes % 4) 0) (errors.Trailing 1) b.0.0 bs b.2 in
    let t = both_true (eqb (length b.0.1) 0) (eqb (length bytes % 4) 0) g.0 in
    let first = count_taken 1 (numbers_of bytes) a.0 a.1 in
    let more = buckets_taken a.0.0 [] a.0.1 b.0 b.1 in
    let none : b.0.1 ≡ [] = nil_from_length b.0.1 (eqb-true _ _ t.0) in
    let rest : a.0.1 ≡ flat_map bucket_numbers more.more = more.spelled ∙ ap (λ (l : List ℕ). flat_map bucket_numbers more.more ++ l) none ∙ append-nil (flat_map bucket_numbers more.more) in
    let all : numbers_of bytes ≡ length more.more ∷ flat_map bucket_numbers more.more = first.0 ∙ ap (λ (l : List ℕ). a.0.0 ∷ l) rest ∙ ap (λ (k : ℕ). k ∷ flat_map bucket_numbers more.more) (sym more.many) in
    let small = subst AreNumbers all (numbers_small bytes fits) in
    let whole : bytes ≡ table_of (length more.more ∷ flat_map bucket_numbers more.more) = sym (table_again bytes fits (eqb-true _ _ t.1)) ∙ ap table_of all in
    subst (AreBuckets bytes) (sym more.all_are ∙ g.1) (record { spelled = whole; few = more.few; many = omega (arith, more.many, first.1); small = small.1 })

pub bucket_table_again : (bs : List Bucket) → AllByRecursion IsFew bs → length bs < 2 ^ 31 → AreNumbers (flat_map bucket_numbers bs) → buckets_of (bucket_table bs) ≡ Ok bs
unfolding buckets_of bucket_table
bucket_table_again bs few many small =
    let all : AreNumbers (length bs ∷ flat_map bucket_numbers bs) = (omega arith, small) in
    let found : buckets_first (length bs) [] (flat_map bucket_numbers bs) ≡ Ok (bs, []) = ap (buckets_first (length bs) []) (sym (append-nil (flat_map bucket_numbers bs))) ∙ buckets_again bs [] [] few in
    rw (numbers_again (length bs ∷ flat_map bucket_numbers bs) all, count_again 1 (length bs) (flat_map bucket_numbers bs) many, found, even_table (length bs ∷ flat_map bucket_numbers bs)) refl

-- ---- entries

fields_taken : (xs : List ℕ) (n : ℕ) → length xs ≡ 7 * n → (xs ≡ flat_map field_numbers (fields_of xs)) × (length (fields_of xs) ≡ n)
unfolding fields_of
fields_taken [] n len = (refl, omega arith)
fields_taken (a ∷ []) n len = absurd (omega arith)
fields_taken (a ∷ b ∷ []) n len = absurd (omega arith)
fields_taken (a ∷ b ∷ c ∷ []) n len = absurd (omega arith)
fields_taken (a ∷ b ∷ c ∷ d ∷ []) n len = absurd (omega arith)
fields_taken (a ∷ b ∷ c ∷ d ∷ e ∷ []) n len = absurd (omega arith)
fields_taken (a ∷ b ∷ c ∷ d ∷ e ∷ f ∷ []) n len = absurd (omega arith)
fields_taken (a ∷ b ∷ c ∷ d ∷ e ∷ f ∷ g ∷ rest) zero len = absurd (omega arith)
fields_taken (a ∷ b ∷ c ∷ d ∷ e ∷ f ∷ g ∷ rest) (suc n) len =
    let others = fields_taken rest n (omega arith) in
    let one : Fields = record { internal = a; provider = b; dep = c; dep_hash = d; extra = e; primary = f; kind = g } in
    (ap (λ (l : List ℕ). a ∷ b ∷ c ∷ d ∷ e ∷ f ∷ g ∷ l) others.0 ∙ sym (flat_map-cons field_numbers one (fields_of rest)), ap suc others.1)

fields_again : (es : List Fields) → fields_of (flat_map field_numbers es) ≡ es
unfolding fields_of
fields_again [] = refl
fields_again (e ∷ es) = ap fields_of (flat_map-cons field_numbers e es) ∙ ap (λ (l : List Fields). e ∷ l) (fields_again es)

pub seven_each : (es : List Fields) → length (flat_map field_numbers es) ≡ 7 * length es
seven_each [] = refl
seven_each (e ∷ es) = let other = seven_each es in ap length (flat_map-cons field_numbers e es) ∙ omega arith

-- the entry table
pub record AreEntries (bytes : List ℕ) (es : List Fields) : Type 0 where
  pub spelled : bytes ≡ entry_table es
  pub many : length es < 2 ^ 31
  pub small : AreNumbers (flat_map field_numbers es)

pub entry_table_taken : (bytes : List ℕ) (es : List Fields) → IsBytes bytes → entries_of bytes ≡ Ok es → AreEntries bytes es
unfolding entries_of entry_table
entry_table_taken bytes es fits e =
    let a = bind_ok (count_first 2 (numbers_of bytes)) _ es e in
    let p = guarded (ltb (length a.0.1) (7 * a.0.0)) (errors.Short 2) _ es a.2 in
    let g = chosen (eqb (length a.0.1) (7 * a.0.0) && eqb (length bytes % 4) 0) (errors.Trailing 2) (fields_of a.0.1) es p.1 in
    let t = both_true (eqb (length a.0.1) (7 * a.0.0)) (eqb (length bytes % 4) 0) g.0 in
    let first = count_taken 2 (numbers_of bytes) a.0 a.1 in
    let found = fields_taken a.0.1 a.0.0 (eqb-true _ _ t.0) in
    let fs = fields_of a.0.1 in
    let all : numbers_of bytes ≡ length fs ∷ flat_map field_numbers fs = first.0 ∙ ap (λ (l : List ℕ). a.0.0 ∷ l) found.0 ∙ ap (λ (k : ℕ). k ∷ flat_map field_numbers fs) (sym found.1) in
    let small = subst AreNumbers all (numbers_small bytes fits) in
    let whole : bytes ≡ table_of (length fs ∷ flat_map field_numbers fs) = sym (table_again bytes fits (eqb-true _ _ t.1)) ∙ ap table_of all in
    subst (AreEntries bytes) g.1 (record { spelled = whole; many = omega (arith, found.1, first.1); small = small.1 })

pub entry_table_again : (es : List Fields) → length es < 2 ^ 31 → AreNumbers (flat_map field_numbers es) → entries_of (entry_table es) ≡ Ok es
unfolding entries_of entry_table
entry_table_again es many small =
    let ns = flat_map field_numbers es in
    let all : AreNumbers (length es ∷ ns) = (omega arith, small) in
    let len = seven_each es in
    let enough : ltb (length ns) (7 * length es) ≡ false = le-ltb _ _ (omega arith) in
    let same : eqb (length ns) (7 * length es) ≡ true = eq-eqb _ _ len in
    rw (numbers_again (length es ∷ ns) all, count_again 2 (length es) ns many, enough, same, even_table (length es ∷ ns), fields_again es) refl

-- ---- the count of keys

one_table : (n : ℕ) → table_of (n ∷ []) ≡ to_le_bytes w32 n
unfolding table_of
one_table n = refl

four_each : (xs : List ℕ) → 4 * length (numbers_of xs) ≤ length xs
unfolding numbers_of
four_each [] = omega arith
four_each (a ∷ []) = omega arith
four_each (a ∷ b ∷ []) = omega arith
four_each (a ∷ b ∷ c ∷ []) = omega arith
four_each (a ∷ b ∷ c ∷ d ∷ rest) = omega (arith, four_each rest)

pub key_count_taken : (keys : List ℕ) (n : ℕ) → IsBytes keys → key_count keys ≡ Ok n → (take 4 keys ≡ to_le_bytes w32 n) × (n < 2 ^ 31)
unfolding key_count
key_count_taken keys n fits e =
    let a = bind_ok (count_first 0 (numbers_of (take 4 keys))) _ n e in
    let first = count_taken 0 (numbers_of (take 4 keys)) a.0 a.1 in
    let many = ap length first.0 in
    let short = four_each (take 4 keys) in
    let four : length (take 4 keys) ≡ 4 = omega (arith, length-take 4 keys) in
    let none : a.0.1 ≡ [] = nil_from_length a.0.1 (omega arith) in
    let even : length (take 4 keys) % 4 ≡ 0 = ap (λ (k : ℕ). k % 4) four in
    let front : IsBytes (take 4 keys) = IsBytes-take 4 keys fits in
    let whole : take 4 keys ≡ to_le_bytes w32 a.0.0 = sym (table_again (take 4 keys) front even) ∙ ap table_of (first.0 ∙ ap (λ (l : List ℕ). a.0.0 ∷ l) none) ∙ one_table a.0.0 in
    subst (λ (k : ℕ). (take 4 keys ≡ to_le_bytes w32 k) × (k < 2 ^ 31)) (ok_is a.0.0 n a.2) (whole, first.1)

pub key_count_again : (keys : List ℕ) (n : ℕ) → n < 2 ^ 31 → take 4 keys ≡ to_le_bytes w32 n → key_count keys ≡ Ok n
unfolding key_count
key_count_again keys n lt is =
    let small : AreNumbers (n ∷ []) = (omega arith, tt) in
    let numbers : numbers_of (take 4 keys) ≡ n ∷ [] = ap numbers_of (is ∙ sym (one_table n)) ∙ numbers_again (n ∷ []) small in
    rw (numbers, count_again 0 n [] lt) refl

-- The keys of buckets and the rows of entries: what is read stands there, and what stands there is read.
use Rattle.std.proofs.Common.{◌≡◌, ℕ, ◌^◌, Bool, true, false, cond, ltb, eqb, List, [], ◌∷◌, ◌++◌, length, Option, Some, None, Result, Ok, Err, refl, sym, ap, subst, ◌∙◌, append_assoc, eq-eqb}
use Rattle.std.specs.Prelude.{◌≢◌, ◌||◌, not}
use Rattle.std.specs.List.{list_any, list_all, AllByRecursion}
use Rattle.std.proofs.lemmas.Bool.{ltb-true, lt-ltb, eqb-true, eqb-false, false≢true}
use Rattle.std.proofs.lemmas.List.{append-nil}
use Rattle.std.proofs.lemmas.Slice.Eq.{bytes_eq-Decides}
use Rattle.base64.specs.GeneralPurpose.{IsBytes}
use Rattle.addr_keys.specs.declared.key.Key.{Key}
use Rattle.addr_keys.specs.declared.error.KeyErr.{KeyErr}
use Rattle.addr_keys.specs.Format.{key_text, IsForm}
use Rattle.addr_keys.specs.Faults.{key_read}
use Rattle.addr_keys.proofs.KeyLemmas.{is_found, is_read}
use Rattle.addr_keys.proofs.FormLemmas.{is_written_form, one_key}
use Rattle.addr_tables.specs.declared.error.TableErr.{TableErr}
use Rattle.addr_tables.specs.declared.error.TableErr.TheVariants as errors
use Rattle.addr_tables.specs.declared.rows.EntryRow.{EntryRow}
use Rattle.addr_tables.specs.declared.rows.Tables.{Tables}
use Rattle.addr_tables.specs.declared.parts.Bucket.{Bucket}
use Rattle.addr_tables.specs.declared.parts.Fields.{Fields}
use Rattle.addr_tables.specs.Format.{nothing, is_within, is_same_key}
use Rattle.addr_reading.specs.Lists.{read_all}
use Rattle.addr_tables.specs.Faults.{new_key, bucket_key, bucket_read, keys_read, bad_field, extra_or, extra_read, row_of, row_or, entry_read, entries_read}
use Rattle.addr_tables.specs.Rows.{Beside, AreDistinct, IsKeyOf, IsPlaced, AreNamed, IsExtra, IsRow}
use Rattle.addr_reading.proofs.StepLaws.{bind_ok, ok_is, chosen}

-- ---- equal keys

all_middle : {A : Type 0} (P : A → Type 0) (xs : List A) (y : A) (ys : List A) → AllByRecursion P (xs ++ y ∷ ys) → P y
all_middle P [] y ys all = all.0
all_middle P (x ∷ xs) y ys all = all_middle P xs y ys all.1

pub all_more : {A : Type 0} (P : A → Type 0) (xs : List A) (y : A) → AllByRecursion P xs → P y → AllByRecursion P (xs ++ y ∷ [])
all_more P [] y all last = (last, tt)
all_more P (x ∷ xs) y all last = (all.0, all_more P xs y all.1 last)

same_texts : (a b : Key) → is_same_key a b ≡ true → key_text a ≡ key_text b
unfolding is_same_key
same_texts a b e = (bytes_eq-Decides (key_text a) (key_text b)).0 e

same_when : (a b : Key) → a ≡ b → is_same_key a b ≡ true
unfolding is_same_key
same_when a b e = (bytes_eq-Decides (key_text a) (key_text b)).1 (ap key_text e)

apart_test : (key k : Key) (t : Bool) → is_same_key key k ≡ t → IsForm key (key_text key) → IsForm k (key_text k) → k ≢ key → t ≡ false
apart_test key k true e first second ne = absurd (ne (sym (one_key key k (key_text key) first (subst (IsForm k) (sym (same_texts key k e)) second))))
apart_test key k false e first second ne = refl

apart_before : (key : Key) (before : List Key) → IsForm key (key_text key) → AllByRecursion (λ k. IsForm k (key_text k)) before → AllByRecursion (λ k. k ≢ key) before → list_any (is_same_key key) before ≡ false
apart_before key [] form forms apart = refl
apart_before key (k ∷ ks) form forms apart = rw (apart_test key k (is_same_key key k) refl form forms.0 apart.0) (apart_before key ks form forms.1 apart.1)

apart_from_distinct : (before : List Key) (key : Key) (rest : List Key) → AreDistinct (before ++ key ∷ rest) → AllByRecursion (λ k. k ≢ key) before
apart_from_distinct [] key rest distinct = tt
apart_from_distinct (b ∷ bs) key rest distinct = (all_middle (λ other. b ≢ other) bs key rest distinct.0, apart_from_distinct bs key rest distinct.1)

either_false : (a b : Bool) → (a || b) ≡ false → (a ≡ false) × (b ≡ false)
either_false true b e = absurd cc
either_false false b e = (refl, e)

distinct_more : (before : List Key) (key : Key) → AreDistinct before → list_any (is_same_key key) before ≡ false → AreDistinct (before ++ key ∷ [])
distinct_more [] key distinct fresh = (tt, tt)
distinct_more (b ∷ bs) key distinct fresh =
    let parts = either_false (is_same_key key b) (list_any (is_same_key key) bs) fresh in
    (all_more (λ other. b ≢ other) bs key distinct.0 (λ e. false≢true (sym parts.0 ∙ same_when key b (sym e))), distinct_more bs key distinct.1 parts.1)

-- ---- the key of a bucket

bucket_read_again : (bytes : List ℕ) (count : ℕ) (before : List Key) (b : Bucket) (key : Key) → IsKeyOf bytes b key → list_any (is_same_key key) before ≡ false → IsPlaced count b → bucket_read bytes count before b ≡ Ok key
unfolding bucket_read bucket_key
bucket_read_again bytes count before b key is fresh placed =
    let read : key_read bytes b.offset ≡ Ok (key, is.1.0) = is_read bytes b.offset key is.1.0 is.1.1 in
    rw (lt-ltb b.offset (2 ^ 31) is.0, read, fresh, placed.1) refl

abbrev was_read : Key × ℕ → Result (Key × ℕ) KeyErr
was_read x = Ok x

abbrev new_or : Bool → List Key → Key → Result Key TableErr
new_or t before key = cond t (Err (errors.Key (length before))) (Ok key)

new_key_taken : (before : List Key) (r : Result (Key × ℕ) KeyErr) (key : Key) → new_key before r ≡ Ok key → (end : ℕ) × (r ≡ Ok (key, end)) × (list_any (is_same_key key) before ≡ false)
new_key_taken before (Ok x) key e = by_test (list_any (is_same_key x.0) before) refl e
  where
    by_test : (t : Bool) → list_any (is_same_key x.0) before ≡ t → new_or t before x.0 ≡ Ok key → (end : ℕ) × (was_read x ≡ was_read (key, end)) × (list_any (is_same_key key) before ≡ false)
    by_test true is f = absurd cc
    by_test false is f =
        let same : x.0 ≡ key = ok_is x.0 key f in
        subst (λ (k : Key). (end : ℕ) × (was_read x ≡ was_read (k, end)) × (list_any (is_same_key k) before ≡ false)) same (x.1, refl, is)
new_key_taken before (Err d) key e = absurd cc

abbrev key_or : List ℕ → List Key → Bucket → Bool → Result Key TableErr
key_or bytes before b t = cond t (new_key before (key_read bytes b.offset)) (Err (errors.Key (length before)))

bucket_key_taken : (bytes : List ℕ) (before : List Key) (b : Bucket) (key : Key) → IsBytes bytes → bucket_key bytes before b ≡ Ok key → IsKeyOf bytes b key × (list_any (is_same_key key) before ≡ false)
unfolding bucket_key
bucket_key_taken bytes before b key fits e = by_test (ltb b.offset (2 ^ 31)) refl e
  where
    by_test : (t : Bool) → ltb b.offset (2 ^ 31) ≡ t → key_or bytes before b t ≡ Ok key → IsKeyOf bytes b key × (list_any (is_same_key key) before ≡ false)
    by_test true is f =
        let found = new_key_taken before (key_read bytes b.offset) key f in
        ((ltb-true _ _ is, (found.0, is_found bytes b.offset (key, found.0) fits found.1)), found.2)
    by_test false is f = absurd cc

-- ---- all keys

pub keys_again : (bytes : List ℕ) (count : ℕ) (before : List Key) (bs : List Bucket) (ks : List Key) → Beside (IsKeyOf bytes) bs ks → AllByRecursion (λ k. IsForm k (key_text k)) before → AreDistinct (before ++ ks)
    → AllByRecursion (IsPlaced count) bs → keys_read bytes count before bs ≡ Ok (before ++ ks)
unfolding read_all
keys_again bytes count before [] [] keys forms distinct placed = ap (λ (l : List Key). Ok l) (sym (append-nil before))
keys_again bytes count before [] (k ∷ ks) keys forms distinct placed = absurd keys
keys_again bytes count before (b ∷ bs) [] keys forms distinct placed = absurd keys
keys_again bytes count before (b ∷ bs) (k ∷ ks) keys forms distinct placed =
    let form = is_written_form k _ keys.0.1.1.2 in
    let fresh = apart_before k before form forms (apart_from_distinct before k ks distinct) in
    let regroup : (before ++ k ∷ []) ++ ks ≡ before ++ k ∷ ks = append_assoc before (k ∷ []) ks in
    let others = keys_again bytes count (before ++ k ∷ []) bs ks keys.1 (all_more (λ j. IsForm j (key_text j)) before k forms form) (subst AreDistinct (sym regroup) distinct) placed.1 in
    rw (bucket_read_again bytes count before b k keys.0 fresh placed.0) (others ∙ ap (λ (l : List Key). Ok l) regroup)

pub record MoreKeys (bytes : List ℕ) (count : ℕ) (before : List Key) (bs : List Bucket) (all : List Key) : Type 0 where
  pub more : List Key
  pub all_are : all ≡ before ++ more
  pub keys : Beside (IsKeyOf bytes) bs more
  pub distinct : AreDistinct all
  pub placed : AllByRecursion (λ b. list_all (is_within count) b.numbers ≡ true) bs

pub keys_taken : (bytes : List ℕ) (count : ℕ) (before : List Key) (bs : List Bucket) (all : List Key) → IsBytes bytes → AreDistinct before → keys_read bytes count before bs ≡ Ok all → MoreKeys bytes count before bs all
unfolding read_all bucket_read
keys_taken bytes count before [] all fits distinct e =
    subst (MoreKeys bytes count before []) (ok_is before all e) (record { more = []; all_are = sym (append-nil before); keys = tt; distinct = distinct; placed = tt })
keys_taken bytes count before (b ∷ bs) all fits distinct e =
    let a = bind_ok (bucket_read bytes count before b) _ all e in
    let f = bind_ok (bucket_key bytes before b) _ a.0 a.1 in
    let g = chosen (list_all (is_within count) b.numbers) (errors.Place (length before)) f.0 a.0 f.2 in
    let first = bucket_key_taken bytes before b a.0 fits (f.1 ∙ ap (λ (k : Key). Ok k) g.1) in
    let rest = keys_taken bytes count (before ++ a.0 ∷ []) bs all fits (distinct_more before a.0 distinct first.1) a.2 in
    record {
      more = a.0 ∷ rest.more;
      all_are = rest.all_are ∙ append_assoc before (a.0 ∷ []) rest.more;
      keys = (first.0, rest.keys);
      distinct = rest.distinct;
      placed = (g.0, rest.placed);
    }

pub all_keys : (bytes : List ℕ) (count : ℕ) (bs : List Bucket) (all : List Key) → MoreKeys bytes count [] bs all → Beside (IsKeyOf bytes) bs all
all_keys bytes count bs all found = subst (Beside (IsKeyOf bytes) bs) (sym found.all_are) found.keys

-- ---- the row of an entry

named_again : (tables : Tables) (keys : ℕ) (e : Fields) → AreNamed tables keys e → bad_field tables.internals tables.providers keys tables.kinds e ≡ None
unfolding bad_field
named_again tables keys e named = rw (named.internal, named.provider, named.dep, named.extra, named.primary, named.kind) refl

passed : (t : Bool) (n : ℕ) (r : Option ℕ) → cond (not t) (Some n) r ≡ None → (t ≡ true) × (r ≡ None)
passed true n r e = (refl, e)
passed false n r e = absurd cc

named_taken : (tables : Tables) (keys : ℕ) (e : Fields) → bad_field tables.internals tables.providers keys tables.kinds e ≡ None → AreNamed tables keys e
unfolding bad_field
named_taken tables keys e is =
    let a = passed (is_within tables.internals e.internal) 0 _ is in
    let b = passed (is_within tables.providers e.provider) 1 _ a.1 in
    let c = passed (eqb e.dep nothing || is_within keys e.dep) 2 _ b.1 in
    let d = passed (eqb e.extra nothing || ltb e.extra (2 ^ 31)) 4 _ c.1 in
    let f = passed (is_within keys e.primary) 5 _ d.1 in
    let g = passed (is_within tables.kinds e.kind) 6 None f.1 in
    record { internal = a.0; provider = b.0; dep = c.0; extra = d.0; primary = f.0; kind = g.0 }

apart_eqb : (a b : ℕ) (t : Bool) → eqb a b ≡ t → a ≢ b → t ≡ false
apart_eqb a b true e ne = absurd (ne (eqb-true a b e))
apart_eqb a b false e ne = refl

extra_again : (extras : List ℕ) (place offset : ℕ) (o : Option Key) → IsExtra extras offset o → extra_read extras place offset ≡ Ok o
unfolding extra_read
extra_again extras place offset None is = rw (eq-eqb offset nothing is) refl
extra_again extras place offset (Some key) is =
    let read : key_read extras offset ≡ Ok (key, is.1.0) = is_read extras offset key is.1.0 is.1.1 in
    rw (apart_eqb offset nothing (eqb offset nothing) refl is.0, read) refl

extra_or_taken : (extras : List ℕ) (place offset : ℕ) (r : Result (Key × ℕ) KeyErr) (o : Option Key) → IsBytes extras → offset ≢ nothing → key_read extras offset ≡ r → extra_or place r ≡ Ok o → IsExtra extras offset o
extra_or_taken extras place offset (Ok x) o fits ne is e = subst (IsExtra extras offset) (ok_is (Some x.0) o e) (ne, (x.1, is_found extras offset x fits is))
extra_or_taken extras place offset (Err d) o fits ne is e = absurd cc

abbrev extra_if : List ℕ → ℕ → ℕ → Bool → Result (Option Key) TableErr
extra_if extras place offset t = cond t (Ok None) (extra_or place (key_read extras offset))

extra_taken : (extras : List ℕ) (place offset : ℕ) (o : Option Key) → IsBytes extras → extra_read extras place offset ≡ Ok o → IsExtra extras offset o
unfolding extra_read
extra_taken extras place offset o fits e = by_test (eqb offset nothing) refl e
  where
    by_test : (t : Bool) → eqb offset nothing ≡ t → extra_if extras place offset t ≡ Ok o → IsExtra extras offset o
    by_test true is f = subst (IsExtra extras offset) (ok_is None o f) (eqb-true offset nothing is)
    by_test false is f = extra_or_taken extras place offset (key_read extras offset) o fits (eqb-false offset nothing is) refl f

entry_again : (tables : Tables) (extras : List ℕ) (keys place : ℕ) (e : Fields) (row : EntryRow) → IsRow tables extras keys e row → entry_read tables extras keys place e ≡ Ok row
unfolding entry_read
entry_again tables extras keys place e row is =
    rw (named_again tables keys e is.named, extra_again extras place e.extra row.extra is.extra) (ap (λ (r : EntryRow). Ok r) (sym is.same))

row_or_taken : (tables : Tables) (extras : List ℕ) (keys place : ℕ) (e : Fields) (row : EntryRow) (bad : Option ℕ) → IsBytes extras → bad_field tables.internals tables.providers keys tables.kinds e ≡ bad → row_or extras place e bad ≡ Ok row → IsRow tables extras keys e row
row_or_taken tables extras keys place e row (Some n) fits is f = absurd cc
row_or_taken tables extras keys place e row None fits is f =
    let a = bind_ok (extra_read extras place e.extra) (λ extra. Ok (row_of e extra)) row f in
    subst (IsRow tables extras keys e) (ok_is (row_of e a.0) row a.2) (record { named = named_taken tables keys e is; extra = extra_taken extras place e.extra a.0 fits a.1; same = refl })

entry_taken : (tables : Tables) (extras : List ℕ) (keys place : ℕ) (e : Fields) (row : EntryRow) → IsBytes extras → entry_read tables extras keys place e ≡ Ok row → IsRow tables extras keys e row
unfolding entry_read
entry_taken tables extras keys place e row fits is = row_or_taken tables extras keys place e row (bad_field tables.internals tables.providers keys tables.kinds e) fits refl is

-- ---- all rows

pub entries_again : (tables : Tables) (extras : List ℕ) (keys : ℕ) (before : List EntryRow) (es : List Fields) (rows : List EntryRow) → Beside (IsRow tables extras keys) es rows → entries_read tables extras keys before es ≡ Ok (before ++ rows)
unfolding read_all
entries_again tables extras keys before [] [] is = ap (λ (l : List EntryRow). Ok l) (sym (append-nil before))
entries_again tables extras keys before [] (r ∷ rs) is = absurd is
entries_again tables extras keys before (e ∷ es) [] is = absurd is
entries_again tables extras keys before (e ∷ es) (r ∷ rs) is =
    rw (entry_again tables extras keys (length before) e r is.0) (entries_again tables extras keys (before ++ r ∷ []) es rs is.1 ∙ ap (λ (l : List EntryRow). Ok l) (append_assoc before (r ∷ []) rs))

pub record MoreRows (tables : Tables) (extras : List ℕ) (keys : ℕ) (before : List EntryRow) (es : List Fields) (all : List EntryRow) : Type 0 where
  pub more : List EntryRow
  pub all_are : all ≡ before ++ more
  pub rows : Beside (IsRow tables extras keys) es more

pub entries_taken : (tables : Tables) (extras : List ℕ) (keys : ℕ) (before : List EntryRow) (es : List Fields) (all : List EntryRow) → IsBytes extras → entries_read tables extras keys before es ≡ Ok all → MoreRows tables extras keys before es all
unfolding read_all
entries_taken tables extras keys before [] all fits e =
    subst (MoreRows tables extras keys before []) (ok_is before all e) (record { more = []; all_are = sym (append-nil before); rows = tt })
entries_taken tables extras keys before (f ∷ fs) all fits e =
    let a = bind_ok (entry_read tables extras keys (length before) f) _ all e in
    let rest = entries_taken tables extras keys (before ++ a.0 ∷ []) fs all fits a.2 in
    record {
      more = a.0 ∷ rest.more;
      all_are = rest.all_are ∙ append_assoc before (a.0 ∷ []) rest.more;
      rows = (entry_taken tables extras keys (length before) f a.0 fits a.1, rest.rows);
    }

pub all_rows : (tables : Tables) (extras : List ℕ) (keys : ℕ) (es : List Fields) (all : List EntryRow) → MoreRows tables extras keys [] es all → Beside (IsRow tables extras keys) es all
all_rows tables extras keys es all found = subst (Beside (IsRow tables extras keys) es) (sym found.all_are) found.rows

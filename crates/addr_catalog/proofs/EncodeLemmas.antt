-- The rows of tables that are written for a locator can be encoded: no key stands twice, each key and each extra object is
-- small, and each number names something.
use Rattle.std.proofs.Common.{◌≡◌, ◌≢◌, ℕ, zero, suc, pos, ◌+◌, ◌<◌, ◌≤◌, ◌^◌, ◌==◌, Bool, true, false, not, ◌&&◌, nat_lt, ◌||◌, List, [], ◌∷◌, ◌++◌, length, map, filter, Some, unwrap_or, refl, sym, ap, subst, ◌∙◌, arith, length-append}
use Rattle.std.specs.List.{list_any, list_all, flat_map, range_with_len, slice_get, AllByRecursion}
use Rattle.std.specs.Str.{bytes_eq}
use Rattle.std.specs.Int.{w32, to_le_bytes}
use Rattle.std.proofs.lemmas.Bool.{and_parts, and_from, ltb-true, lt-ltb, false≢true, eqb-true}
use Rattle.std.proofs.lemmas.List.{length-map}
use Rattle.std.proofs.lemmas.List.Concat.{flat_map-cons}
use Rattle.std.proofs.lemmas.Option.{none-some, slice_get_within}
use Rattle.addr_base.specs.declared.ids.BundleNo.{BundleNo}
use Rattle.addr_base.specs.declared.ids.KeyNo.{KeyNo}
use Rattle.addr_keys.specs.declared.key.Key.{Key}
use Rattle.addr_keys.specs.declared.key.Key.TheVariants.{Text, I32}
use Rattle.addr_keys.specs.Format.{key_text, is_ascii, utf16_bytes, short, long, IsShort, IsWritable}
use Rattle.addr_locate.specs.Rows.{Rows, AreRows, texts_once, text_at, place_of, has_dep, are_bundles, no_repeats, has_sound_deps, no_text_twice}
use Rattle.addr_locate.specs.declared.rows.AssetRow.{AssetRow}
use Rattle.addr_locate.specs.declared.rows.BundleRow.{BundleRow}
use Rattle.addr_locate.proofs.TextLemmas.{text_is_itself, any-texts_once}
use Rattle.addr_locate.proofs.TextLemmas as texts
use Rattle.addr_tables.specs.Format.{is_within}
use Rattle.addr_tables.specs.Rows.{AreDistinct}
use Rattle.addr_tables.specs.Written.{key_bytes, extra_text, CanWriteRow, CanEncode}
use Rattle.addr_tables.specs.declared.rows.EntryRow.{EntryRow}
use Rattle.addr_tables.specs.declared.rows.Rows.{Rows as TableRows}
use Rattle.addr_catalog_json.specs.Written.{options_text}
use Rattle.addr_catalog.specs.Inverted.{is_among, list_at, first_with, lists_with, AreNumbersBelow}
use Rattle.addr_catalog.specs.Written.{table_texts, bundle_key_numbers, asset_key_numbers, row_key_numbers, dep_numbers, is_several, dep_lists, table_keys, table_buckets, primary_of, dep_key, options_assembly, options_class, bundle_options, options_key, bundle_entry, asset_entry, each_numbered, table_entries, table_rows, row_ids, row_kinds, CanWrite}
use Rattle.addr_catalog.proofs.GoodLemmas.{all-append, all-filter}
use Rattle.addr_catalog.proofs.KeyNumberLemmas.{count_keys, paired, few_keys}
use Rattle.addr_catalog.proofs.FewLemmas.{twice-texts_once, few_from}
use Rattle.addr_catalog.proofs.RowLemmas.{place_within, rows_within, count_rows, count_entries, few_rows, sound_rows, IsNumbered}

-- ---- keys

abbrev number_key : ℕ → Key
number_key n = I32 (pos (n + 1))

text_apart : (t u : List ℕ) → bytes_eq u t ≡ false → Text t ≢ Text u
text_apart t u other same =
    let texts : t ≡ u = cc in
    let itself : bytes_eq u t ≡ true = ap (bytes_eq u) texts ∙ text_is_itself u in
    false≢true (sym other ∙ itself)

text_alone : (t : List ℕ) (ts : List (List ℕ)) → list_any (λ u. bytes_eq u t) ts ≡ false → AllByRecursion (λ other. Text t ≢ other) (map Text ts)
text_alone t [] out = tt
text_alone t (u ∷ us) out = by_test (bytes_eq u t) refl (text_alone t us)
  where
    by_test : (same : Bool) → bytes_eq u t ≡ same → (list_any (λ w. bytes_eq w t) us ≡ false → AllByRecursion (λ other. Text t ≢ other) (map Text us)) → AllByRecursion (λ other. Text t ≢ other) (map Text (u ∷ us))
    by_test true e rest = let clash : true ≡ false = rw e at out in absurd (cc)
    by_test false e rest = (text_apart t u e, rest (rw e at out))

no_number : (t : List ℕ) (ns : List ℕ) → AllByRecursion (λ other. Text t ≢ other) (map number_key ns)
no_number t [] = tt
no_number t (n ∷ ns) = ((λ same. cc), no_number t ns)

number_apart : (m n : ℕ) → m < n → number_key m ≢ number_key n
number_apart m n less same = let places : m + 1 ≡ n + 1 = cc in omega (arith, places)

number_alone : (m from count : ℕ) → m < from → AllByRecursion (λ other. number_key m ≢ other) (map number_key (range_with_len from count))
number_alone m from zero less = tt
number_alone m from (suc count) less = (number_apart m from less, number_alone m (from + 1) count (omega (arith, less)))

numbers_distinct : (from count : ℕ) → AreDistinct (map number_key (range_with_len from count))
numbers_distinct from zero = tt
numbers_distinct from (suc count) = (number_alone from (from + 1) count (omega arith), numbers_distinct (from + 1) count)

keys_distinct : (ts : List (List ℕ)) (count : ℕ) → no_text_twice ts ≡ true → AreDistinct (map Text ts ++ map number_key (range_with_len 0 count))
keys_distinct [] count once = numbers_distinct 0 count
keys_distinct (t ∷ ts) count once =
    let both = and_parts (not (list_any (λ u. bytes_eq u t) ts)) (no_text_twice ts) once in
    (all-append (λ other. Text t ≢ other) (map Text ts) (map number_key (range_with_len 0 count)) (text_alone t ts (not_there (list_any (λ u. bytes_eq u t) ts) both.0)) (no_number t (range_with_len 0 count)), keys_distinct ts count both.1)
  where
    not_there : (b : Bool) → not b ≡ true → b ≡ false
    not_there true e = absurd (false≢true e)
    not_there false e = refl

table_keys_distinct : (r : Rows) → AreDistinct (table_keys r)
unfolding table_keys table_texts
table_keys_distinct r = keys_distinct (table_texts r) (length (dep_lists r)) (twice-texts_once (map (λ (b : BundleRow). b.key) r.bundles ++ r.keys))

-- ---- what is small

text_small : (t : List ℕ) → length (key_text (Text t)) < 2 ^ 31 → IsWritable (Text t)
unfolding key_text
text_small t small = by_test (is_ascii t) refl small
  where
    four : (body : List ℕ) → length (long body) ≡ 4 + length body
    four body = length-append (to_le_bytes w32 (length body)) body

    by_test : (plain : Bool) → is_ascii t ≡ plain → length (key_text (Text t)) < 2 ^ 31 → IsWritable (Text t)
    by_test true e less = let within : length (0 ∷ long t) < 2 ^ 31 = rw e at less in rw e (omega (arith, within, four t))
    by_test false e less = let within : length (1 ∷ long (utf16_bytes t)) < 2 ^ 31 = rw e at less in rw e (omega (arith, within, four (utf16_bytes t)))

texts_small : (ts : List (List ℕ)) (ks : List Key) → length (flat_map key_text (map Text ts ++ ks)) < 2 ^ 31 → AllByRecursion IsWritable ks → AllByRecursion IsWritable (map Text ts ++ ks)
texts_small [] ks small all = all
texts_small (t ∷ ts) ks small all =
    let parts = ap length (flat_map-cons key_text (Text t) (map Text ts ++ ks)) ∙ length-append (key_text (Text t)) (flat_map key_text (map Text ts ++ ks)) in
    (text_small t (omega (arith, small, parts)), texts_small ts ks (omega (arith, small, parts)) all)

numbers_small : (ns : List ℕ) → AllByRecursion IsWritable (map number_key ns)
numbers_small [] = tt
numbers_small (n ∷ ns) = (tt, numbers_small ns)

keys_small : (r : Rows) → CanWrite r → AllByRecursion IsWritable (table_keys r)
unfolding table_keys key_bytes
keys_small r can =
    let numbers = map number_key (range_with_len 0 (length (dep_lists r))) in
    let whole = length-append (to_le_bytes w32 (length (table_keys r))) (flat_map key_text (table_keys r)) in
    texts_small (table_texts r) numbers (omega (arith, can.key_small, whole)) (numbers_small (range_with_len 0 (length (dep_lists r))))

extras_small : (rows : List EntryRow) → length (flat_map extra_text rows) < 2 ^ 31 → AllByRecursion (λ row. length (extra_text row) < 2 ^ 31) rows
extras_small [] small = tt
extras_small (row ∷ rows) small =
    let parts = ap length (flat_map-cons extra_text row rows) ∙ length-append (extra_text row) (flat_map extra_text rows) in
    (omega (arith, small, parts), extras_small rows (omega (arith, small, parts)))

plain_assembly : IsShort options_assembly
unfolding is_ascii
plain_assembly = (refl, omega arith)

plain_class : IsShort options_class
unfolding is_ascii
plain_class = (refl, omega arith)

options_small : (b : BundleRow) → length (key_text (options_key b)) < 2 ^ 31 → IsWritable (options_key b)
unfolding key_text
options_small b small =
    let text = options_text (bundle_options b) in
    let body = long (utf16_bytes text) in
    let inner = length-append (short options_class) body in
    let outer = length-append (short options_assembly) (short options_class ++ body) in
    let last = length-append (to_le_bytes w32 (length (utf16_bytes text))) (utf16_bytes text) in
    (plain_assembly, plain_class, omega (arith, small, inner, outer, last))

-- ---- buckets hold entries

abbrev pub AreEntries : ℕ → List ℕ → Type 0
AreEntries count ns = list_all (is_within count) ns ≡ true

within : (bound n : ℕ) → n < bound → n < 2 ^ 31 → is_within bound n ≡ true
unfolding is_within
within bound n less few = and_from (nat_lt n bound) (nat_lt n (2 ^ 31)) (lt-ltb n bound less) (lt-ltb n (2 ^ 31) few)

some_within : (p : ℕ → Bool) (bound from count : ℕ) → from + count ≤ bound → bound < 2 ^ 31 → AreEntries bound (filter p (range_with_len from count))
some_within p bound from zero le few = refl
some_within p bound from (suc count) le few = by_test (p from) refl (some_within p bound (from + 1) count (omega (arith, le)) few)
  where
    by_test : (kept : Bool) → p from ≡ kept → AreEntries bound (filter p (range_with_len (from + 1) count)) → AreEntries bound (filter p (range_with_len from (suc count)))
    by_test true k rest = rw k (and_from (is_within bound from) (list_all (is_within bound) (filter p (range_with_len (from + 1) count))) (within bound from (omega (arith, le)) (omega (arith, le, few))) rest)
    by_test false k rest = rw k rest

rows_with : (lists : List (List ℕ)) (ns : List ℕ) → length lists < 2 ^ 31 → AllByRecursion (AreEntries (length lists)) (map (lists_with lists) ns)
unfolding first_with
rows_with lists [] few = tt
rows_with lists (n ∷ ns) few = (some_within (λ k. is_among (list_at lists k) n) (length lists) 0 (length lists) (omega arith) few, rows_with lists ns few)

deps_within : (count bound : ℕ) (bs : List BundleNo) → count ≤ bound → bound < 2 ^ 31 → are_bundles count bs ≡ true → AreEntries bound (map (λ (b : BundleNo). b.0) bs)
deps_within count bound [] le few sound = refl
deps_within count bound (b ∷ bs) le few sound =
    let both = and_parts (nat_lt b.0 count) (are_bundles count bs) sound in
    and_from (is_within bound b.0) (list_all (is_within bound) (map (λ (b : BundleNo). b.0) bs)) (within bound b.0 (omega (arith, ltb-true b.0 count both.0, le)) (omega (arith, ltb-true b.0 count both.0, le, few))) (deps_within count bound bs le few both.1)

-- what a row's dependencies keep
record HasDeps (count : ℕ) (bs : List BundleNo) : Type 0 where
  there : 0 < length bs
  bundles : are_bundles count bs ≡ true

sound_deps : (count : ℕ) (bs : List BundleNo) → has_sound_deps count bs ≡ true → HasDeps count bs
sound_deps count bs sound =
    let front = (and_parts (has_dep bs && are_bundles count bs) (no_repeats bs) sound).0 in
    let both = and_parts (has_dep bs) (are_bundles count bs) front in
    record { there = ltb-true 0 (length bs) both.0; bundles = both.1 }

all_deps : (count : ℕ) (assets : List AssetRow) → list_all (λ a. has_sound_deps count a.deps) assets ≡ true → AllByRecursion (λ a. HasDeps count a.deps) assets
all_deps count [] sound = tt
all_deps count (a ∷ assets) sound =
    let both = and_parts (has_sound_deps count a.deps) (list_all (λ (a : AssetRow). has_sound_deps count a.deps) assets) sound in
    (sound_deps count a.deps both.0, all_deps count assets both.1)

lists_within : (count bound : ℕ) (assets : List AssetRow) → count ≤ bound → bound < 2 ^ 31 → AllByRecursion (λ a. HasDeps count a.deps) assets → AllByRecursion (AreEntries bound) (map dep_numbers assets)
lists_within count bound [] le few all = tt
lists_within count bound (a ∷ assets) le few all = (deps_within count bound a.deps le few all.0.bundles, lists_within count bound assets le few all.1)

all-texts_once : (P : List ℕ → Type 0) (ts : List (List ℕ)) → AllByRecursion P ts → AllByRecursion P (texts_once ts)
all-texts_once P [] all = tt
all-texts_once P (t ∷ ts) all = (all.0, all-filter P (λ u. not (bytes_eq u t)) (texts_once ts) (all-texts_once P ts all.1))

buckets_within : (r : Rows) → AreRows r → CanWrite r → AllByRecursion (AreEntries (length (table_entries r))) (table_buckets r)
unfolding table_buckets dep_lists
buckets_within r are can =
    let count = length (table_entries r) in
    let few = few_rows r (few_from r are can) in
    let rows : length (row_key_numbers r) ≡ count = count_rows r ∙ sym (count_entries r) in
    let front = subst (λ n. AllByRecursion (AreEntries n) (map (lists_with (row_key_numbers r)) (range_with_len 0 (length (table_texts r))))) rows (rows_with (row_key_numbers r) (range_with_len 0 (length (table_texts r))) (omega (arith, few, count_rows r))) in
    let deps = lists_within (length r.bundles) count r.assets (omega (arith, count_entries r)) (omega (arith, few, count_entries r)) (all_deps (length r.bundles) r.assets are.deps) in
    let lists = all-texts_once (AreEntries count) (filter is_several (map dep_numbers r.assets)) (all-filter (AreEntries count) is_several (map dep_numbers r.assets) deps) in
    all-append (AreEntries count) (map (lists_with (row_key_numbers r)) (range_with_len 0 (length (table_texts r)))) (dep_lists r) front lists

-- ---- the numbers of entries

-- a fact for each of a list and its number
each_holds : {A B : Type 0} (Q : B → Type 0) (P : B → Type 0) (f : ℕ → A → B) (n : ℕ) (xs : List A) → AllByRecursion Q (each_numbered f n xs) → ((i : ℕ) (x : A) → slice_get xs i ≡ Some x → Q (f (n + i) x) → P (f (n + i) x)) → AllByRecursion P (each_numbered f n xs)
each_holds Q P f n [] all holds = tt
each_holds {A} {B} Q P f n (x ∷ xs) all holds =
    let here : n + 0 ≡ n = omega arith in
    let first : P (f n x) = subst (λ m. P (f m x)) here (holds 0 x refl (subst (λ m. Q (f m x)) (sym here) all.0)) in
    (first, each_holds Q P f (n + 1) xs all.1 (λ i y is q. next i y (holds (suc i) y is) q))
  where
    far : (i : ℕ) → n + 1 + i ≡ n + suc i
    far i = omega arith

    next : (i : ℕ) (y : A) → (Q (f (n + suc i) y) → P (f (n + suc i) y)) → Q (f (n + 1 + i) y) → P (f (n + 1 + i) y)
    next i y step q = subst (λ m. P (f m y)) (sym (far i)) (step (subst (λ m. Q (f m y)) (far i) q))

all-left : {X : Type 0} (P : X → Type 0) (xs ys : List X) → AllByRecursion P (xs ++ ys) → AllByRecursion P xs
all-left P [] ys all = tt
all-left P (x ∷ xs) ys all = (all.0, all-left P xs ys all.1)

all-right : {X : Type 0} (P : X → Type 0) (xs ys : List X) → AllByRecursion P (xs ++ ys) → AllByRecursion P ys
all-right P [] ys all = all
all-right P (x ∷ xs) ys all = all-right P xs ys all.1

abbrev pub IsFilled : List ℕ → Type 0
IsFilled ns = 0 < length ns

first_below : (bound : ℕ) (ns : List ℕ) → IsFilled ns → AreNumbersBelow bound ns → unwrap_or (slice_get ns 0) 0 < bound
first_below bound [] filled below = absurd (omega (arith, filled))
first_below bound (n ∷ ns) filled below = ltb-true n bound (and_parts (nat_lt n bound) (list_all (λ m. nat_lt m bound) ns) below).0

firsts_below : (bound : ℕ) (lists : List (List ℕ)) (n : ℕ) → AllByRecursion (AreNumbersBelow bound) lists → AllByRecursion IsFilled lists → n < length lists → unwrap_or (slice_get (list_at lists n) 0) 0 < bound
firsts_below bound [] n below filled less = absurd (omega (arith, less))
firsts_below bound (ns ∷ lists) zero below filled less = first_below bound ns filled.0 below.0
firsts_below bound (ns ∷ lists) (suc n) below filled less = firsts_below bound lists n below.1 filled.1 (omega (arith, less))

bundles_filled : (texts : List (List ℕ)) (bundles : List BundleRow) → AllByRecursion IsFilled (map (bundle_key_numbers texts) bundles)
bundles_filled texts [] = tt
bundles_filled texts (b ∷ bundles) = (omega arith, bundles_filled texts bundles)

assets_filled : (texts : List (List ℕ)) (r : Rows) (assets : List AssetRow) → list_all (λ a. nat_lt 0 (length a.keys)) assets ≡ true → AllByRecursion IsFilled (map (asset_key_numbers texts r) assets)
assets_filled texts r [] keys = tt
assets_filled texts r (a ∷ assets) keys =
    let both = and_parts (nat_lt 0 (length a.keys)) (list_all (λ (a : AssetRow). nat_lt 0 (length a.keys)) assets) keys in
    let long : length (asset_key_numbers texts r a) ≡ length a.keys = length-map a.keys (λ (k : KeyNo). place_of texts (text_at r.keys k.0)) in
    (omega (arith, ltb-true 0 (length a.keys) both.0, long), assets_filled texts r assets both.1)

-- the primary key of each row is one of the texts
primary_within : (r : Rows) (n : ℕ) → AreRows r → CanWrite r → n < length r.bundles + length r.assets → primary_of r n < length (table_texts r)
unfolding primary_of row_key_numbers
primary_within r n are can less =
    let filled = all-append IsFilled (map (bundle_key_numbers (table_texts r)) r.bundles) (map (asset_key_numbers (table_texts r) r) r.assets) (bundles_filled (table_texts r) r.bundles) (assets_filled (table_texts r) r r.assets can.keys) in
    firsts_below (length (table_texts r)) (row_key_numbers r) n (rows_within r are) filled (omega (arith, less, count_rows r))

-- a list of several dependencies is one of those that have a key
list_there : (assets : List AssetRow) (i : ℕ) (a : AssetRow) → slice_get assets i ≡ Some a → is_several (dep_numbers a) ≡ true → list_any (λ u. bytes_eq u (dep_numbers a)) (filter is_several (map dep_numbers assets)) ≡ true
list_there [] i a is several = absurd (none-some a is)
list_there (x ∷ assets) zero a is several =
    let same : x ≡ a = cc in
    subst (λ (y : AssetRow). list_any (λ u. bytes_eq u (dep_numbers a)) (filter is_several (dep_numbers y ∷ map dep_numbers assets)) ≡ true) (sym same) (rw (several, text_is_itself (dep_numbers a)) refl)
list_there (x ∷ assets) (suc i) a is several = by_test (is_several (dep_numbers x)) refl (list_there assets i a is several)
  where
    or_true : (b : Bool) → (b || true) ≡ true
    or_true true = refl
    or_true false = refl

    by_test : (kept : Bool) → is_several (dep_numbers x) ≡ kept → list_any (λ u. bytes_eq u (dep_numbers a)) (filter is_several (map dep_numbers assets)) ≡ true → list_any (λ u. bytes_eq u (dep_numbers a)) (filter is_several (map dep_numbers (x ∷ assets))) ≡ true
    by_test true k rest = rw (k, rest) (or_true (bytes_eq (dep_numbers x) (dep_numbers a)))
    by_test false k rest = rw k rest

-- the key of some dependencies is one of the keys
key_within : (r : Rows) (ns : List ℕ) → AreRows r → CanWrite r → 0 < length ns → AreNumbersBelow (length r.bundles) ns → (is_several ns ≡ true → list_any (λ u. bytes_eq u ns) (dep_lists r) ≡ true) → dep_key r ns < length (table_texts r) + length (dep_lists r)
unfolding dep_key
key_within r [] are can filled below there = absurd (omega (arith, filled))
key_within r (b ∷ []) are can filled below there =
    let within = ltb-true b (length r.bundles) (and_parts (nat_lt b (length r.bundles)) true below).0 in
    let small = primary_within r b are can (omega (arith, within)) in
    omega (arith, small)
key_within r (b ∷ c ∷ ns) are can filled below there =
    let place = place_within (dep_lists r) (b ∷ c ∷ ns) (there (lt-ltb 1 (length (b ∷ c ∷ ns)) (omega arith))) in
    omega (arith, place)

numbers_below : (count : ℕ) (bs : List BundleNo) → are_bundles count bs ≡ true → AreNumbersBelow count (map (λ (b : BundleNo). b.0) bs)
numbers_below count [] sound = refl
numbers_below count (b ∷ bs) sound =
    let both = and_parts (nat_lt b.0 count) (are_bundles count bs) sound in
    and_from (nat_lt b.0 count) (list_all (λ n. nat_lt n count) (map (λ (b : BundleNo). b.0) bs)) both.0 (numbers_below count bs both.1)

dep_within : (r : Rows) (i : ℕ) (a : AssetRow) → AreRows r → CanWrite r → slice_get r.assets i ≡ Some a → HasDeps (length r.bundles) a.deps → dep_key r (dep_numbers a) < length (table_keys r)
unfolding dep_lists
dep_within r i a are can is deps =
    let long : length (dep_numbers a) ≡ length a.deps = length-map a.deps (λ (b : BundleNo). b.0) in
    let there : is_several (dep_numbers a) ≡ true → list_any (λ u. bytes_eq u (dep_numbers a)) (dep_lists r) ≡ true =
    λ several. any-texts_once (dep_numbers a) (filter is_several (map dep_numbers r.assets)) ∙ list_there r.assets i a is several in
    let small = key_within r (dep_numbers a) are can (omega (arith, deps.there, long)) (numbers_below (length r.bundles) a.deps deps.bundles) there in
    omega (arith, small, count_keys r)

-- ---- entries

count_ids : (r : Rows) → length (row_ids r) ≡ length r.bundles + length r.assets
count_ids r =
    let bundles = length-map r.bundles (λ (b : BundleRow). b.id) in
    let assets = length-map r.assets (λ (a : AssetRow). a.id) in
    length-append (map (λ (b : BundleRow). b.id) r.bundles) (map (λ (a : AssetRow). a.id) r.assets) ∙ rw (bundles, assets) refl

count_kinds : (r : Rows) → 0 < length r.bundles + length r.assets → length (row_kinds r) ≡ 1 + length r.kinds
count_kinds r some = by_test (length (row_ids r) == 0) refl
  where
    by_test : (none : Bool) → (length (row_ids r) == 0) ≡ none → length (row_kinds r) ≡ 1 + length r.kinds
    by_test true e = absurd (omega (arith, some, eqb-true (length (row_ids r)) 0 e, count_ids r))
    by_test false e = rw e (omega arith)

bundle_can : (r : Rows) (i : ℕ) (b : BundleRow) → AreRows r → CanWrite r → i < length r.bundles → length (extra_text (bundle_entry r i b)) < 2 ^ 31 → CanWriteRow (length (row_ids r)) 2 (length (table_keys r)) (length (row_kinds r)) (bundle_entry r i b)
bundle_can r i b are can less small =
    let few = few_rows r (few_from r are can) in
    let primary = primary_within r i are can (omega (arith, less)) in
    record {
      internal = within (length (row_ids r)) i (omega (arith, less, count_ids r)) (omega (arith, less, few));
      provider = within 2 0 (omega arith) (omega arith);
      dep = tt;
      primary = within (length (table_keys r)) (primary_of r i) (omega (arith, count_keys r, primary)) (omega (arith, few_keys r (few_from r are can), primary));
      kind = within (length (row_kinds r)) 0 (omega (arith, count_kinds r (omega (arith, less)))) (omega arith);
      extra = options_small b small;
    }

asset_can : (r : Rows) (i : ℕ) (a : AssetRow) → AreRows r → CanWrite r → slice_get r.assets i ≡ Some a → HasDeps (length r.bundles) a.deps → IsNumbered r.keys r.kinds a → CanWriteRow (length (row_ids r)) 2 (length (table_keys r)) (length (row_kinds r)) (asset_entry r (length r.bundles + i) a)
asset_can r i a are can is deps numbered =
    let few = few_rows r (few_from r are can) in
    let less = slice_get_within r.assets i a is in
    let row = length r.bundles + i in
    let primary = primary_within r row are can (omega (arith, less)) in
    let dep = dep_within r i a are can is deps in
    let kinds = texts.few_kinds r are.numbers in
    record {
      internal = within (length (row_ids r)) row (omega (arith, less, count_ids r)) (omega (arith, less, few));
      provider = within 2 1 (omega arith) (omega arith);
      dep = within (length (table_keys r)) (dep_key r (dep_numbers a)) dep (omega (arith, dep, few_keys r (few_from r are can), count_keys r));
      primary = within (length (table_keys r)) (primary_of r row) (omega (arith, count_keys r, primary)) (omega (arith, few_keys r (few_from r are can), primary));
      kind = within (length (row_kinds r)) (a.kind.0 + 1) (omega (arith, numbered.0, count_kinds r (omega (arith, less)))) (omega (arith, numbered.0, kinds, few));
      extra = tt;
    }

at_all : {X : Type 0} (P : X → Type 0) (xs : List X) (i : ℕ) (x : X) → AllByRecursion P xs → slice_get xs i ≡ Some x → P x
at_all P [] i x all is = absurd (none-some x is)
at_all P (y ∷ ys) zero x all is = let same : y ≡ x = cc in subst P same all.0
at_all P (y ∷ ys) (suc i) x all is = at_all P ys i x all.1 is

any : {X : Type 0} (xs : List X) → AllByRecursion (λ _. Unit {0}) xs
any [] = tt
any (x ∷ xs) = (tt, any xs)

entries_can : (r : Rows) → AreRows r → CanWrite r → AllByRecursion (CanWriteRow (length (row_ids r)) 2 (length (table_keys r)) (length (row_kinds r))) (table_entries r)
unfolding table_entries
entries_can r are can =
    let Can = CanWriteRow (length (row_ids r)) 2 (length (table_keys r)) (length (row_kinds r)) in
    let Small = λ (row : EntryRow). length (extra_text row) < 2 ^ 31 in
    let bundles = each_numbered (bundle_entry r) 0 r.bundles in
    let assets = each_numbered (asset_entry r) (length r.bundles) r.assets in
    let small = all-left Small bundles assets (extras_small (table_entries r) can.extra_small) in
    let deps = all_deps (length r.bundles) r.assets are.deps in
    let front = each_holds Small Can (bundle_entry r) 0 r.bundles small (λ i b is less. bundle_can r (0 + i) b are can (omega (arith, slice_get_within r.bundles i b is)) less) in
    let back = each_holds (λ _. Unit {0}) Can (asset_entry r) (length r.bundles) r.assets (any assets) (λ i a is _. asset_can r i a are can is (at_all (λ a. HasDeps (length r.bundles) a.deps) r.assets i a deps is) (at_all (IsNumbered r.keys r.kinds) r.assets i a (sound_rows r are) is)) in
    all-append Can bundles assets front back

-- ---- the whole

pub few_ids : (r : Rows) → AreRows r → CanWrite r → length (row_ids r) < 2 ^ 31
few_ids r are can = omega (arith, few_rows r (few_from r are can), count_ids r)

pub few_types : (r : Rows) → AreRows r → CanWrite r → length (row_kinds r) < 2 ^ 32
few_types r are can = by_test (length (row_ids r) == 0) refl
  where
    by_test : (none : Bool) → (length (row_ids r) == 0) ≡ none → length (row_kinds r) < 2 ^ 32
    by_test true e = rw e (omega arith)
    by_test false e = rw e (omega (arith, few_rows r (few_from r are can), texts.few_kinds r are.numbers))

rows_can : (r : Rows) → AreRows r → CanWrite r → CanEncode (table_rows r) (length (row_ids r)) 2 (length (row_kinds r))
rows_can r are can = record {
  paired = paired r;
  distinct = table_keys_distinct r;
  keys = keys_small r can;
  buckets = buckets_within r are can;
  entries = entries_can r are can;
  key_small = can.key_small;
  bucket_small = can.bucket_small;
  entry_small = can.entry_small;
  extra_small = can.extra_small;
}

pub can_encode : (r : Rows) (rows : TableRows) (internals providers kinds : ℕ) → rows ≡ table_rows r → internals ≡ length (row_ids r) → providers ≡ 2 → kinds ≡ length (row_kinds r) → AreRows r → CanWrite r → CanEncode rows internals providers kinds
can_encode r rows internals providers kinds same ids two types are can = rw (same, ids, two, types) (rows_can r are can)

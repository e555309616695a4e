-- The keys that are read of written rows: the primary one first, and the texts of the row's keys.
use Rattle.std.proofs.Common.{◌≡◌, ℕ, zero, suc, ◌==◌, ◌+◌, ◌<◌, Bool, true, false, not, ◌||◌, List, [], ◌∷◌, ◌++◌, length, map, filter, Option, Some, None, unwrap_or, pos, inl, inr, refl, sym, ap, ◌∙◌, subst, arith}
use Rattle.std.specs.List.{list_any, filter_map, range_with_len, slice_get, AllByRecursion}
use Rattle.std.specs.Option.{option_map}
use Rattle.std.specs.Str.{bytes_eq}
use Rattle.std.proofs.lemmas.Bool.{false≢true, and_parts, and_from, or_cases, or_left, or_right, eq-eqb, eqb-true}
use Rattle.std.proofs.lemmas.List.FromFn.{length-map-range_with_len}
use Rattle.std.proofs.lemmas.List.{length-map}
use Rattle.std.proofs.lemmas.List.Folds.{list_any-append}
use Rattle.std.proofs.lemmas.Option.{none-some, same_Some, slice_get-map, slice_get_within, slice_get-get_or, unwrap_or-slice_get}
use Rattle.addr_base.specs.declared.ids.KeyNo.{KeyNo}
use Rattle.addr_keys.specs.declared.key.Key.TheVariants.{Text, I32}
use Rattle.addr_locate.specs.Rows.{Rows, text_at, place_of}
use Rattle.addr_locate.specs.declared.rows.AssetRow.{AssetRow}
use Rattle.addr_locate.specs.declared.rows.BundleRow.{BundleRow}
use Rattle.addr_locate.proofs.NumberLemmas.{text_at-place_of}
use Rattle.addr_locate.proofs.TextLemmas.{any-texts_once, text_is_itself}
use Rattle.addr_catalog.specs.Entries.{key_text_at, keys_holding, with_first, asset_keys}
use Rattle.addr_catalog.specs.Inverted.{is_among, list_at, first_with, lists_with}
use Rattle.addr_catalog.specs.Written.{table_texts, bundle_key_numbers, asset_key_numbers, row_key_numbers, dep_lists, table_keys, table_buckets, primary_of, table_rows}
use Rattle.addr_catalog.proofs.AmongLemmas.{both_imply, any_found, found_number, among_kept, in_range, turned}
use Rattle.addr_catalog.proofs.InvertedLemmas.{has}
use Rattle.addr_catalog.proofs.RowLemmas.{place_within, text_there}

-- ---- what stands at a place

pub there_is : {X : Type 0} (xs : List X) (n : ℕ) → n < length xs → (x : X) × (slice_get xs n ≡ Some x)
there_is [] n within = absurd (omega (arith, within))
there_is (x ∷ xs) zero within = (x, refl)
there_is (x ∷ xs) (suc n) within = there_is xs n (omega (arith, within))

pub in_front : {X : Type 0} (xs ys : List X) (n : ℕ) (x : X) → slice_get xs n ≡ Some x → slice_get (xs ++ ys) n ≡ Some x
in_front [] ys n x is = absurd (none-some x is)
in_front (y ∷ xs) ys zero x is = is
in_front (y ∷ xs) ys (suc n) x is = in_front xs ys n x is

pub behind_all : {X : Type 0} (xs ys : List X) (place n : ℕ) → place ≡ length xs + n → slice_get (xs ++ ys) place ≡ slice_get ys n
behind_all [] ys place n at = ap (slice_get ys) (let same : place ≡ n = omega (arith, at) in same)
behind_all (x ∷ xs) ys zero n at = absurd (omega (arith, at))
behind_all (x ∷ xs) ys (suc place) n at = behind_all xs ys place n (omega (arith, at))

made_there : {X : Type 0} (F : ℕ → X) (from count n place : ℕ) → place ≡ from + n → n < count → slice_get (map F (range_with_len from count)) n ≡ Some (F place)
made_there F from zero n place at within = absurd (omega (arith, within))
made_there F from (suc count) zero place at within = let same : from ≡ place = omega (arith, at) in rw same refl
made_there F from (suc count) (suc n) place at within = made_there F (from + 1) count n place (omega (arith, at)) (omega (arith, within))

pub mapped : {X Y : Type 0} (f : X → Y) (xs : List X) (n : ℕ) (x : X) → slice_get xs n ≡ Some x → slice_get (map f xs) n ≡ Some (f x)
mapped f xs n x is = slice_get-map f xs n ∙ ap (option_map f) is

pub each_at : {X : Type 0} (P : X → Type 0) (xs : List X) (n : ℕ) (x : X) → AllByRecursion P xs → slice_get xs n ≡ Some x → P x
each_at P [] n x all is = absurd (none-some x is)
each_at P (y ∷ ys) zero x all is = subst P (same_Some y x is) all.0
each_at P (y ∷ ys) (suc n) x all is = each_at P ys n x all.1 is

-- ---- the texts of the table

pub mapped_there : {X : Type 0} (f : X → List ℕ) (xs : List X) (n : ℕ) (x : X) → slice_get xs n ≡ Some x → list_any (λ u. bytes_eq u (f x)) (map f xs) ≡ true
mapped_there f [] n x is = absurd (none-some x is)
mapped_there f (y ∷ ys) zero x is = or_left (bytes_eq (f y) (f x)) (list_any (λ u. bytes_eq u (f x)) (map f ys)) (ap (λ z. bytes_eq (f z) (f x)) (same_Some y x is) ∙ text_is_itself (f x))
mapped_there f (y ∷ ys) (suc n) x is = or_right (bytes_eq (f y) (f x)) (list_any (λ u. bytes_eq u (f x)) (map f ys)) (mapped_there f ys n x is)

pub bundle_key_there : (r : Rows) (n : ℕ) (b : BundleRow) → slice_get r.bundles n ≡ Some b → list_any (λ u. bytes_eq u b.key) (table_texts r) ≡ true
unfolding table_texts
bundle_key_there r n b is =
    let keys = map (λ (b : BundleRow). b.key) r.bundles in
    any-texts_once b.key (keys ++ r.keys) ∙ list_any-append (λ u. bytes_eq u b.key) keys r.keys ∙ or_left (list_any (λ u. bytes_eq u b.key) keys) (list_any (λ u. bytes_eq u b.key) r.keys) (mapped_there (λ (b : BundleRow). b.key) r.bundles n b is)

pub asset_key_there : (r : Rows) (k : ℕ) → k < length r.keys → list_any (λ u. bytes_eq u (text_at r.keys k)) (table_texts r) ≡ true
unfolding table_texts
asset_key_there r k within =
    let t = text_at r.keys k in
    let keys = map (λ (b : BundleRow). b.key) r.bundles in
    any-texts_once t (keys ++ r.keys) ∙ list_any-append (λ u. bytes_eq u t) keys r.keys ∙ or_right (list_any (λ u. bytes_eq u t) keys) (list_any (λ u. bytes_eq u t) r.keys) (text_there r.keys k within)

pub text_found : (texts : List (List ℕ)) (t : List ℕ) → list_any (λ u. bytes_eq u t) texts ≡ true → slice_get texts (place_of texts t) ≡ Some t
text_found texts t there =
    slice_get-get_or texts (place_of texts t) [] (place_within texts t there) ∙ ap Some (sym (unwrap_or-slice_get texts (place_of texts t) []) ∙ text_at-place_of texts t there)

no_texts : (ns : List ℕ) (k : ℕ) → key_text_at (map (λ n. I32 (pos (n + 1))) ns) k ≡ None
no_texts [] k = refl
no_texts (n ∷ ns) zero = refl
no_texts (n ∷ ns) (suc k) = no_texts ns k

texts_first : (texts : List (List ℕ)) (ns : List ℕ) (k : ℕ) → key_text_at (map Text texts ++ map (λ n. I32 (pos (n + 1))) ns) k ≡ slice_get texts k
texts_first [] ns k = no_texts ns k
texts_first (t ∷ ts) ns zero = refl
texts_first (t ∷ ts) ns (suc k) = texts_first ts ns k

-- the text of a key of the table is the table's text with that number
pub key_text : (r : Rows) (k : ℕ) → key_text_at (table_keys r) k ≡ slice_get (table_texts r) k
unfolding table_keys
key_text r k = texts_first (table_texts r) (range_with_len 0 (length (dep_lists r))) k

pub text_of_place : (r : Rows) (t : List ℕ) → list_any (λ u. bytes_eq u t) (table_texts r) ≡ true → key_text_at (table_keys r) (place_of (table_texts r) t) ≡ Some t
text_of_place r t there = key_text r (place_of (table_texts r) t) ∙ text_found (table_texts r) t there

-- ---- the numbers of a row's keys

pub bundle_row_key_numbers : (r : Rows) (n : ℕ) (b : BundleRow) → slice_get r.bundles n ≡ Some b → list_at (row_key_numbers r) n ≡ place_of (table_texts r) b.key ∷ []
unfolding row_key_numbers
bundle_row_key_numbers r n b is =
    let f = bundle_key_numbers (table_texts r) in
    ap (λ o. unwrap_or o []) (in_front (map f r.bundles) (map (asset_key_numbers (table_texts r) r) r.assets) n (f b) (mapped f r.bundles n b is))

pub asset_row_key_numbers : (r : Rows) (i n : ℕ) (a : AssetRow) → n ≡ length r.bundles + i → slice_get r.assets i ≡ Some a → list_at (row_key_numbers r) n ≡ asset_key_numbers (table_texts r) r a
unfolding row_key_numbers
asset_row_key_numbers r i n a at is =
    let f = bundle_key_numbers (table_texts r) in
    let g = asset_key_numbers (table_texts r) r in
    let long = length-map r.bundles f in
    ap (λ o. unwrap_or o []) (behind_all (map f r.bundles) (map g r.assets) n i (omega (arith, at, long)) ∙ mapped g r.assets i a is)

pub bundle_primary : (r : Rows) (n : ℕ) (b : BundleRow) → slice_get r.bundles n ≡ Some b → primary_of r n ≡ place_of (table_texts r) b.key
unfolding primary_of
bundle_primary r n b is = ap (λ ns. unwrap_or (slice_get ns 0) 0) (bundle_row_key_numbers r n b is)

pub asset_primary : (r : Rows) (i n : ℕ) (a : AssetRow) (k : KeyNo) (ks : List KeyNo) → n ≡ length r.bundles + i → slice_get r.assets i ≡ Some a → a.keys ≡ k ∷ ks → primary_of r n ≡ place_of (table_texts r) (text_at r.keys k.0)
unfolding primary_of
asset_primary r i n a k ks at is keys =
    ap (λ ns. unwrap_or (slice_get ns 0) 0) (asset_row_key_numbers r i n a at is) ∙ ap (λ (ls : List KeyNo). unwrap_or (slice_get (map (λ (l : KeyNo). place_of (table_texts r) (text_at r.keys l.0)) ls) 0) 0) keys

-- ---- buckets

pub text_bucket : (r : Rows) (k : ℕ) → k < length (table_texts r) → slice_get (table_buckets r) k ≡ Some (lists_with (row_key_numbers r) k)
unfolding table_buckets
text_bucket r k within =
    in_front (map (lists_with (row_key_numbers r)) (range_with_len 0 (length (table_texts r)))) (dep_lists r) k (lists_with (row_key_numbers r) k) (made_there (lists_with (row_key_numbers r)) 0 (length (table_texts r)) k k (omega arith) within)

pub list_bucket : (r : Rows) (place : ℕ) (ns : List ℕ) → slice_get (dep_lists r) place ≡ Some ns → slice_get (table_buckets r) (length (table_texts r) + place) ≡ Some ns
unfolding table_buckets
list_bucket r place ns is =
    let texts = length (table_texts r) in
    let long = length-map-range_with_len (lists_with (row_key_numbers r)) 0 texts in
    behind_all (map (lists_with (row_key_numbers r)) (range_with_len 0 texts)) (dep_lists r) (texts + place) place (omega (arith, long)) ∙ is

-- ---- the keys whose buckets hold a row, those that pass a test which texts alone pass

pub held_alike : (r : Rows) (n : ℕ) (test : ℕ → Bool) → n < length (row_key_numbers r) → ((k : ℕ) → test k ≡ true → k < length (table_texts r)) → list_any test (keys_holding (table_rows r) n) ≡ list_any test (list_at (row_key_numbers r) n)
unfolding first_with
held_alike r n test within texts = both_imply (list_any test (keys_holding (table_rows r) n)) (list_any test (list_at (row_key_numbers r) n)) up down
  where
    buckets : List (List ℕ)
    buckets = table_buckets r

    same : (k : ℕ) → test k ≡ true → has buckets n k ≡ is_among (list_at (row_key_numbers r) n) k
    same k passes = ap (λ o. is_among (unwrap_or o []) n) (text_bucket r k (texts k passes)) ∙ turned (row_key_numbers r) k n within

    up : list_any test (filter (has buckets n) (range_with_len 0 (length buckets))) ≡ true → list_any test (list_at (row_key_numbers r) n) ≡ true
    up there =
        let found = found_number test (filter (has buckets n) (range_with_len 0 (length buckets))) there in
        let k = found.0 in
        let kept = and_parts (is_among (range_with_len 0 (length buckets)) k) (has buckets n k) (sym (among_kept (has buckets n) (range_with_len 0 (length buckets)) k) ∙ found.1) in
        any_found test (list_at (row_key_numbers r) n) k (sym (same k found.2) ∙ kept.1) found.2

    down : list_any test (list_at (row_key_numbers r) n) ≡ true → list_any test (filter (has buckets n) (range_with_len 0 (length buckets))) ≡ true
    down there =
        let found = found_number test (list_at (row_key_numbers r) n) there in
        let k = found.0 in
        let small : k < length buckets = slice_get_within buckets k (lists_with (row_key_numbers r) k) (text_bucket r k (texts k found.2)) in
        let ranged = in_range 0 (length buckets) k (omega arith) (omega (arith, small)) in
        let kept = among_kept (has buckets n) (range_with_len 0 (length buckets)) k ∙ and_from (is_among (range_with_len 0 (length buckets)) k) (has buckets n k) ranged (same k found.2 ∙ found.1) in
        any_found test (filter (has buckets n) (range_with_len 0 (length buckets))) k kept found.2

-- one of the numbers put first
first_is : (p : ℕ) (ns : List ℕ) → is_among ns p ≡ true → with_first p ns ≡ p ∷ filter (λ m. not (m == p)) ns
unfolding with_first
first_is p ns there = rw there refl

first_alike : (test : ℕ → Bool) (p : ℕ) (ns : List ℕ) → is_among ns p ≡ true → list_any test (with_first p ns) ≡ list_any test ns
first_alike test p ns there = ap (list_any test) (first_is p ns there) ∙ both_imply (test p || list_any test others) (list_any test ns) up down
  where
    others : List ℕ
    others = filter (λ m. not (m == p)) ns

    up : (test p || list_any test others) ≡ true → list_any test ns ≡ true
    up some = elim (or_cases (test p) (list_any test others) some) [
      | inl here ↦ any_found test ns p there here
      | inr later ↦
          let found = found_number test others later in
          let kept = and_parts (is_among ns found.0) (not (found.0 == p)) (sym (among_kept (λ m. not (m == p)) ns found.0) ∙ found.1) in
          any_found test ns found.0 kept.0 found.2
    ]

    by_place : (k : ℕ) (same : Bool) → (k == p) ≡ same → is_among ns k ≡ true → test k ≡ true → (test p || list_any test others) ≡ true
    by_place k true is among passes = or_left (test p) (list_any test others) (ap test (sym (eqb-true k p is)) ∙ passes)
    by_place k false is among passes = or_right (test p) (list_any test others) (any_found test others k (among_kept (λ m. not (m == p)) ns k ∙ and_from (is_among ns k) (not (k == p)) among (ap not is)) passes)

    down : list_any test ns ≡ true → (test p || list_any test others) ≡ true
    down some = let found = found_number test ns some in by_place found.0 (found.0 == p) refl found.1 found.2

-- ---- the texts of an asset's keys

-- whether there is a text that passes
abbrev pub passes : (List ℕ → Bool) → Option (List ℕ) → Bool
passes test None = false
passes test (Some t) = test t

any_text : (test : List ℕ → Bool) (f : ℕ → Option (List ℕ)) (ns : List ℕ) → list_any test (filter_map f ns) ≡ list_any (λ n. passes test (f n)) ns
any_text test f [] = refl
any_text test f (n ∷ ns) = by_text (f n) refl (any_text test f ns)
  where
    by_text : (o : Option (List ℕ)) → f n ≡ o → list_any test (filter_map f ns) ≡ list_any (λ n. passes test (f n)) ns → list_any test (filter_map f (n ∷ ns)) ≡ list_any (λ n. passes test (f n)) (n ∷ ns)
    by_text None is rest = rw is rest
    by_text (Some t) is rest = rw is (ap (λ b. test t || b) rest)

texts_alone : (r : Rows) (test : List ℕ → Bool) (k : ℕ) → passes test (key_text_at (table_keys r) k) ≡ true → k < length (table_texts r)
texts_alone r test k some = by_text (slice_get (table_texts r) k) refl
  where
    by_text : (o : Option (List ℕ)) → slice_get (table_texts r) k ≡ o → k < length (table_texts r)
    by_text None is = absurd (false≢true (sym (ap (passes test) (key_text r k ∙ is)) ∙ some))
    by_text (Some t) is = slice_get_within (table_texts r) k t is

numbers_alike : (r : Rows) (test : List ℕ → Bool) (ks : List KeyNo) → AllByRecursion (λ (k : KeyNo). k.0 < length r.keys) ks → list_any (λ n. passes test (key_text_at (table_keys r) n)) (map (λ (k : KeyNo). place_of (table_texts r) (text_at r.keys k.0)) ks) ≡ list_any test (map (λ (k : KeyNo). text_at r.keys k.0) ks)
numbers_alike r test [] sound = refl
numbers_alike r test (k ∷ ks) sound =
    let first : passes test (key_text_at (table_keys r) (place_of (table_texts r) (text_at r.keys k.0))) ≡ test (text_at r.keys k.0) = ap (passes test) (text_of_place r (text_at r.keys k.0) (asset_key_there r k.0 sound.0)) in
    let rest = numbers_alike r test ks sound.1 in
    rw (first, rest) refl

-- the primary key is among those that are read
primary_held : (r : Rows) (i n : ℕ) (a : AssetRow) (k : KeyNo) (ks : List KeyNo) → n < length (row_key_numbers r) → n ≡ length r.bundles + i → slice_get r.assets i ≡ Some a → a.keys ≡ k ∷ ks → k.0 < length r.keys → is_among (keys_holding (table_rows r) n) (primary_of r n) ≡ true
primary_held r i n a k ks within at is keys small =
    let place = place_of (table_texts r) (text_at r.keys k.0) in
    let same = asset_primary r i n a k ks at is keys in
    let first : list_at (row_key_numbers r) n ≡ place ∷ map (λ (l : KeyNo). place_of (table_texts r) (text_at r.keys l.0)) ks = asset_row_key_numbers r i n a at is ∙ ap (map (λ (l : KeyNo). place_of (table_texts r) (text_at r.keys l.0))) keys in
    let low = place_within (table_texts r) (text_at r.keys k.0) (asset_key_there r k.0 small) in
    held_alike r n (λ m. m == primary_of r n) within (λ m e. omega (arith, eqb-true m (primary_of r n) e, same, low))
    ∙ (ap (λ ns. is_among ns (primary_of r n)) first ∙ or_left (place == primary_of r n) _ (eq-eqb place (primary_of r n) (sym same)))

pub keys_alike : (r : Rows) (i n : ℕ) (a : AssetRow) (k : KeyNo) (ks : List KeyNo) (test : List ℕ → Bool) → n < length (row_key_numbers r) → n ≡ length r.bundles + i → slice_get r.assets i ≡ Some a → a.keys ≡ k ∷ ks → AllByRecursion (λ (k : KeyNo). k.0 < length r.keys) a.keys → list_any test (asset_keys (table_keys r) (primary_of r n) (keys_holding (table_rows r) n)) ≡ list_any test (map (λ (k : KeyNo). text_at r.keys k.0) a.keys)
unfolding asset_keys
keys_alike r i n a k ks test within at is keys sound =
    let held = keys_holding (table_rows r) n in
    let f = key_text_at (table_keys r) in
    let small = (subst (AllByRecursion (λ (k : KeyNo). k.0 < length r.keys)) keys sound).0 in
    let there = primary_held r i n a k ks within at is keys small in
    any_text test f (with_first (primary_of r n) held) ∙ (first_alike (λ m. passes test (f m)) (primary_of r n) held there ∙ (held_alike r n (λ m. passes test (f m)) within (texts_alone r test) ∙ (ap (list_any (λ m. passes test (f m))) (asset_row_key_numbers r i n a at is) ∙ numbers_alike r test a.keys sound)))

pub first_alike_key : (r : Rows) (i n : ℕ) (a : AssetRow) (k : KeyNo) (ks : List KeyNo) → n < length (row_key_numbers r) → n ≡ length r.bundles + i → slice_get r.assets i ≡ Some a → a.keys ≡ k ∷ ks → k.0 < length r.keys → slice_get (asset_keys (table_keys r) (primary_of r n) (keys_holding (table_rows r) n)) 0 ≡ Some (text_at r.keys k.0)
unfolding asset_keys
first_alike_key r i n a k ks within at is keys small =
    let held = keys_holding (table_rows r) n in
    let f = key_text_at (table_keys r) in
    let there = primary_held r i n a k ks within at is keys small in
    let text : f (primary_of r n) ≡ Some (text_at r.keys k.0) = ap f (asset_primary r i n a k ks at is keys) ∙ text_of_place r (text_at r.keys k.0) (asset_key_there r k.0 small) in
    ap (λ ns. slice_get (filter_map f ns) 0) (first_is (primary_of r n) held there) ∙ rw text refl

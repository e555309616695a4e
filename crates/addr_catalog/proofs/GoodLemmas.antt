-- What holds of all rows that are read: they are few, and what `of_rows` asks holds of the assets.
use Rattle.std.proofs.Common.{◌≡◌, ℕ, zero, suc, ◌+◌, ◌≤◌, Bool, true, false, not, ◌&&◌, ◌||◌, List, [], ◌∷◌, ◌++◌, length, filter, Option, Some, None, Result, Ok, inl, inr, refl, ap, ◌∙◌, subst, arith}
use Rattle.std.specs.List.{list_all, filter_map, flat_map, AllByRecursion, IsDistinct}
use Rattle.std.specs.Option.{IfSome}
use Rattle.std.specs.Set.{is_member}
use Rattle.std.specs.Str.{bytes_eq}
use Rattle.std.proofs.lemmas.Bool.{and_from, lt-ltb, or_cases, or_left, or_right}
use Rattle.std.proofs.lemmas.Cmp.{nat_list_eq_equiv}
use Rattle.std.proofs.lemmas.Map.Made.{length-le_from_is_member}
use Rattle.std.proofs.lemmas.Option.{none-some}
use Rattle.addr_base.specs.declared.ids.BundleNo.{BundleNo}
use Rattle.addr_keys.specs.declared.key.Key.{Key}
use Rattle.addr_locate.specs.Rows.{are_bundles, has_dep, has_sound_deps, no_repeats, no_text_twice, texts_once, keys_of}
use Rattle.addr_locate.specs.declared.rows.BundleRow.{BundleRow}
use Rattle.addr_locate.specs.declared.rows.PlainAsset.{PlainAsset}
use Rattle.addr_tables.specs.Rows.{AreDistinct}
use Rattle.addr_tables.specs.declared.rows.EntryRow.{EntryRow}
use Rattle.addr_tables.specs.declared.rows.Rows.{Rows}
use Rattle.addr_catalog_json.specs.declared.document.Lists.{Lists}
use Rattle.addr_catalog.specs.declared.error.CatErr.{CatErr}
use Rattle.addr_catalog.specs.Catalogue.{somes}
use Rattle.addr_catalog.specs.Entries.{text_of, key_text_at, keys_holding, with_first, asset_keys, numbers_from, number_at, bundle_lists, dependencies, asset_row, asset_with, asset_unless, asset_read}
use Rattle.addr_reading.proofs.StepLaws.{bind_ok}
use Rattle.addr_catalog.specs.Steps.{read_each}
use Rattle.addr_catalog.proofs.AssetLemmas.{IsBelow, AreSound, numbers_below, dependencies_sound, keys_apart}

-- ---- whatever is read of each

pub each_long : {A B : Type 0} (read : ℕ → A → Result B CatErr) (place : ℕ) (xs : List A) (ys : List B) → read_each read place xs ≡ Ok ys → length ys ≡ length xs
unfolding read_each
each_long read place [] ys is = ap length (same_ok is)
  where
    same_ok : {C : Type 0} {a b : C} → ◌≡◌ {A = Result C CatErr} (Ok a) (Ok b) → b ≡ a
    same_ok e = cc
each_long read place (x ∷ xs) ys is =
    let first = bind_ok (read place x) _ ys is in
    let rest = bind_ok (read_each read (place + 1) xs) _ ys first.2 in
    let whole : ys ≡ first.0 ∷ rest.0 = cc in
    ap length whole ∙ ap suc (each_long read (place + 1) xs rest.0 rest.1)

pub each_all : {A B : Type 0} (P : B → Type 0) (read : ℕ → A → Result B CatErr) (holds : (place : ℕ) (x : A) (y : B) → read place x ≡ Ok y → P y) (place : ℕ) (xs : List A) (ys : List B) → read_each read place xs ≡ Ok ys → AllByRecursion P ys
unfolding read_each
each_all {A} {B} P read holds place [] ys is = let none : [] ≡ ys = cc in subst (λ (zs : List B). AllByRecursion P zs) none tt
each_all {A} {B} P read holds place (x ∷ xs) ys is =
    let first = bind_ok (read place x) _ ys is in
    let rest = bind_ok (read_each read (place + 1) xs) _ ys first.2 in
    let whole : first.0 ∷ rest.0 ≡ ys = cc in
    subst (λ (zs : List B). AllByRecursion P zs) whole (holds place x first.0 first.1, each_all P read holds (place + 1) xs rest.0 rest.1)

pub somes_few : {B : Type 0} (xs : List (Option B)) → length (somes xs) ≤ length xs
somes_few [] = omega arith
somes_few (Some x ∷ xs) = let rest = somes_few xs in omega arith
somes_few (None ∷ xs) = let rest = somes_few xs in omega arith

pub somes_all : {B : Type 0} (P : B → Type 0) (xs : List (Option B)) → AllByRecursion (λ o. IfSome o P) xs → AllByRecursion P (somes xs)
somes_all P [] all = tt
somes_all P (Some x ∷ xs) all = (all.0, somes_all P xs all.1)
somes_all P (None ∷ xs) all = somes_all P xs all.1

-- ---- asset rows

-- the texts of the table's keys
abbrev pub key_texts : Rows → List (List ℕ)
key_texts rows = filter_map text_of rows.keys

-- the row is sound, and each of its keys is one of the table's
pub record IsGood (count : ℕ) (rows : Rows) (a : PlainAsset) : Type 0 where
  pub deps : has_sound_deps count a.deps ≡ true
  pub keys : no_text_twice a.keys ≡ true
  pub known : AllByRecursion (λ t. is_member bytes_eq (key_texts rows) t ≡ true) a.keys

text_known : (ks : List Key) (n : ℕ) (t : List ℕ) → key_text_at ks n ≡ Some t → is_member bytes_eq (filter_map text_of ks) t ≡ true
text_known [] n t is = absurd (none-some t is)
text_known (k ∷ ks) zero t is = rw is (or_left (bytes_eq t t) _ (nat_list_eq_equiv.refl t))
text_known (k ∷ ks) (suc n) t is = by_text (text_of k) refl (text_known ks n t is)
  where
    by_text : (o : Option (List ℕ)) → text_of k ≡ o → is_member bytes_eq (filter_map text_of ks) t ≡ true → is_member bytes_eq (filter_map text_of (k ∷ ks)) t ≡ true
    by_text None found rest = rw found rest
    by_text (Some u) found rest = rw found (or_right (bytes_eq t u) _ rest)

texts_known : (ks : List Key) (ns : List ℕ) → AllByRecursion (λ t. is_member bytes_eq (filter_map text_of ks) t ≡ true) (filter_map (key_text_at ks) ns)
texts_known ks [] = tt
texts_known ks (n ∷ ns) = by_text (key_text_at ks n) refl (texts_known ks ns)
  where
    by_text : (o : Option (List ℕ)) → key_text_at ks n ≡ o → AllByRecursion (λ t. is_member bytes_eq (filter_map text_of ks) t ≡ true) (filter_map (key_text_at ks) ns) → AllByRecursion (λ t. is_member bytes_eq (filter_map text_of ks) t ≡ true) (filter_map (key_text_at ks) (n ∷ ns))
    by_text None found rest = rw found rest
    by_text (Some t) found rest = rw found (text_known ks n t found, rest)

row_good : (count : ℕ) (lists : Lists) (rows : Rows) (place : ℕ) (e : EntryRow) (d : BundleNo) (ds : List BundleNo) → AreDistinct rows.keys → AreSound count (d ∷ ds) → IsGood count rows (asset_row lists e (d ∷ ds) (asset_keys rows.keys e.primary (keys_holding rows place)))
unfolding asset_row asset_keys
row_good count lists rows place e d ds all sound = record {
  deps = and_from (has_dep (d ∷ ds) && are_bundles count (d ∷ ds)) (no_repeats (d ∷ ds)) (and_from (has_dep (d ∷ ds)) (are_bundles count (d ∷ ds)) (lt-ltb 0 (length (d ∷ ds)) (omega arith)) sound.0) sound.1;
  keys = keys_apart rows place e.primary all;
  known = texts_known rows.keys (with_first e.primary (keys_holding rows place));
}

with_good : (count : ℕ) (lists : Lists) (rows : Rows) (place : ℕ) (e : EntryRow) (deps : List BundleNo) (y : Option PlainAsset) → AreDistinct rows.keys → AreSound count deps → asset_with lists rows place e deps ≡ Ok y → IfSome y (IsGood count rows)
with_good count lists rows place e [] y all sound is = absurd (cc)
with_good count lists rows place e (d ∷ ds) y all sound is =
    let whole : Some (asset_row lists e (d ∷ ds) (asset_keys rows.keys e.primary (keys_holding rows place))) ≡ y = cc in
    subst (λ (o : Option PlainAsset). IfSome o (IsGood count rows)) whole (row_good count lists rows place e d ds all sound)

asset_good : (count : ℕ) (lists : Lists) (rows : Rows) (numbers : List (Option BundleNo)) → AreDistinct rows.keys → AllByRecursion (IsBelow count) numbers → (place : ℕ) (e : EntryRow) (y : Option PlainAsset) → asset_read lists rows numbers place e ≡ Ok y → IfSome y (IsGood count rows)
unfolding asset_read
asset_good count lists rows numbers all below place e y is = by_number (number_at numbers place) is
  where
    by_number : (o : Option BundleNo) → asset_unless lists rows numbers place e o ≡ Ok y → IfSome y (IsGood count rows)
    by_number None read = with_good count lists rows place e (dependencies (bundle_lists rows numbers) e.dep) y all (dependencies_sound count numbers rows.buckets e.dep below) read
    by_number (Some n) read = let none : None ≡ y = cc in subst (λ (o : Option PlainAsset). IfSome o (IsGood count rows)) none tt

pub assets_good : (lists : Lists) (rows : Rows) (bundles : List (Option BundleRow)) (entries : List EntryRow) (assets : List (Option PlainAsset)) → AreDistinct rows.keys
    → read_each (asset_read lists rows (numbers_from 0 bundles)) 0 entries ≡ Ok assets → AllByRecursion (IsGood (length (somes bundles)) rows) (somes assets)
assets_good lists rows bundles entries assets all is =
    let count = length (somes bundles) in
    let below = numbers_below 0 count bundles (omega arith) in
    somes_all (IsGood count rows) assets (each_all (λ (o : Option PlainAsset). IfSome o (IsGood count rows)) (asset_read lists rows (numbers_from 0 bundles)) (asset_good count lists rows (numbers_from 0 bundles) all below) 0 entries assets is)

pub deps_good : (count : ℕ) (rows : Rows) (assets : List PlainAsset) → AllByRecursion (IsGood count rows) assets → list_all (λ a. has_sound_deps count a.deps) assets ≡ true
deps_good count rows [] all = refl
deps_good count rows (a ∷ assets) all = and_from (has_sound_deps count a.deps) _ all.0.deps (deps_good count rows assets all.1)

pub keys_good : (count : ℕ) (rows : Rows) (assets : List PlainAsset) → AllByRecursion (IsGood count rows) assets → list_all (λ a. no_text_twice a.keys) assets ≡ true
keys_good count rows [] all = refl
keys_good count rows (a ∷ assets) all = and_from (no_text_twice a.keys) _ all.0.keys (keys_good count rows assets all.1)

pub deps_same : {count other : ℕ} {assets others : List PlainAsset} → count ≡ other → others ≡ assets → list_all (λ a. has_sound_deps count a.deps) assets ≡ true → list_all (λ a. has_sound_deps other a.deps) others ≡ true
deps_same {count} {other} {assets} {others} same are all =
    subst (λ (n : ℕ). list_all (λ (a : PlainAsset). has_sound_deps n a.deps) others ≡ true) same (ap (list_all (λ (a : PlainAsset). has_sound_deps count a.deps)) are ∙ all)

pub keys_same : {assets others : List PlainAsset} → others ≡ assets → list_all (λ a. no_text_twice a.keys) assets ≡ true → list_all (λ a. no_text_twice a.keys) others ≡ true
keys_same are all = ap (list_all (λ (a : PlainAsset). no_text_twice a.keys)) are ∙ all

-- ---- the keys of all rows are few

pub all-append : {X : Type 0} (P : X → Type 0) (xs ys : List X) → AllByRecursion P xs → AllByRecursion P ys → AllByRecursion P (xs ++ ys)
all-append P [] ys one other = other
all-append P (x ∷ xs) ys one other = (one.0, all-append P xs ys one.1 other)

known_texts : (count : ℕ) (rows : Rows) (assets : List PlainAsset) → AllByRecursion (IsGood count rows) assets → AllByRecursion (λ t. is_member bytes_eq (key_texts rows) t ≡ true) (flat_map (λ a. a.keys) assets)
known_texts count rows [] all = tt
known_texts count rows (a ∷ assets) all = all-append _ a.keys _ all.0.known (known_texts count rows assets all.1)

pub all-filter : {X : Type 0} (P : X → Type 0) (p : X → Bool) (xs : List X) → AllByRecursion P xs → AllByRecursion P (filter p xs)
all-filter P p [] all = tt
all-filter P p (x ∷ xs) all = by_test (p x) refl (all-filter P p xs all.1)
  where
    by_test : (t : Bool) → p x ≡ t → AllByRecursion P (filter p xs) → AllByRecursion P (filter p (x ∷ xs))
    by_test true is rest = rw is (all.0, rest)
    by_test false is rest = rw is rest

all-once : (P : List ℕ → Type 0) (ts : List (List ℕ)) → AllByRecursion P ts → AllByRecursion P (texts_once ts)
all-once P [] all = tt
all-once P (t ∷ ts) all = (all.0, all-filter P (λ u. not (bytes_eq u t)) (texts_once ts) (all-once P ts all.1))

others_differ : (t : List ℕ) (ts : List (List ℕ)) → AllByRecursion (λ u. bytes_eq t u ≡ false) (filter (λ u. not (bytes_eq u t)) ts)
others_differ t [] = tt
others_differ t (u ∷ ts) = by_test (bytes_eq u t) refl (others_differ t ts)
  where
    by_test : (same : Bool) → bytes_eq u t ≡ same → AllByRecursion (λ v. bytes_eq t v ≡ false) (filter (λ v. not (bytes_eq v t)) ts) → AllByRecursion (λ v. bytes_eq t v ≡ false) (filter (λ v. not (bytes_eq v t)) (u ∷ ts))
    by_test true is rest = rw is rest
    by_test false is rest = rw is (nat_list_eq_equiv.symm t u ∙ is, rest)

distinct-filter : (p : List ℕ → Bool) (ts : List (List ℕ)) → IsDistinct bytes_eq ts → IsDistinct bytes_eq (filter p ts)
unfolding IsDistinct
distinct-filter p [] all = tt
distinct-filter p (t ∷ ts) all = by_test (p t) refl (all-filter (λ u. bytes_eq t u ≡ false) p ts all.0) (distinct-filter p ts all.1)
  where
    by_test : (kept : Bool) → p t ≡ kept → AllByRecursion (λ u. bytes_eq t u ≡ false) (filter p ts) → IsDistinct bytes_eq (filter p ts) → IsDistinct bytes_eq (filter p (t ∷ ts))
    by_test true is out rest = rw is (out, rest)
    by_test false is out rest = rw is rest

once-distinct : (ts : List (List ℕ)) → IsDistinct bytes_eq (texts_once ts)
unfolding IsDistinct
once-distinct [] = tt
once-distinct (t ∷ ts) = (others_differ t (texts_once ts), distinct-filter (λ u. not (bytes_eq u t)) (texts_once ts) (once-distinct ts))

same_member : (table : List (List ℕ)) (q t : List ℕ) → bytes_eq q t ≡ true → is_member bytes_eq table q ≡ is_member bytes_eq table t
same_member [] q t same = refl
same_member (u ∷ table) q t same = ap (λ (b : Bool). b || is_member bytes_eq table q) (nat_list_eq_equiv.congr q t u same) ∙ ap (λ (b : Bool). bytes_eq t u || b) (same_member table q t same)

members_known : (table ts : List (List ℕ)) → AllByRecursion (λ t. is_member bytes_eq table t ≡ true) ts → (q : List ℕ) → is_member bytes_eq ts q ≡ true → is_member bytes_eq table q ≡ true
members_known table [] all q there = absurd (cc)
members_known table (t ∷ ts) all q there = elim (or_cases (bytes_eq q t) (is_member bytes_eq ts q) there) [
  | inl here ↦ same_member table q t here ∙ all.0
  | inr later ↦ members_known table ts all.1 q later
]

texts_few : (ks : List Key) → length (filter_map text_of ks) ≤ length ks
texts_few [] = omega arith
texts_few (k ∷ ks) = by_text (text_of k) refl (texts_few ks)
  where
    by_text : (o : Option (List ℕ)) → text_of k ≡ o → length (filter_map text_of ks) ≤ length ks → length (filter_map text_of (k ∷ ks)) ≤ length (k ∷ ks)
    by_text None is rest = rw is (omega arith)
    by_text (Some t) is rest = rw is (omega arith)

pub keys_few : (count : ℕ) (rows : Rows) (assets : List PlainAsset) → AllByRecursion (IsGood count rows) assets → length (keys_of assets) ≤ length rows.keys
keys_few count rows assets all =
    let ts = flat_map (λ (a : PlainAsset). a.keys) assets in
    let known = all-once (λ t. is_member bytes_eq (key_texts rows) t ≡ true) ts (known_texts count rows assets all) in
    let fewer = length-le_from_is_member nat_list_eq_equiv (texts_once ts) (key_texts rows) (once-distinct ts) (members_known (key_texts rows) (texts_once ts) known) in
    omega (arith, texts_few rows.keys)

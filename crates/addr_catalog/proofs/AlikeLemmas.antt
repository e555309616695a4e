-- What is written for rows is read as rows that say the same: for the law of written rows.
use Rattle.std.proofs.Common.{◌≡◌, ℕ, zero, suc, ◌==◌, ◌+◌, ◌<◌, ◌↔◌, Bool, true, false, nat_lt, List, [], ◌∷◌, ◌++◌, length, map, Some, None, Ok, inl, inr, refl, sym, ap, ◌∙◌, subst, arith, length-append, IsTrue, if◌then◌else◌}
use Rattle.std.specs.List.{list_any, list_all, slice_get, AllByRecursion, AllZip, Contains}
use Rattle.std.specs.Str.{bytes_eq}
use Rattle.std.proofs.lemmas.Bool.{false≢true, and_parts, or_cases, ne_eqb}
use Rattle.std.proofs.lemmas.List.{length-map}
use Rattle.std.proofs.lemmas.List.Folds.{list_any_at}
use Rattle.std.proofs.lemmas.Option.{slice_get_within}
use Rattle.addr_base.specs.declared.ids.BundleNo.{BundleNo}
use Rattle.addr_base.specs.declared.ids.KeyNo.{KeyNo}
use Rattle.addr_locate.specs.Alike.{AreAlikeRows}
use Rattle.addr_locate.specs.Rows.{Rows, AreRows, rows_of, written, text_at, has_dep, are_bundles, no_repeats}
use Rattle.addr_locate.specs.declared.rows.AssetRow.{AssetRow}
use Rattle.addr_locate.specs.declared.rows.BundleRow.{BundleRow}
use Rattle.addr_locate.specs.declared.rows.PlainAsset.{PlainAsset}
use Rattle.addr_locate.proofs.NumberLemmas.{written_back}
use Rattle.addr_locate.proofs.TextLemmas.{same_texts, text_is_itself}
use Rattle.addr_catalog_json.specs.declared.document.Lists.{Lists}
use Rattle.addr_tables.specs.declared.rows.EntryRow.{EntryRow}
use Rattle.addr_tables.specs.declared.rows.Rows.{Rows as TableRows}
use Rattle.addr_catalog.specs.Catalogue.{locator_read}
use Rattle.addr_catalog.specs.Entries.{keys_holding, asset_keys, asset_row, asset_with, asset_unless, asset_read}
use Rattle.addr_catalog.specs.ReadsAlike.{HasDistinctKeys, ReadsBackAlike}
use Rattle.addr_catalog.specs.Steps.{read_each}
use Rattle.addr_catalog.specs.Written.{table_keys, table_entries, table_rows, row_key_numbers, lists_of, row_ids, row_kinds, bundle_kind, bundle_entry, asset_entry, primary_of, each_numbered, HasOptions}
use Rattle.addr_catalog.proofs.RowLemmas.{sound_rows, count_rows, IsNumbered}
use Rattle.addr_catalog.proofs.ReadKeyLemmas.{each_at, keys_alike, first_alike_key}
use Rattle.addr_catalog.proofs.ReadBundleLemmas.{each_as, each_last, whole, asset_id, bundles_back, somes_first, somes_last, bundle_nos, number_below, number_behind}
use Rattle.addr_catalog.proofs.ReadDepLemmas.{all_pass, sound_deps, deps_back}

-- ---- texts in a list

text_in : (ts : List (List ℕ)) (t : List ℕ) → Contains ts t → list_any (λ u. bytes_eq u t) ts ≡ true
text_in ts t there = list_any_at (λ u. bytes_eq u t) ts there.0 t there.1 (ap (λ u. bytes_eq u t) there.2 ∙ text_is_itself t)

in_texts : (ts : List (List ℕ)) (t : List ℕ) → list_any (λ u. bytes_eq u t) ts ≡ true → Contains ts t
in_texts [] t there = absurd (false≢true there)
in_texts (u ∷ ts) t there = elim (or_cases (bytes_eq u t) (list_any (λ u. bytes_eq u t) ts) there) [
  | inl here ↦ (zero, omega arith, same_texts u t here)
  | inr later ↦ let found = in_texts ts t later in (suc found.0, omega (arith, found.1), found.2)
]

-- ---- the asset rows that are read

-- the row that is read of an asset's entry
abbrev pub row_back : Rows → ℕ → AssetRow → PlainAsset
row_back r n a = asset_row (lists_of r) (asset_entry r n a) a.deps (asset_keys (table_keys r) (primary_of r n) (keys_holding (table_rows r) n))

with_some : (lists : Lists) (rows : TableRows) (n : ℕ) (e : EntryRow) (deps : List BundleNo) → has_dep deps ≡ true → asset_with lists rows n e deps ≡ Ok (Some (asset_row lists e deps (asset_keys rows.keys e.primary (keys_holding rows n))))
with_some lists rows n e [] some = absurd (false≢true some)
with_some lists rows n e (d ∷ ds) some = refl

bundle_none : (r : Rows) (n : ℕ) (b : BundleRow) → n < length r.bundles → asset_read (lists_of r) (table_rows r) (bundle_nos r) n (bundle_entry r n b) ≡ Ok None
unfolding asset_read
bundle_none r n b within = ap (asset_unless (lists_of r) (table_rows r) (bundle_nos r) n (bundle_entry r n b)) (number_below r n within)

asset_some : (r : Rows) (i n : ℕ) (a : AssetRow) → AreRows r → HasDistinctKeys r → n ≡ length r.bundles + i → slice_get r.assets i ≡ Some a → asset_read (lists_of r) (table_rows r) (bundle_nos r) n (asset_entry r n a) ≡ Ok (Some (row_back r n a))
unfolding asset_read
asset_some r i n a are apart at is =
    let sound = and_parts _ (no_repeats a.deps) (sound_deps r i a are is) in
    let some = (and_parts (has_dep a.deps) (are_bundles (length r.bundles) a.deps) sound.0).0 in
    let e = asset_entry r n a in
    ap (asset_unless (lists_of r) (table_rows r) (bundle_nos r) n e) (number_behind r n (omega (arith, at)))
    ∙ (ap (asset_with (lists_of r) (table_rows r) n e) (deps_back r i a are apart is) ∙ with_some (lists_of r) (table_rows r) n e a.deps some)

assets_back : (r : Rows) → AreRows r → HasDistinctKeys r → read_each (asset_read (lists_of r) (table_rows r) (bundle_nos r)) 0 (table_entries r) ≡ Ok (each_numbered (λ n b. None) 0 r.bundles ++ each_numbered (λ n a. Some (row_back r n a)) (length r.bundles) r.assets)
unfolding table_entries
assets_back r are apart =
    let read = asset_read (lists_of r) (table_rows r) (bundle_nos r) in
    let count = length r.bundles in
    let assets = each_last read (asset_entry r) (λ n a. Some (row_back r n a)) count r.assets (λ i place a at is. asset_some r i place a are apart at is) in
    each_as read (bundle_entry r) (λ n b. None) 0 count r.bundles (each_numbered (asset_entry r) count r.assets) (each_numbered (λ n a. Some (row_back r n a)) count r.assets) (omega arith) (λ i place b at is. bundle_none r place b (omega (arith, at, slice_get_within r.bundles i b is))) assets

-- ---- each of them says what its row says

pub record SaysSame (r : Rows) (a : AssetRow) (p : PlainAsset) : Type 0 where
  pub id : a.id ≡ p.id
  pub kind : text_at r.kinds a.kind.0 ≡ p.kind
  pub deps : a.deps ≡ p.deps
  pub first : slice_get (map (λ (k : KeyNo). text_at r.keys k.0) a.keys) 0 ≡ slice_get p.keys 0
  pub keys : (text : List ℕ) → Contains (map (λ (k : KeyNo). text_at r.keys k.0) a.keys) text ↔ Contains p.keys text

-- the kind with the number after the row's own, behind that of bundles
kind_back : (r : Rows) (i : ℕ) (a : AssetRow) → slice_get r.assets i ≡ Some a → text_at (row_kinds r) (a.kind.0 + 1) ≡ text_at r.kinds a.kind.0
kind_back r i a is =
    let within = slice_get_within r.assets i a is in
    let long : length (row_ids r) ≡ length r.bundles + length r.assets = length-append (map (λ (b : BundleRow). b.id) r.bundles) (map (λ (a : AssetRow). a.id) r.assets) ∙ rw (length-map r.bundles (λ (b : BundleRow). b.id), length-map r.assets (λ (a : AssetRow). a.id)) refl in
    let filled : (length (row_ids r) == 0) ≡ false = ne_eqb (length (row_ids r)) 0 (λ e. omega (arith, e, long, within)) in
    let next : a.kind.0 + 1 ≡ suc a.kind.0 = omega arith in
    ap (λ (b : Bool). text_at (if b then [] else (bundle_kind ∷ r.kinds)) (a.kind.0 + 1)) filled ∙ ap (text_at (bundle_kind ∷ r.kinds)) next

first_of : (r : Rows) (ls : List KeyNo) (k : KeyNo) (ks : List KeyNo) → ls ≡ k ∷ ks → slice_get (map (λ (l : KeyNo). text_at r.keys l.0) ls) 0 ≡ Some (text_at r.keys k.0)
first_of r ls k ks is = ap (λ (ms : List KeyNo). slice_get (map (λ (l : KeyNo). text_at r.keys l.0) ms) 0) is

keys_of_row : (ks : List KeyNo) → nat_lt 0 (length ks) ≡ true → (k : KeyNo) × (rest : List KeyNo) × (ks ≡ k ∷ rest)
keys_of_row [] some = absurd (false≢true some)
keys_of_row (k ∷ ks) some = (k, ks, refl)

says_same : (r : Rows) (i n : ℕ) (a : AssetRow) → AreRows r → IsTrue (list_all (λ a. nat_lt 0 (length a.keys)) r.assets) → n ≡ length r.bundles + i → slice_get r.assets i ≡ Some a → SaysSame r a (row_back r n a)
unfolding asset_row
says_same r i n a are keyed at is =
    let sound : IsNumbered r.keys r.kinds a = each_at (IsNumbered r.keys r.kinds) r.assets i a (sound_rows r are) is in
    let some = keys_of_row a.keys (all_pass (λ (a : AssetRow). nat_lt 0 (length a.keys)) r.assets i a keyed is) in
    let k = some.0 in
    let ks = some.1 in
    let within : n < length (row_key_numbers r) = omega (arith, at, count_rows r, slice_get_within r.assets i a is) in
    let small : k.0 < length r.keys = (subst (AllByRecursion (λ (k : KeyNo). k.0 < length r.keys)) some.2 sound.1).0 in
    let back = asset_keys (table_keys r) (primary_of r n) (keys_holding (table_rows r) n) in
    let own = map (λ (k : KeyNo). text_at r.keys k.0) a.keys in
    let alike = λ (t : List ℕ). keys_alike r i n a k ks (λ u. bytes_eq u t) within at is some.2 sound.1 in
    record {
      id = sym (whole (text_at (row_ids r) n) ∙ asset_id r i n a at is);
      kind = sym (kind_back r i a is);
      deps = refl;
      first = first_of r a.keys k ks some.2 ∙ sym (first_alike_key r i n a k ks within at is some.2 small);
      keys = λ t. ((λ there. in_texts back t (alike t ∙ text_in own t there)), (λ there. in_texts own t (sym (alike t) ∙ text_in back t there)));
    }

-- ---- rows numbered again

row_alike : (r s : Rows) (a b : AssetRow) (p : PlainAsset) → written s b ≡ p → SaysSame r a p → AreAlikeRows r s a b
row_alike r s a b p same says = record {
  id = says.id ∙ sym (ap (λ (w : PlainAsset). w.id) same);
  kind = says.kind ∙ sym (ap (λ (w : PlainAsset). w.kind) same);
  deps = says.deps ∙ sym (ap (λ (w : PlainAsset). w.deps) same);
  first = says.first ∙ sym (ap (λ (w : PlainAsset). slice_get w.keys 0) same);
  keys = λ text. (let P : PlainAsset → Type 0 = λ w. Contains (map (λ (k : KeyNo). text_at r.keys k.0) a.keys) text ↔ Contains w.keys text in subst P (sym same) (says.keys text));
}

rows_alike : (r s : Rows) (made : ℕ → AssetRow → PlainAsset) (n : ℕ) (rows others : List AssetRow) → ((i place : ℕ) (a : AssetRow) → place ≡ n + i → slice_get rows i ≡ Some a → SaysSame r a (made place a)) → map (written s) others ≡ each_numbered made n rows → AllZip (AreAlikeRows r s) rows others
rows_alike r s made n [] [] says same = tt
rows_alike r s made n [] (b ∷ others) says same = cc
rows_alike r s made n (a ∷ rows) [] says same = cc
rows_alike r s made n (a ∷ rows) (b ∷ others) says same =
    let head : written s b ≡ made n a = cc in
    let rest : map (written s) others ≡ each_numbered made (n + 1) rows = cc in
    (row_alike r s a b (made n a) head (says zero n a (omega arith) refl), rows_alike r s made (n + 1) rows others (λ i place c at is. says (suc i) place c (omega (arith, at)) is) rest)

first_bundles : (bundles : List BundleRow) (assets : List PlainAsset) → bundles ≡ (rows_of bundles assets).bundles
unfolding rows_of
first_bundles bundles assets = refl

pub reads_back : (r : Rows) → AreRows r → IsTrue (list_all (λ a. nat_lt 0 (length a.keys)) r.assets) → AllByRecursion HasOptions r.bundles → HasDistinctKeys r → ReadsBackAlike r
unfolding locator_read
reads_back r are keyed again apart =
    let assets = each_numbered (row_back r) (length r.bundles) r.assets in
    let s = rows_of r.bundles assets in
    let read : locator_read (lists_of r) (table_rows r) ≡ Ok s = rw (bundles_back r again, assets_back r are apart, somes_first r, somes_last (row_back r) 0 (length r.bundles) r.bundles r.assets) refl in
    (s, read, (first_bundles r.bundles assets, rows_alike r s (row_back r) (length r.bundles) r.assets s.assets (λ i place a at is. says_same r i place a are keyed at is) (written_back r.bundles assets)))

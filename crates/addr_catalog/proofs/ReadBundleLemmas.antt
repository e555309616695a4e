-- The entries of written rows are read as bundles: those of bundles as these, and those of assets as none.
use Rattle.std.proofs.Common.{◌≡◌, ℕ, zero, suc, ◌+◌, ◌≤◌, ◌<◌, List, [], ◌∷◌, ◌++◌, length, map, Option, Some, None, unwrap_or, Result, Ok, refl, sym, ap, ◌∙◌, subst, arith}
use Rattle.std.specs.List.{slice_get, AllByRecursion}
use Rattle.std.specs.Option.{option_and_then}
use Rattle.std.proofs.lemmas.List.{length-map}
use Rattle.addr_base.specs.declared.ids.BundleNo.{BundleNo}
use Rattle.addr_locate.specs.Rows.{Rows, text_at}
use Rattle.addr_locate.specs.declared.rows.AssetRow.{AssetRow}
use Rattle.addr_locate.specs.declared.rows.BundleRow.{BundleRow}
use Rattle.addr_catalog.specs.Catalogue.{somes}
use Rattle.addr_catalog.specs.Entries.{bundle_provider, asset_provider, role_of, options_of, key_text_at, keys_holding, bundle_key, bundle_row, row_or_fault, row_in_role, bundle_read, numbers_from, number_at}
use Rattle.addr_catalog.specs.InternalIds.{is_mark, number_of, prefixed_or, whole_id}
use Rattle.addr_catalog.specs.Steps.{read_each}
use Rattle.addr_catalog.specs.Written.{table_keys, table_entries, table_rows, lists_of, row_ids, bundle_entry, asset_entry, bundle_options, HasOptions, primary_of, each_numbered}
use Rattle.addr_catalog.specs.declared.error.CatErr.{CatErr}
use Rattle.addr_catalog.specs.declared.roles.Role.TheVariants.{Bundle, Asset}
use Rattle.std.specs.List.{after_last, before_last}
use Rattle.addr_catalog.proofs.ReadKeyLemmas.{in_front, behind_all, mapped, each_at, bundle_key_there, bundle_primary, text_of_place}

-- ---- each entry is read as something

pub each_as : {A E B : Type 0} (read : ℕ → E → Result B CatErr) (f : ℕ → A → E) (made : ℕ → A → B) (n m : ℕ) (xs : List A) (ys : List E) (vs : List B) → m ≡ n + length xs
    → ((i place : ℕ) (x : A) → place ≡ n + i → slice_get xs i ≡ Some x → read place (f place x) ≡ Ok (made place x))
    → read_each read m ys ≡ Ok vs → read_each read n (each_numbered f n xs ++ ys) ≡ Ok (each_numbered made n xs ++ vs)
unfolding read_each
each_as {A} {E} {B} read f made n m [] ys vs at reads rest = let same : m ≡ n = omega (arith, at) in subst (λ (k : ℕ). read_each read k ys ≡ Ok vs) same rest
each_as {A} {E} {B} read f made n m (x ∷ xs) ys vs at reads rest =
    let first = reads zero n x (omega arith) refl in
    let later = each_as read f made (n + 1) m xs ys vs (omega (arith, at)) (λ i place y place_is is. reads (suc i) place y (omega (arith, place_is)) is) rest in
    rw (first, later) refl

pub each_last : {A E B : Type 0} (read : ℕ → E → Result B CatErr) (f : ℕ → A → E) (made : ℕ → A → B) (n : ℕ) (xs : List A)
    → ((i place : ℕ) (x : A) → place ≡ n + i → slice_get xs i ≡ Some x → read place (f place x) ≡ Ok (made place x))
    → read_each read n (each_numbered f n xs) ≡ Ok (each_numbered made n xs)
unfolding read_each
each_last read f made n [] reads = refl
each_last read f made n (x ∷ xs) reads =
    let first = reads zero n x (omega arith) refl in
    let later = each_last read f made (n + 1) xs (λ i place y place_is is. reads (suc i) place y (omega (arith, place_is)) is) in
    rw (first, later) refl

-- ---- the parts of a row

-- where there are no prefixes an id stands for itself
no_prefix : (n : Option ℕ) → option_and_then (slice_get {X = List ℕ} []) n ≡ None
no_prefix None = refl
no_prefix (Some n) = refl

pub whole : (id : List ℕ) → whole_id [] id ≡ id
unfolding whole_id
whole id = ap (prefixed_or id (after_last is_mark id)) (no_prefix (number_of (before_last is_mark id)))

bundle_role : role_of bundle_provider ≡ Some Bundle
unfolding role_of
bundle_role = refl

asset_role : role_of asset_provider ≡ Some Asset
unfolding role_of
asset_role = refl

pub bundle_id : (r : Rows) (n : ℕ) (b : BundleRow) → slice_get r.bundles n ≡ Some b → text_at (row_ids r) n ≡ b.id
bundle_id r n b is =
    let id = λ (b : BundleRow). b.id in
    ap (λ o. unwrap_or o []) (in_front (map id r.bundles) (map (λ (a : AssetRow). a.id) r.assets) n b.id (mapped id r.bundles n b is))

pub asset_id : (r : Rows) (i n : ℕ) (a : AssetRow) → n ≡ length r.bundles + i → slice_get r.assets i ≡ Some a → text_at (row_ids r) n ≡ a.id
asset_id r i n a at is =
    let bundle = λ (b : BundleRow). b.id in
    let asset = λ (a : AssetRow). a.id in
    let long = length-map r.bundles bundle in
    ap (λ o. unwrap_or o []) (behind_all (map bundle r.bundles) (map asset r.assets) n i (omega (arith, at, long)) ∙ mapped asset r.assets i a is)

bundle_key_is : (r : Rows) (n : ℕ) (b : BundleRow) (ns : List ℕ) → slice_get r.bundles n ≡ Some b → bundle_key (table_keys r) (primary_of r n) ns ≡ b.key
unfolding bundle_key
bundle_key_is r n b ns is =
    let found : key_text_at (table_keys r) (primary_of r n) ≡ Some b.key = ap (key_text_at (table_keys r)) (bundle_primary r n b is) ∙ text_of_place r b.key (bundle_key_there r n b is) in
    rw found refl

same_row : (b : BundleRow) (key id : List ℕ) → b.key ≡ key → b.id ≡ id → ◌≡◌ {A = BundleRow} (record { key = key; size = b.size; digest = b.digest; name = b.name; id = id }) b
same_row b key id same_key same_id = rw (sym same_key, sym same_id) refl

row_is : (r : Rows) (n : ℕ) (b : BundleRow) → slice_get r.bundles n ≡ Some b → bundle_row (lists_of r) (bundle_entry r n b) (bundle_key (table_keys r) (primary_of r n) (keys_holding (table_rows r) n)) (bundle_options b) ≡ b
unfolding bundle_row
row_is r n b is =
    same_row b (bundle_key (table_keys r) (primary_of r n) (keys_holding (table_rows r) n)) (whole_id [] (text_at (row_ids r) n)) (sym (bundle_key_is r n b (keys_holding (table_rows r) n) is)) (sym (whole (text_at (row_ids r) n) ∙ bundle_id r n b is))

-- ---- the entries as bundles

bundle_reads : (r : Rows) (n : ℕ) (b : BundleRow) → slice_get r.bundles n ≡ Some b → HasOptions b → bundle_read (lists_of r) (table_rows r) n (bundle_entry r n b) ≡ Ok (Some b)
unfolding bundle_read options_of
bundle_reads r n b is again =
    ap (row_in_role (lists_of r) (table_rows r) n (bundle_entry r n b)) bundle_role
    ∙ (ap (row_or_fault (lists_of r) (table_rows r) n (bundle_entry r n b)) again ∙ ap (λ row. Ok (Some row)) (row_is r n b is))

asset_reads : (r : Rows) (n : ℕ) (a : AssetRow) → bundle_read (lists_of r) (table_rows r) n (asset_entry r n a) ≡ Ok None
unfolding bundle_read
asset_reads r n a = ap (row_in_role (lists_of r) (table_rows r) n (asset_entry r n a)) asset_role

-- the bundles, and none for each asset
abbrev pub bundles_first : Rows → List (Option BundleRow)
bundles_first r = each_numbered (λ n b. Some b) 0 r.bundles ++ each_numbered (λ n a. None) (length r.bundles) r.assets

pub bundles_back : (r : Rows) → AllByRecursion HasOptions r.bundles → read_each (bundle_read (lists_of r) (table_rows r)) 0 (table_entries r) ≡ Ok (bundles_first r)
unfolding table_entries
bundles_back r again =
    let read = bundle_read (lists_of r) (table_rows r) in
    let assets = each_last read (asset_entry r) (λ n a. None) (length r.bundles) r.assets (λ i place a at is. asset_reads r place a) in
    each_as read (bundle_entry r) (λ n b. Some b) 0 (length r.bundles) r.bundles (each_numbered (asset_entry r) (length r.bundles) r.assets) (each_numbered (λ n a. None) (length r.bundles) r.assets) (omega arith) (λ i place b at is. let same : i ≡ place = omega (arith, at) in let here = subst (λ (k : ℕ). slice_get r.bundles k ≡ Some b) same is in bundle_reads r place b here (each_at HasOptions r.bundles place b again here)) assets

-- ---- those that are there

no_somes : {A B : Type 0} (n : ℕ) (xs : List A) → somes {A = B} (each_numbered (λ n x. None) n xs) ≡ []
no_somes n [] = refl
no_somes n (x ∷ xs) = no_somes (n + 1) xs

pub somes_first : (r : Rows) → somes (bundles_first r) ≡ r.bundles
somes_first r = first 0 r.bundles
  where
    first : (n : ℕ) (bs : List BundleRow) → somes (each_numbered (λ n b. Some b) n bs ++ each_numbered (λ n a. None) (length r.bundles) r.assets) ≡ bs
    first n [] = no_somes (length r.bundles) r.assets
    first n (b ∷ bs) = ap (λ cs. b ∷ cs) (first (n + 1) bs)

all_somes : {B C : Type 0} (f : ℕ → B → C) (m : ℕ) (ys : List B) → somes (each_numbered (λ n y. Some (f n y)) m ys) ≡ each_numbered f m ys
all_somes f m [] = refl
all_somes f m (y ∷ ys) = ap (λ zs. f m y ∷ zs) (all_somes f (m + 1) ys)

pub somes_last : {A B C : Type 0} (f : ℕ → B → C) (n m : ℕ) (xs : List A) (ys : List B) → somes (each_numbered (λ n x. None) n xs ++ each_numbered (λ n y. Some (f n y)) m ys) ≡ each_numbered f m ys
somes_last f n m [] ys = all_somes f m ys
somes_last f n m (x ∷ xs) ys = somes_last f (n + 1) m xs ys

-- ---- the numbers of the bundles

number_from : (k j m number : ℕ) (bs : List BundleRow) (os : List (Option BundleRow)) → m < length bs → number ≡ k + m → number_at (numbers_from k (each_numbered (λ n b. Some b) j bs ++ os)) m ≡ Some (record { 0 = number })
unfolding numbers_from
number_from k j m number [] os within is = absurd (omega (arith, within))
number_from k j zero number (b ∷ bs) os within is = let same : k ≡ number = omega (arith, is) in rw same refl
number_from k j (suc m) number (b ∷ bs) os within is = number_from (k + 1) (j + 1) m number bs os (omega (arith, within)) (omega (arith, is))

no_number : (k l m : ℕ) (assets : List AssetRow) → number_at (numbers_from k (each_numbered (λ n a. None) l assets)) m ≡ None
unfolding numbers_from
no_number k l m [] = refl
no_number k l zero (a ∷ assets) = refl
no_number k l (suc m) (a ∷ assets) = no_number k (l + 1) m assets

none_from : (k j l m : ℕ) (bs : List BundleRow) (assets : List AssetRow) → length bs ≤ m → number_at (numbers_from k (each_numbered (λ n b. Some b) j bs ++ each_numbered (λ n a. None) l assets)) m ≡ None
unfolding numbers_from
none_from k j l m [] assets past = no_number k l m assets
none_from k j l zero (b ∷ bs) assets past = absurd (omega (arith, past))
none_from k j l (suc m) (b ∷ bs) assets past = none_from (k + 1) (j + 1) l m bs assets (omega (arith, past))

-- the numbers of the entries among the bundles
abbrev pub bundle_nos : Rows → List (Option BundleNo)
bundle_nos r = numbers_from 0 (bundles_first r)

pub number_below : (r : Rows) (m : ℕ) → m < length r.bundles → number_at (bundle_nos r) m ≡ Some (record { 0 = m })
number_below r m within = number_from 0 0 m m r.bundles (each_numbered (λ n a. None) (length r.bundles) r.assets) within (omega arith)

pub number_behind : (r : Rows) (m : ℕ) → length r.bundles ≤ m → number_at (bundle_nos r) m ≡ None
number_behind r m past = none_from 0 0 (length r.bundles) m r.bundles r.assets past

-- The plain text of rows is lines that read back as rows that say the same: for `write_rows`.
use Rattle.std.proofs.Common.{ℕ, ◌≡◌, ◌<◌, ◌^◌, ◌∙◌, ◌↔◌, true, false, List, [], ◌∷◌, ◌++◌, map, length, refl, ap, sym, arith, append_assoc, codes, decimal, append-nil, subst, ◌==◌}
use Rattle.std.specs.List.{AllByRecursion, AllZip, Contains, flat_map, list_all, join_with_byte, slice_get}
use Rattle.std.specs.Str.{IsUtf8}
use Rattle.std.proofs.lemmas.Bool.{and_parts}
use Rattle.std.proofs.lemmas.Grind.{flat_map-append}
use Rattle.std.proofs.lemmas.List.Folds.{list_any-append}
use Rattle.std.proofs.lemmas.List.Sorted.{IsPermutation-map, IsPermutation-sym, Contains-permutation}
use Rattle.addr_base.specs.Ids.{hex_of}
use Rattle.addr_base.specs.Tokens.{token_of}
use Rattle.addr_base.specs.declared.ids.BundleNo.{BundleNo}
use Rattle.addr_base.specs.declared.ids.KeyNo.{KeyNo}
use Rattle.addr_fields.specs.Fields.{has_byte}
use Rattle.addr_fields.specs.Lines.{lines_of}
use Rattle.addr_fields.proofs.LineLemmas.{lines_of_cut}
use Rattle.addr_fields.proofs.NumberLemmas.{decimal_is_free}
use Rattle.addr_locate.specs.Alike.{AreAlikeRows}
use Rattle.addr_locate.specs.PlainRows.{heading, bundle_line, asset_line, deps_field, keys_field, IsBundleRow, IsAssetRow, PlainLines}
use Rattle.addr_locate.specs.PlainText.{HasTexts, ReadsAlike, ended, plain_asset, plain_text, in_order, primary_first}
use Rattle.addr_locate.specs.Rows.{Rows, AreRows, rows_of, written, text_at, has_sound_deps, no_text_twice}
use Rattle.addr_locate.specs.declared.rows.AssetRow.{AssetRow}
use Rattle.addr_locate.specs.declared.rows.BundleRow.{BundleRow}
use Rattle.addr_locate.specs.declared.rows.PlainAsset.{PlainAsset}
use Rattle.addr_locate.proofs.ElementLemmas.{deps_free_of, keys_free_of_end}
use Rattle.addr_locate.proofs.FieldLemmas.{hex_free, token_free}
use Rattle.addr_locate.proofs.NumberLemmas.{written_back}
use Rattle.addr_locate.proofs.OrderLemmas.{IsPermutation-primary_first, twice-primary_first}

-- a joined list is its first part, and each other one behind a comma
join_first : {A : Type 0} (f : A → List ℕ) (x : A) (xs : List A) → join_with_byte 44 (map f (x ∷ xs)) ≡ f x ++ flat_map (λ y. 44 ∷ f y) xs
join_first f x [] = sym (append-nil (f x))
join_first f x (y ∷ ys) = ap (λ rest. f x ++ 44 ∷ rest) (join_first f y ys)

put_list : {A : Type 0} (f : A → List ℕ) (x : A) (xs : List A) (old more new : List ℕ) → more ≡ old ++ f x → new ≡ more ++ flat_map (λ y. 44 ∷ f y) xs → new ≡ old ++ join_with_byte 44 (map f (x ∷ xs))
put_list f x xs old more new put_first put_rest = rw (put_rest, put_first) (append_assoc old (f x) (flat_map (λ y. 44 ∷ f y) xs) ∙ ap (λ rest. old ++ rest) (sym (join_first f x xs)))

pub put_deps : (deps others : List BundleNo) (first : BundleNo) (old more new : List ℕ) → deps ≡ first ∷ others → more ≡ old ++ decimal first.0 → new ≡ more ++ flat_map (λ (b : BundleNo). 44 ∷ decimal b.0) others → new ≡ old ++ deps_field deps
put_deps deps others first old more new split put_first put_rest =
    put_list (λ (b : BundleNo). decimal b.0) first others old more new put_first put_rest ∙ ap (λ list. old ++ deps_field list) (sym split)

flat_map-map : {A B C : Type 0} (f : A → B) (g : B → List C) (xs : List A) → flat_map g (map f xs) ≡ flat_map (λ x. g (f x)) xs
flat_map-map f g [] = refl
flat_map-map f g (x ∷ xs) = ap (λ rest. g (f x) ++ rest) (flat_map-map f g xs)

pub put_keys : (f : KeyNo → List ℕ) (keys others sorted : List KeyNo) (first : KeyNo) (old more new : List ℕ) → keys ≡ first ∷ others → sorted ≡ in_order others → more ≡ old ++ token_of (f first) → new ≡ more ++ flat_map (λ k. 44 ∷ token_of (f k)) sorted → new ≡ old ++ keys_field (map f (primary_first keys))
put_keys f keys others sorted first old more new split order put_first put_rest =
    let rest : new ≡ more ++ flat_map (λ text. 44 ∷ token_of text) (map f (in_order others)) = put_rest ∙ ap (λ list. more ++ list) (ap (flat_map (λ k. 44 ∷ token_of (f k))) order ∙ sym (flat_map-map f (λ text. 44 ∷ token_of text) (in_order others))) in
    put_list token_of (f first) (map f (in_order others)) old more new put_first rest ∙ ap (λ list. old ++ keys_field (map f (primary_first list))) (sym split)

pub utf8_keys : (f : KeyNo → List ℕ) (keys others sorted : List KeyNo) (first : KeyNo) → keys ≡ first ∷ others → sorted ≡ in_order others → IsUtf8 (f first) → AllByRecursion IsUtf8 (map f sorted) → AllByRecursion IsUtf8 (map f (primary_first keys))
utf8_keys f keys others sorted first split order here rest =
    let ordered : AllByRecursion IsUtf8 (map f (in_order others)) = subst (λ (list : List KeyNo). AllByRecursion IsUtf8 (map f list)) order rest in
    subst (λ (list : List KeyNo). AllByRecursion IsUtf8 (map f (primary_first list))) (sym split) (here, ordered)

-- no line has a line end
free_append : (xs ys : List ℕ) → has_byte 10 xs ≡ false → has_byte 10 ys ≡ false → has_byte 10 (xs ++ ys) ≡ false
free_append xs ys free_x free_y = list_any-append (λ b. b == 10) xs ys ∙ rw (free_x, free_y) refl

bundle_line_free : (b : BundleRow) → IsBundleRow b → has_byte 10 (bundle_line b) ≡ false
bundle_line_free b is =
    let names = free_append (token_of b.name) (32 ∷ token_of b.id) (token_free 10 refl b.name is.name) (token_free 10 refl b.id is.id) in
    let digest = free_append (hex_of b.digest.0) (32 ∷ (token_of b.name ++ 32 ∷ token_of b.id)) (hex_free 10 refl refl b.digest.0) names in
    let size = free_append (decimal b.size) (32 ∷ (hex_of b.digest.0 ++ 32 ∷ (token_of b.name ++ 32 ∷ token_of b.id))) (decimal_is_free 10 b.size (omega arith) is.size) digest in
    free_append (token_of b.key) (32 ∷ (decimal b.size ++ 32 ∷ (hex_of b.digest.0 ++ 32 ∷ (token_of b.name ++ 32 ∷ token_of b.id)))) (token_free 10 refl b.key is.key) size

asset_line_free : (count : ℕ) → count < 2 ^ 32 → (a : PlainAsset) → IsAssetRow count a → has_byte 10 (asset_line a) ≡ false
asset_line_free count few a is =
    let deps = free_append (deps_field a.deps) (32 ∷ keys_field a.keys) (deps_free_of 10 (omega arith) refl count few a.deps is.deps) (keys_free_of_end a.keys is.keys) in
    let kind = free_append (token_of a.kind) (32 ∷ (deps_field a.deps ++ 32 ∷ keys_field a.keys)) (token_free 10 refl a.kind is.kind) deps in
    free_append (token_of a.id) (32 ∷ (token_of a.kind ++ 32 ∷ (deps_field a.deps ++ 32 ∷ keys_field a.keys))) (token_free 10 refl a.id is.id) kind

-- lines with their ends are these lines
lines_of_ended : (lines : List (List ℕ)) → AllByRecursion (λ line. has_byte 10 line ≡ false) lines → lines_of (ended lines) ≡ lines
lines_of_ended [] free = refl
lines_of_ended (line ∷ lines) free =
    let first = lines_of_cut (ended (line ∷ lines)) line (ended lines) (record { whole = append_assoc line (10 ∷ []) (ended lines); first = free.0 }) in
    first ∙ ap (λ rest. line ∷ rest) (lines_of_ended lines free.1)

each_map : {A B : Type 0} (P : A → Type 0) (Q : B → Type 0) (f : A → B) → ((x : A) → P x → Q (f x)) → (xs : List A) → AllByRecursion P xs → AllByRecursion Q (map f xs)
each_map P Q f step [] each = tt
each_map P Q f step (x ∷ xs) each = (step x each.0, each_map P Q f step xs each.1)

each_append : {A : Type 0} (P : A → Type 0) (xs ys : List A) → AllByRecursion P xs → AllByRecursion P ys → AllByRecursion P (xs ++ ys)
each_append P [] ys each other = other
each_append P (x ∷ xs) ys each other = (each.0, each_append P xs ys each.1 other)

-- the parts of the text, in the order in which they are written
pub text_parts : (r : Rows) (start bundles whole : List ℕ) → start ≡ codes "addr-rows 1\n" → bundles ≡ start ++ ended (map bundle_line r.bundles) → whole ≡ bundles ++ ended (map asset_line (map (plain_asset r) r.assets)) → whole ≡ plain_text r
unfolding plain_text
text_parts r start bundles whole put_start put_bundles put_assets =
    let joined = flat_map-append (λ line. line ++ 10 ∷ []) (map bundle_line r.bundles) (map asset_line (map (plain_asset r) r.assets)) in
    let parts = append_assoc (codes "addr-rows 1\n") (ended (map bundle_line r.bundles)) (ended (map asset_line (map (plain_asset r) r.assets))) in
    rw (put_assets, put_bundles, put_start) (parts ∙ ap (λ rest. codes "addr-rows 1\n" ++ rest) (sym joined))

-- the rows that are written are in the form
asset_is : (r : Rows) (count : ℕ) (a : AssetRow) → HasTexts (plain_asset r a) → has_sound_deps count a.deps ≡ true → no_text_twice (map (λ (k : KeyNo). text_at r.keys k.0) a.keys) ≡ true → IsAssetRow count (plain_asset r a)
asset_is r count a texts sound once = record {
  id = texts.id;
  kind = texts.kind;
  deps = sound;
  keys = texts.keys;
  once = twice-primary_first (λ k. text_at r.keys k.0) a.keys ∙ once;
}

assets_are : (r : Rows) (count : ℕ) (assets : List AssetRow) → AllByRecursion HasTexts (map (plain_asset r) assets) → list_all (λ (a : AssetRow). has_sound_deps count a.deps) assets ≡ true → list_all (λ (a : AssetRow). no_text_twice (map (λ (k : KeyNo). text_at r.keys k.0) a.keys)) assets ≡ true → AllByRecursion (IsAssetRow count) (map (plain_asset r) assets)
assets_are r count [] texts sound once = tt
assets_are r count (a ∷ assets) texts sound once =
    let sounds = and_parts (has_sound_deps count a.deps) (list_all (λ (x : AssetRow). has_sound_deps count x.deps) assets) sound in
    let onces = and_parts (no_text_twice (map (λ (k : KeyNo). text_at r.keys k.0) a.keys)) (list_all (λ (x : AssetRow). no_text_twice (map (λ (k : KeyNo). text_at r.keys k.0) x.keys)) assets) once in
    (asset_is r count a texts.0 sounds.0 onces.0, assets_are r count assets texts.1 sounds.1 onces.1)

-- a row that is written as the plain row says the same
first_key : (f : KeyNo → List ℕ) (keys : List KeyNo) → slice_get (map f keys) 0 ≡ slice_get (map f (primary_first keys)) 0
first_key f [] = refl
first_key f (k ∷ keys) = refl

same_keys : (f : KeyNo → List ℕ) (keys : List KeyNo) (text : List ℕ) → Contains (map f keys) text ↔ Contains (map f (primary_first keys)) text
same_keys f keys text =
    let moved = IsPermutation-map f keys (primary_first keys) (IsPermutation-primary_first keys) in
    (Contains-permutation (map f keys) (map f (primary_first keys)) text moved, Contains-permutation (map f (primary_first keys)) (map f keys) text (IsPermutation-sym (map f keys) (map f (primary_first keys)) moved))

row_alike : (r s : Rows) (a b : AssetRow) → written s b ≡ plain_asset r a → AreAlikeRows r s a b
row_alike r s a b same = record {
  id = sym (ap (λ (w : PlainAsset). w.id) same);
  kind = sym (ap (λ (w : PlainAsset). w.kind) same);
  deps = sym (ap (λ (w : PlainAsset). w.deps) same);
  first = first_key (λ k. text_at r.keys k.0) a.keys ∙ sym (ap (λ (w : PlainAsset). slice_get w.keys 0) same);
  keys = λ text. (let both = same_keys (λ k. text_at r.keys k.0) a.keys text in let P : List (List ℕ) → Type 0 = λ keys. Contains (map (λ (k : KeyNo). text_at r.keys k.0) a.keys) text ↔ Contains keys text in subst P (sym (ap (λ (w : PlainAsset). w.keys) same)) both);
}

rows_alike : (r s : Rows) (rows others : List AssetRow) → map (written s) others ≡ map (plain_asset r) rows → AllZip (AreAlikeRows r s) rows others
rows_alike r s [] [] same = tt
rows_alike r s [] (b ∷ others) same = cc
rows_alike r s (a ∷ rows) [] same = cc
rows_alike r s (a ∷ rows) (b ∷ others) same =
    let head : written s b ≡ plain_asset r a = cc in
    let rest : map (written s) others ≡ map (plain_asset r) rows = cc in
    (row_alike r s a b head, rows_alike r s rows others rest)

rows_of-bundles : (bundles : List BundleRow) (assets : List PlainAsset) → (rows_of bundles assets).bundles ≡ bundles
unfolding rows_of
rows_of-bundles bundles assets = refl

plain_lines : (r : Rows) → AreRows r → AllByRecursion IsBundleRow r.bundles → AllByRecursion HasTexts (map (plain_asset r) r.assets) → PlainLines (lines_of (plain_text r)) r.bundles (map (plain_asset r) r.assets)
unfolding plain_text
plain_lines r are bundles texts =
    let assets = map (plain_asset r) r.assets in
    let each = assets_are r (length r.bundles) r.assets texts are.deps are.keys in
    let free_bundles = each_map IsBundleRow (λ line. has_byte 10 line ≡ false) bundle_line bundle_line_free r.bundles bundles in
    let free_assets = each_map (IsAssetRow (length r.bundles)) (λ line. has_byte 10 line ≡ false) asset_line (asset_line_free (length r.bundles) are.few_bundles) assets each in
    let free = each_append (λ line. has_byte 10 line ≡ false) (heading ∷ map bundle_line r.bundles) (map asset_line assets) (refl, free_bundles) free_assets in
    record { spelled = lines_of_ended (heading ∷ map bundle_line r.bundles ++ map asset_line assets) free; each_bundle = bundles; each_asset = each }

pub reads_alike : (r : Rows) (text : List ℕ) → AreRows r → AllByRecursion IsBundleRow r.bundles → AllByRecursion HasTexts (map (plain_asset r) r.assets) → text ≡ plain_text r → ReadsAlike text r
reads_alike r text are bundles texts is =
    let assets = map (plain_asset r) r.assets in
    let again = rows_of r.bundles assets in
    let lines = subst (λ (bytes : List ℕ). PlainLines (lines_of bytes) r.bundles assets) (sym is) (plain_lines r are bundles texts) in
    (again, (r.bundles, assets, lines, refl), (sym (rows_of-bundles r.bundles assets), rows_alike r again r.assets again.assets (written_back r.bundles assets)))

-- From the lines that were read to the rows, and from the line that wasn't to the first bad line.
use Rattle.std.proofs.Common.{suc, Err, ℕ, ◌≡◌, ◌≤◌, ◌+◌, ◌-◌, ◌==◌, ◌∙◌, ◌⊎◌, inl, inr, true, false, List, [], ◌∷◌, ◌++◌, map, take, length, refl, ap, sym, subst, arith, append_assoc, length-append, codes}
use Rattle.std.specs.List.{AllByRecursion, flat_map, list_all, join_with_byte}
use Rattle.std.proofs.lemmas.Bool.{false≢true}
use Rattle.std.proofs.lemmas.List.{append-nil, length-map, map-append, take_at}
use Rattle.std.proofs.lemmas.Grind.{flat_map-append}
use Rattle.addr_base.specs.Tokens.{token_of}
use Rattle.addr_fields.specs.Lines.{lines_of}
use Rattle.addr_locate.specs.PlainParts.{BundlesThen, ReadsAssets}
use Rattle.addr_locate.specs.PlainRows.{heading, bundle_line, asset_line, deps_field, keys_field, IsBundleRow, IsAssetRow, IsFirstBad, ReadsRows}
use Rattle.addr_locate.specs.declared.error.RowsErr.{RowsErr}
use Rattle.addr_locate.specs.declared.error.RowsErr.TheVariants.{Line, NoMemory}
use Rattle.addr_locate.specs.Rows.{keys_of, has_sound_deps, no_text_twice}
use Rattle.addr_locate.specs.declared.rows.BundleRow.{BundleRow}
use Rattle.addr_locate.specs.declared.rows.PlainAsset.{PlainAsset}
use Rattle.addr_locate.proofs.ListFieldLemmas.{image_at, each_push}
use Rattle.addr_locate.proofs.TextLemmas.{length-texts_once-le}

-- one more line that spells a row
pub line_step : {A : Type 0} (f : A → List ℕ) (P : A → Type 0) (lines rest after : List (List ℕ)) (xs now : List A) (line : List ℕ) (x : A) → lines ≡ map f xs ++ rest → AllByRecursion P xs → rest ≡ line ∷ after → P x → line ≡ f x → now ≡ xs ++ x ∷ [] → (lines ≡ map f now ++ after) × AllByRecursion P now
line_step {A} f P lines rest after xs now line x read each first fits spelled pushed =
    let more : map f now ≡ map f xs ++ f x ∷ [] = ap (map f) pushed ∙ map-append f xs (x ∷ []) in
    let whole : lines ≡ map f xs ++ f x ∷ after = read ∙ (ap (λ r. map f xs ++ r) (first ∙ ap (λ l. l ∷ after) spelled)) in
    let P_all : List A → Type 0 = λ ys. AllByRecursion P ys in
    (whole ∙ (sym (append_assoc (map f xs) (f x ∷ []) after) ∙ ap (λ m. m ++ after) (sym more)), subst P_all (sym pushed) (each_push P xs x each fits))

-- a bundle's line is no asset's
pub lines_differ : (b : BundleRow) (a : PlainAsset) → bundle_line b ≡ asset_line a → ⊥
lines_differ b a e = let same : 98 ≡ 97 = cc in let wrong : false ≡ true = ap (λ x. x == 97) same in false≢true wrong

-- where lines of bundles and assets are again such lines and one more, as many are bundles', or that one is a bundle's behind no asset's
same_split : (bs theirs : List BundleRow) (assets others : List PlainAsset) (line : List ℕ) → AllByRecursion IsBundleRow theirs → map bundle_line theirs ++ map asset_line others ≡ map bundle_line bs ++ (map asset_line assets ++ line ∷ []) → ((length theirs ≡ length bs) × (map asset_line others ≡ map asset_line assets ++ line ∷ [])) ⊎ ((assets ≡ []) × ((b : BundleRow) × IsBundleRow b × (line ≡ bundle_line b)))
same_split [] [] assets others line each e = inl (refl, e)
same_split [] (b ∷ theirs) [] others line each e = let same : line ≡ bundle_line b = cc in inr (refl, (b, each.0, same))
same_split [] (b ∷ theirs) (a ∷ assets) others line each e = let same : bundle_line b ≡ asset_line a = cc in absurd (lines_differ b a same)
same_split (b ∷ bs) [] assets [] line each e = cc
same_split (b ∷ bs) [] assets (a ∷ others) line each e = let same : bundle_line b ≡ asset_line a = cc in absurd (lines_differ b a same)
same_split (b ∷ bs) (c ∷ theirs) assets others line each e =
    let rest : map bundle_line theirs ++ map asset_line others ≡ map bundle_line bs ++ (map asset_line assets ++ line ∷ []) = cc in
    elim (same_split bs theirs assets others line each.1 rest) [ inl same ↦ inl (ap suc same.0, same.1) | inr other ↦ inr other ]

pub heading_bad : (lines : List (List ℕ)) → ((more : List (List ℕ)) → lines ≡ heading ∷ more → ⊥) → IsFirstBad lines 1
heading_bad [] none = record { before = inl refl; bad = λ plain. absurd (cc (plain.2.spelled)) }
heading_bad (line ∷ lines) none = record { before = inl refl; bad = λ plain. let first : line ≡ heading = cc (plain.2.spelled) in none lines (ap (λ l. l ∷ lines) first) }

pub first_bad : (lines behind rest : List (List ℕ)) (bundles : List BundleRow) (assets : List PlainAsset) (line : List ℕ) (after : List (List ℕ)) (place : ℕ) → lines ≡ heading ∷ behind → behind ≡ map bundle_line bundles ++ rest → AllByRecursion IsBundleRow bundles → ((b : BundleRow) (more : List (List ℕ)) → IsBundleRow b → rest ≡ bundle_line b ∷ more → ⊥) → rest ≡ map asset_line assets ++ line ∷ after → AllByRecursion (IsAssetRow (length bundles)) assets → ((a : PlainAsset) → IsAssetRow (length bundles) a → line ≡ asset_line a → ⊥) → place ≡ length bundles + 2 + length assets → IsFirstBad lines place
first_bad lines behind rest bundles assets line after place first second each_bundle stops third each_asset wrong place_is =
    let bs = map bundle_line bundles in
    let others = map asset_line assets in
    let ahead = heading ∷ bs ++ others in
    let split : lines ≡ ahead ++ line ∷ after = first ∙ ap (λ (r : List (List ℕ)). heading ∷ r) (second ∙ (ap (λ (r : List (List ℕ)). bs ++ r) third ∙ sym (append_assoc bs others (line ∷ after)))) in
    let long : length ahead ≡ place - 1 = omega (arith, place_is, length-append bs others, length-map bundles bundle_line, length-map assets asset_line) in
    let again : lines ≡ (ahead ++ line ∷ []) ++ after = split ∙ sym (append_assoc ahead (line ∷ []) after) in
    let longer : length (ahead ++ line ∷ []) ≡ place = omega (arith, place_is, long, length-append ahead (line ∷ [])) in
    let before : take (place - 1) lines ≡ ahead = ap (take (place - 1)) split ∙ take_at ahead (line ∷ after) (place - 1) long in
    let upto : take place lines ≡ ahead ++ line ∷ [] = ap (take place) again ∙ take_at (ahead ++ line ∷ []) after place longer in
    let tail : bs ++ others ++ line ∷ [] ≡ bs ++ (others ++ line ∷ []) = append_assoc bs others (line ∷ []) in
    record {
      before = inr (bundles, assets, record { spelled = before; each_bundle = each_bundle; each_asset = each_asset });
      bad = λ plain.
          let whole : heading ∷ map bundle_line plain.0 ++ map asset_line plain.1 ≡ heading ∷ bs ++ others ++ line ∷ [] = sym plain.2.spelled ∙ upto in
          let same : map bundle_line plain.0 ++ map asset_line plain.1 ≡ bs ++ others ++ line ∷ [] = cc in
          elim (same_split bundles plain.0 assets plain.1 line plain.2.each_bundle (same ∙ tail)) [
            | inl found ↦
                let P : ℕ → Type 0 = λ n. AllByRecursion (IsAssetRow n) plain.1 in
                let at_asset = image_at asset_line (IsAssetRow (length bundles)) plain.1 (subst P found.0 plain.2.each_asset) others line [] found.1 in
                wrong at_asset.0 at_asset.1 at_asset.2
            | inr found ↦
                let none : others ≡ [] = ap (map asset_line) found.0 in
                stops found.1.0 after found.1.1 (third ∙ (ap (λ o. o ++ line ∷ after) none ∙ ap (λ l. l ∷ after) found.1.2))
          ];
    }

-- a line is as long as its list of keys, so a file has fewer keys than bytes
joined_long : (keys : List (List ℕ)) → length keys ≤ 1 + length (join_with_byte 44 (map token_of keys))
joined_long [] = omega arith
joined_long (k ∷ []) = omega arith
joined_long (k ∷ l ∷ keys) = let rest = joined_long (l ∷ keys) in omega (arith, rest, length-append (token_of k) (44 ∷ join_with_byte 44 (map token_of (l ∷ keys))))

keys_short : (keys : List (List ℕ)) → length keys ≤ 1 + length (keys_field keys)
keys_short [] = omega arith
keys_short (k ∷ keys) = joined_long (k ∷ keys)

pub line_long : (a : PlainAsset) → length a.keys ≤ length (asset_line a)
line_long a =
    let field = deps_field a.deps ++ 32 ∷ keys_field a.keys in
    let kind = token_of a.kind ++ 32 ∷ field in
    omega (arith, keys_short a.keys, length-append (deps_field a.deps) (32 ∷ keys_field a.keys), length-append (token_of a.kind) (32 ∷ field), length-append (token_of a.id) (32 ∷ kind), length-append (codes "asset ") (token_of a.id ++ 32 ∷ kind))

pub flat_push : (assets now : List PlainAsset) (a : PlainAsset) → now ≡ assets ++ a ∷ [] → length (flat_map (λ (x : PlainAsset). x.keys) now) ≡ length (flat_map (λ (x : PlainAsset). x.keys) assets) + length a.keys
flat_push assets now a pushed =
    let one : flat_map (λ (x : PlainAsset). x.keys) (a ∷ []) ≡ a.keys = append-nil a.keys in
    ap (λ xs. length (flat_map (λ (x : PlainAsset). x.keys) xs)) pushed ∙ (ap length (flat_map-append (λ (x : PlainAsset). x.keys) assets (a ∷ [])) ∙ (length-append (flat_map (λ (x : PlainAsset). x.keys) assets) (flat_map (λ (x : PlainAsset). x.keys) (a ∷ [])) ∙ ap (λ k. length (flat_map (λ (x : PlainAsset). x.keys) assets) + length k) one))

pub few_keys_of : (assets : List PlainAsset) → length (keys_of assets) ≤ length (flat_map (λ (a : PlainAsset). a.keys) assets)
few_keys_of assets = length-texts_once-le (flat_map (λ (a : PlainAsset). a.keys) assets)

-- rows that were read meet what `of_rows` asks
pub all_sound : (count : ℕ) (assets : List PlainAsset) → AllByRecursion (IsAssetRow count) assets → list_all (λ (a : PlainAsset). has_sound_deps count a.deps) assets ≡ true
all_sound count [] each = refl
all_sound count (a ∷ assets) each = rw (each.0.deps, all_sound count assets each.1)

pub all_once : (count : ℕ) (assets : List PlainAsset) → AllByRecursion (IsAssetRow count) assets → list_all (λ (a : PlainAsset). no_text_twice a.keys) assets ≡ true
all_once count [] each = refl
all_once count (a ∷ assets) each = rw (each.0.once, all_once count assets each.1)

pub rows_err : (bytes behind rest : List ℕ) (bundles : List BundleRow) (e : RowsErr) → lines_of bytes ≡ heading ∷ lines_of behind → BundlesThen behind bundles rest → ReadsAssets rest (length bundles) (Err e) → ReadsRows bytes (Err e)
rows_err bytes behind rest bundles (Line place) first read wrong =
    first_bad (lines_of bytes) (lines_of behind) (lines_of rest) bundles wrong.assets wrong.line wrong.after place first read.spelled read.each read.stops wrong.spelled wrong.each wrong.wrong wrong.place_is
rows_err bytes behind rest bundles NoMemory first read wrong = tt

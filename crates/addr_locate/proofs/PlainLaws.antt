-- Laws of the plain form: what begins a file in the form is in it, a file has one first bad line or none, and it spells one list
-- of rows.
use Rattle.std.proofs.Common.{ℕ, ◌≡◌, ◌<◌, ◌≤◌, ◌+◌, ◌-◌, ◌∙◌, ◌^◌, inl, inr, zero, suc, List, [], ◌∷◌, ◌++◌, map, take, length, refl, ap, sym, subst, arith, codes, decimal, length-append}
use Rattle.std.specs.List.{AllByRecursion}
use Rattle.std.specs.Str.{IsUtf8}
use Rattle.std.proofs.lemmas.Bool.{cases_lt}
use Rattle.std.proofs.lemmas.Fmt.{decimal_injective}
use Rattle.std.proofs.lemmas.List.{append-nil, append_cancel_left, length-map, take-append-le, take-take}
use Rattle.std.proofs.Math.Seq.{take-append-add}
use Rattle.std.specs.List.{take-map}
use Rattle.addr_base.specs.Ids.{hex_of}
use Rattle.addr_base.specs.Tokens.{token_of}
use Rattle.addr_base.specs.declared.ids.BundleNo.{BundleNo}
use Rattle.addr_base.proofs.HexLemmas.{spelled_decodes, decoded_same}
use Rattle.addr_base.proofs.TokenLemmas.{token_of_own, mark_no_token}
use Rattle.addr_locate.specs.PlainFields.{IsSmall}
use Rattle.addr_locate.specs.PlainRows.{heading, bundle_line, asset_line, deps_field, keys_field, IsBundleRow, IsAssetRow, PlainLines, ArePlain, IsFirstBad}
use Rattle.addr_locate.specs.declared.rows.BundleRow.{BundleRow}
use Rattle.addr_locate.specs.declared.rows.PlainAsset.{PlainAsset}
use Rattle.addr_fields.proofs.CutLemmas.{same_cut}
use Rattle.addr_fields.proofs.NumberLemmas.{decimal_is_free}
use Rattle.addr_locate.proofs.ElementLemmas.{deps_free, number_free, number_own, sound_numbers}
use Rattle.addr_locate.proofs.FieldLemmas.{hex_free_of_space, token_free_of_comma, token_free_of_space}
use Rattle.addr_locate.proofs.ListFieldLemmas.{pieces_of_list, same_list}
use Rattle.addr_locate.proofs.PlainLemmas.{lines_differ}

-- What begins a file

each_take : {A : Type 0} (P : A → Type 0) (k : ℕ) (xs : List A) → AllByRecursion P xs → AllByRecursion P (take k xs)
each_take P zero xs each = tt
each_take P (suc k) [] each = tt
each_take P (suc k) (x ∷ xs) each = (each.0, each_take P k xs each.1)

prefix : (k : ℕ) (bundles : List BundleRow) (assets : List PlainAsset) → AllByRecursion IsBundleRow bundles → AllByRecursion (IsAssetRow (length bundles)) assets → ArePlain (heading ∷ take k (map bundle_line bundles ++ map asset_line assets))
prefix k bundles assets each_bundle each_asset =
    let bs = map bundle_line bundles in
    let long : length bs ≡ length bundles = length-map bundles bundle_line in
    elim (cases_lt k (length bs)) [
      | inl short ↦
          let cut : take k (bs ++ map asset_line assets) ≡ map bundle_line (take k bundles) ++ [] = take-append-le k bs (map asset_line assets) (omega arith) ∙ (take-map bundle_line k bundles ∙ sym (append-nil (map bundle_line (take k bundles)))) in
          (take k bundles, [], record { spelled = ap (λ r. heading ∷ r) cut; each_bundle = each_take IsBundleRow k bundles each_bundle; each_asset = tt })
      | inr past ↦
          let more = k - length bs in
          let whole : length bs + more ≡ k = omega arith in
          let cut : take k (bs ++ map asset_line assets) ≡ bs ++ map asset_line (take more assets) = ap (λ n. take n (bs ++ map asset_line assets)) (sym whole) ∙ (take-append-add bs (map asset_line assets) more ∙ ap (λ r. bs ++ r) (take-map asset_line more assets)) in
          (bundles, take more assets, record { spelled = ap (λ r. heading ∷ r) cut; each_bundle = each_bundle; each_asset = each_take (IsAssetRow (length bundles)) more assets each_asset })
    ]

pub plain_prefix : (lines : List (List ℕ)) (n : ℕ) → 1 ≤ n → ArePlain lines → ArePlain (take n lines)
plain_prefix lines zero low plain = absurd (omega (arith, low))
plain_prefix lines (suc k) low plain =
    let P : List (List ℕ) → Type 0 = λ ls. ArePlain (take (suc k) ls) in
    subst P (sym plain.2.spelled) (prefix k plain.0 plain.1 plain.2.each_bundle plain.2.each_asset)

-- The first bad line

bad_from_one : (lines : List (List ℕ)) (n : ℕ) → IsFirstBad lines n → 1 ≤ n
bad_from_one lines zero bad = elim bad.before [ inl one ↦ absurd (omega (arith, one)) | inr plain ↦ absurd (cc (plain.2.spelled)) ]
bad_from_one lines (suc n) bad = omega arith

pub bad_no_plain : (lines : List (List ℕ)) (n : ℕ) → IsFirstBad lines n → ArePlain lines → ⊥
bad_no_plain lines n bad plain = bad.bad (plain_prefix lines n (bad_from_one lines n bad) plain)

no_earlier : (lines : List (List ℕ)) (n m : ℕ) → IsFirstBad lines n → IsFirstBad lines m → n < m → ⊥
no_earlier lines n m bad later less =
    let low = bad_from_one lines n bad in
    elim later.before [
      | inl one ↦ absurd (omega (arith, one, low, less))
      | inr plain ↦
          let P : List (List ℕ) → Type 0 = λ ls. ArePlain ls in
          bad.bad (subst P (take-take n (m - 1) lines (omega arith)) (plain_prefix (take (m - 1) lines) n low plain))
    ]

pub one_bad : (lines : List (List ℕ)) (n m : ℕ) → IsFirstBad lines n → IsFirstBad lines m → n ≡ m
one_bad lines n m bad other =
    elim (cases_lt n m) [
      | inl less ↦ absurd (no_earlier lines n m bad other less)
      | inr at_least ↦ elim (cases_lt m n) [
        | inl more ↦ absurd (no_earlier lines m n other bad more)
        | inr at_most ↦ omega arith
      ]
    ]

-- One list of rows

same_bundle : (key key2 name name2 id id2 digest digest2 : List ℕ) (size size2 : ℕ) → key ≡ key2 → size ≡ size2 → digest ≡ digest2 → name ≡ name2 → id ≡ id2 → ◌≡◌ {A = BundleRow} (record { key = key; size = size; digest = record { 0 = digest }; name = name; id = id }) (record { key = key2; size = size2; digest = record { 0 = digest2 }; name = name2; id = id2 })
same_bundle key key2 name name2 id id2 digest digest2 size size2 a b c d e = rw (a, b, c, d, e)

same_asset : (id id2 kind kind2 : List ℕ) (deps deps2 : List BundleNo) (keys keys2 : List (List ℕ)) → id ≡ id2 → kind ≡ kind2 → deps ≡ deps2 → keys ≡ keys2 → ◌≡◌ {A = PlainAsset} (record { id = id; kind = kind; deps = deps; keys = keys }) (record { id = id2; kind = kind2; deps = deps2; keys = keys2 })
same_asset id id2 kind kind2 deps deps2 keys keys2 a b c d = rw (a, b, c, d)

bundle_own : (b c : BundleRow) → IsBundleRow b → IsBundleRow c → bundle_line b ≡ bundle_line c → b ≡ c
bundle_own b c is_b is_c e =
    let names_b = token_of b.name ++ 32 ∷ token_of b.id in
    let names_c = token_of c.name ++ 32 ∷ token_of c.id in
    let digest_b = hex_of b.digest.0 ++ 32 ∷ names_b in
    let digest_c = hex_of c.digest.0 ++ 32 ∷ names_c in
    let size_b = decimal b.size ++ 32 ∷ digest_b in
    let size_c = decimal c.size ++ 32 ∷ digest_c in
    let whole = append_cancel_left (codes "bundle ") (token_of b.key ++ 32 ∷ size_b) (token_of c.key ++ 32 ∷ size_c) e in
    let key = same_cut 32 (token_of b.key) size_b (token_of c.key) size_c (token_free_of_space b.key is_b.key) (token_free_of_space c.key is_c.key) whole in
    let size = same_cut 32 (decimal b.size) digest_b (decimal c.size) digest_c (decimal_is_free 32 b.size (omega arith) is_b.size) (decimal_is_free 32 c.size (omega arith) is_c.size) key.1 in
    let digest = same_cut 32 (hex_of b.digest.0) names_b (hex_of c.digest.0) names_c (hex_free_of_space b.digest.0) (hex_free_of_space c.digest.0) size.1 in
    let name = same_cut 32 (token_of b.name) (token_of b.id) (token_of c.name) (token_of c.id) (token_free_of_space b.name is_b.name) (token_free_of_space c.name is_c.name) digest.1 in
    let same_digest = decoded_same (hex_of b.digest.0) b.digest.0 c.digest.0 (spelled_decodes (hex_of b.digest.0) b.digest.0 is_b.digest refl) is_c.digest digest.0 in
    same_bundle b.key c.key b.name c.name b.id c.id b.digest.0 c.digest.0 b.size c.size (token_of_own b.key c.key is_b.key is_c.key key.0) (decimal_injective b.size c.size is_b.size is_c.size size.0) same_digest (token_of_own b.name c.name is_b.name is_c.name name.0) (token_of_own b.id c.id is_b.id is_c.id name.1)

mark_no_keys : (key : List ℕ) (keys : List (List ℕ)) → AllByRecursion IsUtf8 (key ∷ keys) → codes "%-" ≡ keys_field (key ∷ keys) → ⊥
mark_no_keys key keys each e =
    let cut = pieces_of_list token_of IsUtf8 token_free_of_comma (codes "%-") (key ∷ keys) (λ empty. cc) each e in
    let first : 37 ∷ 45 ∷ [] ≡ token_of key = cc (cut) in mark_no_token 45 key first

keys_own : (keys others : List (List ℕ)) → AllByRecursion IsUtf8 keys → AllByRecursion IsUtf8 others → keys_field keys ≡ keys_field others → keys ≡ others
keys_own [] [] each other e = refl
keys_own [] (l ∷ others) each other e = absurd (mark_no_keys l others other e)
keys_own (k ∷ keys) [] each other e = absurd (mark_no_keys k keys each (sym e))
keys_own (k ∷ keys) (l ∷ others) each other e = same_list token_of IsUtf8 token_free_of_comma token_of_own (keys_field (k ∷ keys)) (k ∷ keys) (l ∷ others) (λ empty. cc) (λ empty. cc) each other refl e

asset_own : (n m : ℕ) → n < 2 ^ 32 → m < 2 ^ 32 → (a b : PlainAsset) → IsAssetRow n a → IsAssetRow m b → asset_line a ≡ asset_line b → a ≡ b
asset_own n m few_n few_m a b is_a is_b e =
    let deps_a = deps_field a.deps ++ 32 ∷ keys_field a.keys in
    let deps_b = deps_field b.deps ++ 32 ∷ keys_field b.keys in
    let kind_a = token_of a.kind ++ 32 ∷ deps_a in
    let kind_b = token_of b.kind ++ 32 ∷ deps_b in
    let whole = append_cancel_left (codes "asset ") (token_of a.id ++ 32 ∷ kind_a) (token_of b.id ++ 32 ∷ kind_b) e in
    let id = same_cut 32 (token_of a.id) kind_a (token_of b.id) kind_b (token_free_of_space a.id is_a.id) (token_free_of_space b.id is_b.id) whole in
    let kind = same_cut 32 (token_of a.kind) deps_a (token_of b.kind) deps_b (token_free_of_space a.kind is_a.kind) (token_free_of_space b.kind is_b.kind) id.1 in
    let deps = same_cut 32 (deps_field a.deps) (keys_field a.keys) (deps_field b.deps) (keys_field b.keys) (deps_free n few_n a.deps is_a.deps) (deps_free m few_m b.deps is_b.deps) kind.1 in
    let f : BundleNo → List ℕ = λ d. decimal d.0 in
    let ours = sound_numbers n few_n (deps_field a.deps) a.deps is_a.deps refl in
    let theirs = sound_numbers m few_m (deps_field a.deps) b.deps is_b.deps deps.0 in
    let same_deps = same_list f IsSmall number_free number_own (deps_field a.deps) a.deps b.deps ours.0 theirs.0 ours.1 theirs.1 ours.2 theirs.2 in
    same_asset a.id b.id a.kind b.kind a.deps b.deps a.keys b.keys (token_of_own a.id b.id is_a.id is_b.id id.0) (token_of_own a.kind b.kind is_a.kind is_b.kind kind.0) same_deps (keys_own a.keys b.keys is_a.keys is_b.keys deps.1)

assets_own : (n m : ℕ) → n < 2 ^ 32 → m < 2 ^ 32 → (assets others : List PlainAsset) → AllByRecursion (IsAssetRow n) assets → AllByRecursion (IsAssetRow m) others → map asset_line assets ≡ map asset_line others → assets ≡ others
assets_own n m few_n few_m [] [] each other e = refl
assets_own n m few_n few_m [] (b ∷ others) each other e = cc
assets_own n m few_n few_m (a ∷ assets) [] each other e = cc
assets_own n m few_n few_m (a ∷ assets) (b ∷ others) each other e =
    let head = asset_own n m few_n few_m a b each.0 other.0 (cc) in
    let rest = assets_own n m few_n few_m assets others each.1 other.1 (cc) in cc (head, rest)

rows_own : (n m : ℕ) → n < 2 ^ 32 → m < 2 ^ 32 → (bundles theirs : List BundleRow) (assets others : List PlainAsset) → AllByRecursion IsBundleRow bundles → AllByRecursion IsBundleRow theirs → AllByRecursion (IsAssetRow n) assets → AllByRecursion (IsAssetRow m) others → map bundle_line bundles ++ map asset_line assets ≡ map bundle_line theirs ++ map asset_line others → (bundles ≡ theirs) × (assets ≡ others)
rows_own n m few_n few_m [] [] assets others each_b each_c each_a each_o e = (refl, assets_own n m few_n few_m assets others each_a each_o e)
rows_own n m few_n few_m [] (c ∷ theirs) [] others each_b each_c each_a each_o e = absurd (cc)
rows_own n m few_n few_m [] (c ∷ theirs) (a ∷ assets) others each_b each_c each_a each_o e = let same : bundle_line c ≡ asset_line a = cc in absurd (lines_differ c a same)
rows_own n m few_n few_m (b ∷ bundles) [] assets [] each_b each_c each_a each_o e = absurd (cc)
rows_own n m few_n few_m (b ∷ bundles) [] assets (a ∷ others) each_b each_c each_a each_o e = let same : bundle_line b ≡ asset_line a = cc in absurd (lines_differ b a same)
rows_own n m few_n few_m (b ∷ bundles) (c ∷ theirs) assets others each_b each_c each_a each_o e =
    let head = bundle_own b c each_b.0 each_c.0 (cc) in
    let rest = rows_own n m few_n few_m bundles theirs assets others each_b.1 each_c.1 each_a each_o (cc) in
    (cc (head, rest.0), rest.1)

few_bundles : (lines : List (List ℕ)) (bundles : List BundleRow) (assets : List PlainAsset) → length lines < 2 ^ 32 → PlainLines lines bundles assets → length bundles < 2 ^ 32
few_bundles lines bundles assets few plain =
    omega (arith, few, ap length plain.spelled, length-append (map bundle_line bundles) (map asset_line assets), length-map bundles bundle_line)

pub own_rows : (lines : List (List ℕ)) (bundles theirs : List BundleRow) (assets others : List PlainAsset) → length lines < 2 ^ 32 → PlainLines lines bundles assets → PlainLines lines theirs others → (bundles ≡ theirs) × (assets ≡ others)
own_rows lines bundles theirs assets others few plain other =
    let whole : heading ∷ map bundle_line bundles ++ map asset_line assets ≡ heading ∷ map bundle_line theirs ++ map asset_line others = sym plain.spelled ∙ other.spelled in
    rows_own (length bundles) (length theirs) (few_bundles lines bundles assets few plain) (few_bundles lines theirs others few other) bundles theirs assets others plain.each_bundle other.each_bundle plain.each_asset other.each_asset (cc (whole))

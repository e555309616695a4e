-- Texts numbered and written back: one more text at a step of a loop, the place of a text, and that the rows which
-- `of_rows` makes are those that every locator keeps.
use Rattle.std.proofs.Common.{suc, ◌+◌, ℕ, ◌≡◌, ◌≤◌, ◌<◌, ◌^◌, ◌∙◌, Bool, true, false, not, ◌||◌, nat_lt, Some, None, unwrap_or, List, [], ◌∷◌, ◌++◌, append-nil, length, map, filter, refl, ap, sym, cond, arith, IsTrue, subst}
use Rattle.std.specs.List.{list_any, list_all, flat_map, position, position_or_len}
use Rattle.std.specs.Str.{bytes_eq}
use Rattle.std.proofs.lemmas.Bool.{ltb-false}
use Rattle.std.proofs.lemmas.Bool.Decides.{same_from_decides}
use Rattle.std.proofs.lemmas.Slice.Eq.{bytes_eq-Decides}
use Rattle.std.proofs.lemmas.List.{length-map}
use Rattle.std.proofs.lemmas.List.Elements.{filter-append}
use Rattle.std.proofs.lemmas.List.Folds.{list_any-append, list_all-map}
use Rattle.std.proofs.lemmas.List.Sums.{prefix_len-le-length}
use Rattle.addr_base.specs.declared.ids.KeyNo.{KeyNo}
use Rattle.addr_locate.specs.declared.rows.AssetRow.{AssetRow}
use Rattle.addr_locate.specs.declared.rows.BundleRow.{BundleRow}
use Rattle.addr_locate.specs.declared.rows.PlainAsset.{PlainAsset}
use Rattle.addr_locate.specs.Rows.{Rows, AreRows, texts_once, text_at, place_of, numbered, written, rows_of, keys_of, kinds_of, has_sound_deps, no_text_twice}
use Rattle.addr_locate.proofs.TextLemmas.{same_texts, text_is_itself, any-texts_once, place-within}

pub or_true : (b : Bool) → (b || true) ≡ true
or_true true = refl
or_true false = refl

-- one more text, put to those kept once
pub bytes_eq-sym : (t u : List ℕ) → bytes_eq t u ≡ bytes_eq u t
bytes_eq-sym t u = same_from_decides (bytes_eq t u) (bytes_eq u t) (bytes_eq-Decides t u) ((λ e. sym ((bytes_eq-Decides u t).0 e)), (λ e. (bytes_eq-Decides u t).1 (sym e)))

pub texts_once-snoc : (ts : List (List ℕ)) (t : List ℕ) → texts_once (ts ++ t ∷ []) ≡ texts_once ts ++ cond (list_any (λ u. bytes_eq u t) ts) [] (t ∷ [])
texts_once-snoc [] t = refl
texts_once-snoc (x ∷ xs) t = rw (texts_once-snoc xs t, filter-append) (by_tests (list_any (λ u. bytes_eq u t) xs) (bytes_eq x t) refl refl)
  where
    by_tests : (known here : Bool) → list_any (λ u. bytes_eq u t) xs ≡ known → bytes_eq x t ≡ here → x ∷ filter (λ u. not (bytes_eq u x)) (texts_once xs) ++ filter (λ u. not (bytes_eq u x)) (cond (list_any (λ u. bytes_eq u t) xs) [] (t ∷ [])) ≡ texts_once (x ∷ xs) ++ cond (bytes_eq x t || list_any (λ u. bytes_eq u t) xs) [] (t ∷ [])
    by_tests true true e f = rw (e, f)
    by_tests true false e f = rw (e, f)
    by_tests false true e f = let turned : bytes_eq t x ≡ true = bytes_eq-sym t x ∙ f in rw (e, f, turned)
    by_tests false false e f = let turned : bytes_eq t x ≡ false = bytes_eq-sym t x ∙ f in rw (e, f, turned)

pub text_put : (seen known : List (List ℕ)) (t : List ℕ) → known ≡ texts_once seen → list_any (λ u. bytes_eq u t) seen ≡ false → known ++ t ∷ [] ≡ texts_once (seen ++ t ∷ [])
text_put seen known t same missing = rw (texts_once-snoc seen t, missing, same)

pub text_pass : (seen known : List (List ℕ)) (t : List ℕ) → known ≡ texts_once seen → list_any (λ u. bytes_eq u t) seen ≡ true → known ≡ texts_once (seen ++ t ∷ [])
text_pass seen known t same found = rw (texts_once-snoc seen t, found, same) (sym (append-nil (texts_once seen)))

-- where a text is there, its place leads back to it
place-or-end : (b : Bool) (n end : ℕ) → nat_lt n end ≡ b → n ≤ end → unwrap_or (cond b (Some n) None) end ≡ n
place-or-end true n end e within = refl
place-or-end false n end e within = omega (arith, ltb-false n end e)

pub place_or_end-position : {X : Type 0} (p : X → Bool) (xs : List X) → unwrap_or (position p xs) (length xs) ≡ position_or_len p xs
place_or_end-position p xs = place-or-end (nat_lt (position_or_len p xs) (length xs)) (position_or_len p xs) (length xs) refl (prefix_len-le-length (λ x. not (p x)) xs)

pub text_at-place_of : (texts : List (List ℕ)) (t : List ℕ) → list_any (λ u. bytes_eq u t) texts ≡ true → text_at texts (place_of texts t) ≡ t
text_at-place_of [] t there = cc
text_at-place_of (u ∷ us) t there = by_test (bytes_eq u t) refl (text_at-place_of us t)
  where
    by_test : (same : Bool) → bytes_eq u t ≡ same → (list_any (λ u. bytes_eq u t) us ≡ true → text_at us (place_of us t) ≡ t) → text_at (u ∷ us) (place_of (u ∷ us) t) ≡ t
    by_test true e rest = rw e (same_texts u t e)
    by_test false e rest = let next : 1 + place_of us t ≡ suc (place_of us t) = omega arith in rw (e, next) (rest (rw e at there))

keys-back : (keys : List (List ℕ)) (ts : List (List ℕ)) → ((t : List ℕ) → list_any (λ u. bytes_eq u t) ts ≡ true → list_any (λ u. bytes_eq u t) keys ≡ true) → map (λ (k : KeyNo). text_at keys k.0) (map (λ t. record { 0 = place_of keys t }) ts) ≡ ts
keys-back keys [] held = refl
keys-back keys (t ∷ ts) held =
    let first = text_at-place_of keys t (held t (rw (text_is_itself t))) in
    let rest = keys-back keys ts (λ u there. held u (rw there (or_true (bytes_eq t u)))) in
    rw (first, rest)

-- a numbered row is written back as it was
pub written-numbered : (bundles : List BundleRow) (rows : List AssetRow) (keys kinds : List (List ℕ)) (assets : List PlainAsset) → ((t : List ℕ) → list_any (λ u. bytes_eq u t) (flat_map (λ a. a.keys) assets) ≡ true → list_any (λ u. bytes_eq u t) keys ≡ true) → ((t : List ℕ) → list_any (λ u. bytes_eq u t) (map (λ a. a.kind) assets) ≡ true → list_any (λ u. bytes_eq u t) kinds ≡ true) → map (written (record { bundles = bundles; assets = rows; keys = keys; kinds = kinds })) (map (numbered keys kinds) assets) ≡ assets
written-numbered bundles rows keys kinds [] has_keys has_kinds = refl
written-numbered bundles rows keys kinds (a ∷ assets) has_keys has_kinds =
    let own = keys-back keys a.keys (λ t there. has_keys t (list_any-append (λ u. bytes_eq u t) a.keys (flat_map (λ a. a.keys) assets) ∙ rw there)) in
    let kind = text_at-place_of kinds a.kind (has_kinds a.kind (rw (text_is_itself a.kind))) in
    let rest = written-numbered bundles rows keys kinds assets (λ t there. has_keys t (list_any-append (λ u. bytes_eq u t) a.keys (flat_map (λ a. a.keys) assets) ∙ rw there (or_true (list_any (λ u. bytes_eq u t) a.keys)))) (λ t there. has_kinds t (rw there (or_true (bytes_eq a.kind t)))) in
    rw (own, kind, rest)

pub written_back : (bundles : List BundleRow) (assets : List PlainAsset) → map (written (rows_of bundles assets)) (rows_of bundles assets).assets ≡ assets
unfolding rows_of
written_back bundles assets = written-numbered bundles (map (numbered (keys_of assets) (kinds_of assets)) assets) (keys_of assets) (kinds_of assets) assets (λ t there. any-texts_once t (flat_map (λ a. a.keys) assets) ∙ there) (λ t there. any-texts_once t (map (λ a. a.kind) assets) ∙ there)

pub AreRows-rows_of : (bundles : List BundleRow) (assets : List PlainAsset) → length bundles < 2 ^ 32 → length assets < 2 ^ 32 → length (keys_of assets) < 2 ^ 32 → IsTrue (list_all (λ a. has_sound_deps (length bundles) a.deps) assets) → IsTrue (list_all (λ a. no_text_twice a.keys) assets) → AreRows (rows_of bundles assets)
unfolding rows_of
AreRows-rows_of bundles assets few_bundles few_assets few_keys deps keys =
    let back : map (written (rows_of bundles assets)) (map (numbered (keys_of assets) (kinds_of assets)) assets) ≡ assets = written_back bundles assets in
    record {
      numbers = ap (rows_of bundles) back;
      few_bundles = few_bundles;
      few_assets = rw length-map few_assets;
      few_keys = few_keys;
      deps = list_all-map (λ (a : AssetRow). has_sound_deps (length bundles) a.deps) (numbered (keys_of assets) (kinds_of assets)) assets ∙ deps;
      keys = sym (list_all-map (λ (a : PlainAsset). no_text_twice a.keys) (written (rows_of bundles assets)) (map (numbered (keys_of assets) (kinds_of assets)) assets)) ∙ (ap (list_all (λ (a : PlainAsset). no_text_twice a.keys)) back ∙ keys);
    }

-- each key of a row is the number of a text
below-keys : (keys : List (List ℕ)) (ts : List (List ℕ)) → ((t : List ℕ) → list_any (λ u. bytes_eq u t) ts ≡ true → list_any (λ u. bytes_eq u t) keys ≡ true) → list_all (λ (k : KeyNo). nat_lt k.0 (length keys)) (map (λ t. let k : KeyNo = record { 0 = place_of keys t } in k) ts) ≡ true
below-keys keys [] held = refl
below-keys keys (t ∷ ts) held =
    let here : nat_lt (place_of keys t) (length keys) ≡ true = place-within (λ u. bytes_eq u t) keys ∙ held t (rw (text_is_itself t)) in
    let rest = below-keys keys ts (λ u there. held u (rw there (or_true (bytes_eq t u)))) in
    rw (here, rest)

below-rows : (keys kinds : List (List ℕ)) (assets : List PlainAsset) → ((t : List ℕ) → list_any (λ u. bytes_eq u t) (flat_map (λ a. a.keys) assets) ≡ true → list_any (λ u. bytes_eq u t) keys ≡ true) → list_all (λ (a : AssetRow). list_all (λ (k : KeyNo). nat_lt k.0 (length keys)) a.keys) (map (numbered keys kinds) assets) ≡ true
below-rows keys kinds [] held = refl
below-rows keys kinds (a ∷ assets) held =
    let here = below-keys keys a.keys (λ t there. held t (list_any-append (λ u. bytes_eq u t) a.keys (flat_map (λ a. a.keys) assets) ∙ rw there)) in
    let rest = below-rows keys kinds assets (λ t there. held t (list_any-append (λ u. bytes_eq u t) a.keys (flat_map (λ a. a.keys) assets) ∙ rw there (or_true (list_any (λ u. bytes_eq u t) a.keys)))) in
    rw (here, rest)

pub keys_below : (r : Rows) → AreRows r → list_all (λ (a : AssetRow). list_all (λ (k : KeyNo). nat_lt k.0 (length r.keys)) a.keys) r.assets ≡ true
unfolding rows_of
keys_below r are =
    let assets = map (written r) r.assets in
    subst (λ (q : Rows). list_all (λ (a : AssetRow). list_all (λ (k : KeyNo). nat_lt k.0 (length q.keys)) a.keys) q.assets ≡ true) are.numbers (below-rows (keys_of assets) (kinds_of assets) assets (λ t there. any-texts_once t (flat_map (λ a. a.keys) assets) ∙ there))

-- the parts that `of_rows` puts together
pub rows_of-made : (bundles held : List BundleRow) (assets : List PlainAsset) (rows : List AssetRow) (keys kinds : List (List ℕ)) → held ≡ bundles → rows ≡ map (numbered keys kinds) assets → keys ≡ keys_of assets → kinds ≡ kinds_of assets → record { bundles = held; assets = rows; keys = keys; kinds = kinds } ≡ rows_of bundles assets
unfolding rows_of
rows_of-made bundles held assets rows keys kinds same made own_keys own_kinds = rw (same, made, own_keys, own_kinds)

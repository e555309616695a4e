-- What the rows of a locator keep, and that the numbers which they are written with name something.
use Rattle.std.proofs.Common.{ℕ, zero, suc, ◌≡◌, ◌+◌, ◌<◌, ◌≤◌, ◌^◌, Bool, true, false, ◌||◌, not, List, [], ◌∷◌, ◌++◌, length, map, take, get_or, append_assoc, Bor, refl, sym, ap, subst, ◌∙◌, arith, length-append}
use Rattle.std.specs.List.{list_any, flat_map, enumerate_from, AllByRecursion}
use Rattle.std.specs.Str.{bytes_eq}
use Rattle.std.proofs.lemmas.Bool.Decides.{nat_tests}
use Rattle.std.proofs.lemmas.List.{length-map, take_more, length-take-le}
use Rattle.std.proofs.lemmas.List.Folds.{list_any-append}
use Rattle.std.proofs.lemmas.List.Sums.{prefix_len-le-length}
use Rattle.std.proofs.lemmas.List.FromFn.{length-enumerate_from}
use Rattle.addr_base.specs.declared.ids.KeyNo.{KeyNo}
use Rattle.addr_locate.specs.declared.rows.AssetRow.{AssetRow}
use Rattle.addr_locate.specs.declared.rows.BundleRow.{BundleRow}
use Rattle.addr_locate.specs.declared.rows.PlainAsset.{PlainAsset}
use Rattle.addr_locate.specs.Rows.{Rows, AreRows, text_at, place_of, numbered, written, rows_of, keys_of, kinds_of}
use Rattle.addr_locate.proofs.TextLemmas.{text_is_itself, any-texts_once}
use Rattle.addr_locate.proofs.TextLemmas as texts
use Rattle.addr_catalog.specs.Inverted.{AreNumbersBelow}
use Rattle.addr_catalog.specs.Written.{table_texts, bundle_key_numbers, asset_key_numbers, row_key_numbers, dep_lists, table_entries, bundle_entry, asset_entry, each_numbered}
use Rattle.addr_catalog.specs.Few.{AreFew}
use Rattle.addr_tables.proofs.RowLemmas.{all_more}
use Rattle.addr_tables.proofs.WrittenLemmas.{all_at}
use Rattle.addr_catalog.proofs.KeyNumberLemmas.{few_keys}

or_true : (b : Bool) → (b || true) ≡ true
or_true true = refl
or_true false = refl

true_or : (a b : Bool) → a ≡ true → (a || b) ≡ true
true_or a b e = rw e refl

-- ---- places

-- the place of a text that is there is that of a text
pub place_within : (texts : List (List ℕ)) (t : List ℕ) → list_any (λ u. bytes_eq u t) texts ≡ true → place_of texts t < length texts
place_within [] t there = cc
place_within (u ∷ us) t there = by_test (bytes_eq u t) refl (place_within us t)
  where
    by_test : (same : Bool) → bytes_eq u t ≡ same → (list_any (λ u. bytes_eq u t) us ≡ true → place_of us t < length us) → place_of (u ∷ us) t < length (u ∷ us)
    by_test true e rest = rw e (omega arith)
    by_test false e rest = let within = rest (rw e at there) in rw e (omega (arith, within))

-- a place is at most the end
pub place_or_end : (texts : List (List ℕ)) (t : List ℕ) → place_of texts t ≤ length texts
place_or_end texts t = prefix_len-le-length (λ u. not (bytes_eq u t)) texts

-- a text at a place is there
pub text_there : (texts : List (List ℕ)) (n : ℕ) → n < length texts → list_any (λ u. bytes_eq u (text_at texts n)) texts ≡ true
text_there [] n within = absurd (omega (arith, within))
text_there (u ∷ us) zero within = true_or (bytes_eq u u) (list_any (λ w. bytes_eq w u) us) (text_is_itself u)
text_there (u ∷ us) (suc n) within = let rest = text_there us n (omega (arith, within)) in rw rest (or_true (bytes_eq u (text_at us n)))

-- ---- rows

sound_keys : (keys : List (List ℕ)) (ts : List (List ℕ)) → ((t : List ℕ) → list_any (λ u. bytes_eq u t) ts ≡ true → list_any (λ u. bytes_eq u t) keys ≡ true) → AllByRecursion (λ (k : KeyNo). k.0 < length keys) (map (λ t. record { 0 = place_of keys t }) ts)
sound_keys keys [] held = tt
sound_keys keys (t ∷ ts) held =
    (place_within keys t (held t (true_or (bytes_eq t t) (list_any (λ u. bytes_eq u t) ts) (text_is_itself t))), sound_keys keys ts (λ u there. held u (rw there (or_true (bytes_eq t u)))))

-- rows that are numbered by lists which have all their texts
abbrev pub IsNumbered : (keys kinds : List (List ℕ)) → AssetRow → Type 0
IsNumbered keys kinds a = (a.kind.0 < length kinds) × AllByRecursion (λ (k : KeyNo). k.0 < length keys) a.keys

numbered_sound : (keys kinds : List (List ℕ)) (assets : List PlainAsset) → ((t : List ℕ) → list_any (λ u. bytes_eq u t) (flat_map (λ a. a.keys) assets) ≡ true → list_any (λ u. bytes_eq u t) keys ≡ true) → ((t : List ℕ) → list_any (λ u. bytes_eq u t) (map (λ a. a.kind) assets) ≡ true → list_any (λ u. bytes_eq u t) kinds ≡ true) → AllByRecursion (IsNumbered keys kinds) (map (numbered keys kinds) assets)
numbered_sound keys kinds [] has_keys has_kinds = tt
numbered_sound keys kinds (a ∷ assets) has_keys has_kinds =
    let kind = place_within kinds a.kind (has_kinds a.kind (true_or (bytes_eq a.kind a.kind) (list_any (λ u. bytes_eq u a.kind) (map (λ (a : PlainAsset). a.kind) assets)) (text_is_itself a.kind))) in
    let own = sound_keys keys a.keys (λ t there. has_keys t (list_any-append (λ u. bytes_eq u t) a.keys (flat_map (λ a. a.keys) assets) ∙ rw there)) in
    let rest = numbered_sound keys kinds assets (λ t there. has_keys t (list_any-append (λ u. bytes_eq u t) a.keys (flat_map (λ a. a.keys) assets) ∙ rw there (or_true (list_any (λ u. bytes_eq u t) a.keys)))) (λ t there. has_kinds t (rw there (or_true (bytes_eq a.kind t)))) in
    ((kind, own), rest)

made_sound : (bundles : List BundleRow) (assets : List PlainAsset) → AllByRecursion (IsNumbered (rows_of bundles assets).keys (rows_of bundles assets).kinds) (rows_of bundles assets).assets
unfolding rows_of
made_sound bundles assets = numbered_sound (keys_of assets) (kinds_of assets) assets (λ t there. any-texts_once t (flat_map (λ a. a.keys) assets) ∙ there) (λ t there. any-texts_once t (map (λ a. a.kind) assets) ∙ there)

pub sound_rows : (r : Rows) → AreRows r → AllByRecursion (IsNumbered r.keys r.kinds) r.assets
sound_rows r are = subst (λ (q : Rows). AllByRecursion (IsNumbered q.keys q.kinds) q.assets) are.numbers (made_sound r.bundles (map (written r) r.assets))

-- ---- the numbers of the rows' keys

-- a text of an asset's key, and that of a bundle's, is among the texts of all keys
key_there : (r : Rows) (n : ℕ) → n < length r.keys → list_any (λ u. bytes_eq u (text_at r.keys n)) (table_texts r) ≡ true
unfolding table_texts
key_there r n within =
    let t = text_at r.keys n in
    any-texts_once t (map (λ (b : BundleRow). b.key) r.bundles ++ r.keys) ∙ (list_any-append (λ u. bytes_eq u t) (map (λ (b : BundleRow). b.key) r.bundles) r.keys ∙ rw (text_there r.keys n within) (or_true (list_any (λ u. bytes_eq u t) (map (λ (b : BundleRow). b.key) r.bundles))))

key_within : (r : Rows) (ks : List KeyNo) → AllByRecursion (λ (k : KeyNo). k.0 < length r.keys) ks → AreNumbersBelow (length (table_texts r)) (map (λ (k : KeyNo). place_of (table_texts r) (text_at r.keys k.0)) ks)
key_within r [] sound = refl
key_within r (k ∷ ks) sound =
    let first = place_within (table_texts r) (text_at r.keys k.0) (key_there r k.0 sound.0) in
    let rest = key_within r ks sound.1 in
    grind (arith, nat_tests, first, rest)

assets_within : (r : Rows) (assets : List AssetRow) → AllByRecursion (IsNumbered r.keys r.kinds) assets → AllByRecursion (AreNumbersBelow (length (table_texts r))) (map (asset_key_numbers (table_texts r) r) assets)
assets_within r [] sound = tt
assets_within r (a ∷ assets) sound = (key_within r a.keys sound.0.1, assets_within r assets sound.1)

bundles_within : (texts : List (List ℕ)) (bundles : List BundleRow) → ((t : List ℕ) → list_any (λ u. bytes_eq u t) (map (λ (b : BundleRow). b.key) bundles) ≡ true → list_any (λ u. bytes_eq u t) texts ≡ true) → AllByRecursion (AreNumbersBelow (length texts)) (map (bundle_key_numbers texts) bundles)
bundles_within texts [] has = tt
bundles_within texts (b ∷ bundles) has =
    let first = place_within texts b.key (has b.key (true_or (bytes_eq b.key b.key) (list_any (λ u. bytes_eq u b.key) (map (λ (b : BundleRow). b.key) bundles)) (text_is_itself b.key))) in
    let rest = bundles_within texts bundles (λ t there. has t (rw there (or_true (bytes_eq b.key t)))) in
    (grind (arith, nat_tests, first), rest)

bundle_there : (r : Rows) (t : List ℕ) → list_any (λ u. bytes_eq u t) (map (λ (b : BundleRow). b.key) r.bundles) ≡ true → list_any (λ u. bytes_eq u t) (table_texts r) ≡ true
unfolding table_texts
bundle_there r t there = any-texts_once t (map (λ (b : BundleRow). b.key) r.bundles ++ r.keys) ∙ (list_any-append (λ u. bytes_eq u t) (map (λ (b : BundleRow). b.key) r.bundles) r.keys ∙ true_or (list_any (λ u. bytes_eq u t) (map (λ (b : BundleRow). b.key) r.bundles)) (list_any (λ u. bytes_eq u t) r.keys) there)

pub rows_within : (r : Rows) → AreRows r → AllByRecursion (AreNumbersBelow (length (table_texts r))) (row_key_numbers r)
unfolding row_key_numbers
rows_within r are = both (map (bundle_key_numbers (table_texts r)) r.bundles) (bundles_within (table_texts r) r.bundles (bundle_there r))
  where
    both : (front : List (List ℕ)) → AllByRecursion (AreNumbersBelow (length (table_texts r))) front → AllByRecursion (AreNumbersBelow (length (table_texts r))) (front ++ map (asset_key_numbers (table_texts r) r) r.assets)
    both [] each = assets_within r r.assets (sound_rows r are)
    both (ns ∷ front) each = (each.0, both front each.1)

-- ---- how many there are

length-each_numbered : {A B : Type 0} (f : ℕ → A → B) (n : ℕ) (xs : List A) → length (each_numbered f n xs) ≡ length xs
length-each_numbered f n xs = length-map (enumerate_from n xs) (λ p. f p.0 p.1) ∙ length-enumerate_from n xs

pub count_entries : (r : Rows) → length (table_entries r) ≡ length r.bundles + length r.assets
unfolding table_entries
count_entries r =
    let bundles = length-each_numbered (bundle_entry r) 0 r.bundles in
    let assets = length-each_numbered (asset_entry r) (length r.bundles) r.assets in
    length-append (each_numbered (bundle_entry r) 0 r.bundles) (each_numbered (asset_entry r) (length r.bundles) r.assets) ∙ rw (bundles, assets) refl

pub count_rows : (r : Rows) → length (row_key_numbers r) ≡ length r.bundles + length r.assets
unfolding row_key_numbers
count_rows r =
    let bundles = length-map r.bundles (bundle_key_numbers (table_texts r)) in
    let assets = length-map r.assets (asset_key_numbers (table_texts r) r) in
    length-append (map (bundle_key_numbers (table_texts r)) r.bundles) (map (asset_key_numbers (table_texts r) r) r.assets) ∙ rw (bundles, assets) refl

pub few_rows : (r : Rows) → AreFew r → length r.bundles + length r.assets < 2 ^ 31
few_rows r few = omega (arith, few)

pub count_texts : (texts : List (Bor (List ℕ))) (lists : List (List ℕ)) → map (λ t. t.now) texts ≡ lists → length texts ≡ length lists
count_texts texts lists are = sym (length-map texts (λ (t : Bor (List ℕ)). t.now)) ∙ ap length are

-- the numbers of keys are small, from the first text to the last list
pub few_places : (r : Rows) (lists : List (Bor (List ℕ))) (ns : List ℕ) (place : ℕ) → AreFew r → map (λ l. l.now) lists ≡ dep_lists r → place ≡ place_of (map (λ l. l.now) lists) ns → length (table_texts r) + place < 2 ^ 30
few_places r lists ns place few are is =
    let at = is ∙ ap (λ ls. place_of ls ns) are in
    omega (arith, few_keys r few, at, place_or_end (dep_lists r) ns)

-- ---- entries, one after the other

each_numbered-snoc : {A B : Type 0} (f : ℕ → A → B) (n : ℕ) (xs : List A) (x : A) → each_numbered f n (xs ++ x ∷ []) ≡ each_numbered f n xs ++ f (n + length xs) x ∷ []
each_numbered-snoc f n [] x = let same : n + 0 ≡ n = omega arith in rw same refl
each_numbered-snoc f n (y ∷ ys) x =
    let rest = each_numbered-snoc f (n + 1) ys x in
    let far : n + 1 + length ys ≡ n + length (y ∷ ys) = omega arith in
    ap (λ zs. f n y ∷ zs) (rest ∙ rw far refl)

pub numbered_put : {A B : Type 0} (f : ℕ → A → B) (n : ℕ) (front made new : List B) (xs : List A) (i : ℕ) (x : A) (y : B) → x ≡ get_or xs i x → i < length xs → made ≡ front ++ each_numbered f n (take i xs) → new ≡ made ++ y ∷ [] → y ≡ f (n + i) x → new ≡ front ++ each_numbered f n (take (i + 1) xs)
numbered_put f n front made new xs i x y is within so_far put entry =
    let more : take (i + 1) xs ≡ take i xs ++ x ∷ [] = take_more xs i x within ∙ ap (λ z. take i xs ++ z ∷ []) (sym is) in
    let long : length (take i xs) ≡ i = length-take-le i xs (omega (arith, within)) in
    let last : each_numbered f n (take (i + 1) xs) ≡ each_numbered f n (take i xs) ++ y ∷ [] = ap (each_numbered f n) more ∙ (each_numbered-snoc f n (take i xs) x ∙ rw (long, entry) refl) in
    put ∙ (ap (λ zs. zs ++ y ∷ []) so_far ∙ (append_assoc front (each_numbered f n (take i xs)) (y ∷ []) ∙ ap (λ zs. front ++ zs) (sym last)))

pub all_put : {A : Type 0} (P : A → Type 0) (xs : List A) (i : ℕ) (x : A) → x ≡ get_or xs i x → i < length xs → AllByRecursion P (take i xs) → P x → AllByRecursion P (take (i + 1) xs)
all_put P xs i x is within all this =
    let more : take (i + 1) xs ≡ take i xs ++ x ∷ [] = take_more xs i x within ∙ ap (λ z. take i xs ++ z ∷ []) (sym is) in
    subst (AllByRecursion P) (sym more) (all_more P (take i xs) x all this)

-- the type of a row has a small number
pub few_kinds : (r : Rows) (i : ℕ) (a : AssetRow) → AreRows r → AreFew r → a ≡ get_or r.assets i a → i < length r.assets → a.kind.0 < 2 ^ 31
few_kinds r i a are few is within =
    let sound : IsNumbered r.keys r.kinds a = subst (IsNumbered r.keys r.kinds) (sym is) (all_at (IsNumbered r.keys r.kinds) r.assets i a within (sound_rows r are)) in
    omega (arith, sound.0, texts.few_kinds r are.numbers, few_rows r few)

-- Texts that are numbered one after another, and the look-up of their places: one more text, and the numbers of whole rows.
use Rattle.std.proofs.Common.{◌≡◌, ◌==◌, not, ℕ, ◌+◌, ◌≤◌, Bool, true, false, ◌||◌, nat_lt, cond, List, [], ◌∷◌, ◌++◌, length, Option, Some, None, is_some, refl, sym, ap, ◌∙◌, arith, position, length-append, add-zero, map, append_assoc, append-nil, unwrap_or}
use Rattle.std.proofs.lemmas.Bool.{false≢true, ne_eqb}
use borrow.Author.Tests.{ltb-true}
use Rattle.std.proofs.lemmas.Bool.Decides.{nat_tests}
use Rattle.std.proofs.lemmas.List.Folds.{position_or_len_push}
use Rattle.std.proofs.lemmas.List.Sums.{prefix_len-le-length}
use Rattle.std.proofs.lemmas.Map.Text.{hash_map_updates_text}
use Rattle.std.specs.HashMap.{HashMap, get_by_text, UpdatesBy}
use Rattle.std.specs.List.{position_or_len}
use Rattle.std.specs.Option.{option_or}
use Rattle.std.specs.Str.{bytes_eq}
use Rattle.std.specs.Prelude.{String}
use Rattle.std.specs.String.{string_bytes, string_eq}
use Rattle.addr_locate.proofs.TextLemmas.{same_texts}
use Rattle.addr_locate.specs.Names.{FindsPlaces}
use Rattle.std.proofs.lemmas.List.{map-append}
use Rattle.std.proofs.lemmas.List.Folds.{list_any-append}
use Rattle.std.specs.List.{list_any, flat_map}
use Rattle.addr_base.specs.declared.ids.KeyNo.{KeyNo}
use Rattle.addr_locate.specs.declared.rows.AssetRow.{AssetRow}
use Rattle.addr_locate.specs.declared.rows.PlainAsset.{PlainAsset}
use Rattle.addr_locate.specs.Names.{with_text, with_texts}
use Rattle.addr_locate.specs.Rows.{place_of, texts_once, numbered, keys_of, kinds_of}
use Rattle.addr_locate.proofs.TextLemmas.{text_is_itself, any-texts_once, is_some-position}
use Rattle.addr_locate.proofs.NumberLemmas.{or_true, texts_once-snoc, place_or_end-position}

-- the first place in a list with one more element
position_push : {X : Type 0} (p : X → Bool) (xs : List X) (x : X) → position p (xs ++ x ∷ []) ≡ option_or (position p xs) (cond (p x) (Some (length xs)) None)
position_push p xs x = by_place (nat_lt (position_or_len p xs) (length xs)) refl
  where
    long : length (xs ++ x ∷ []) ≡ length xs + 1
    long = length-append xs (x ∷ [])

    by_test : (here : Bool) → p x ≡ here → position_or_len p xs ≡ length xs → position p (xs ++ x ∷ []) ≡ option_or (position p xs) (cond (p x) (Some (length xs)) None)
    by_test true f all =
        let same : (length xs == length xs) ≡ true = grind (arith, nat_tests) in
        let more : nat_lt (length xs) (length xs + 1) ≡ true = grind (arith, nat_tests) in
        let past : nat_lt (length xs) (length xs) ≡ false = grind (arith, nat_tests) in
        rw (long, position_or_len_push p xs x, all, same, f, add-zero, more, past) refl
    by_test false f all =
        let same : (length xs == length xs) ≡ true = grind (arith, nat_tests) in
        let end : nat_lt (length xs + 1) (length xs + 1) ≡ false = grind (arith, nat_tests) in
        let past : nat_lt (length xs) (length xs) ≡ false = grind (arith, nat_tests) in
        rw (long, position_or_len_push p xs x, all, same, f, end, past) refl

    by_place : (inside : Bool) → nat_lt (position_or_len p xs) (length xs) ≡ inside → position p (xs ++ x ∷ []) ≡ option_or (position p xs) (cond (p x) (Some (length xs)) None)
    by_place true e =
        let small = ltb-true (position_or_len p xs) (length xs) e in
        let before : (position_or_len p xs == length xs) ≡ false = ne_eqb (position_or_len p xs) (length xs) (λ same. absurd (omega arith)) in
        let more : nat_lt (position_or_len p xs) (length xs + 1) ≡ true = grind (arith, nat_tests, small) in
        rw (long, position_or_len_push p xs x, before, more, e) refl
    by_place false e =
        let past : length xs ≤ position_or_len p xs = grind (arith, nat_tests, e) in
        let within = prefix_len-le-length (λ x. not (p x)) xs in
        by_test (p x) refl (omega (arith, past, within))

option_or-none : {X : Type 0} (o : Option X) → option_or o None ≡ o
option_or-none None = refl
option_or-none (Some x) = refl

-- an index with one more text, which it lacks or has
pub FindsPlaces-put : {Y S : Type 0} (before : List (List ℕ)) (place : ℕ) (text : List ℕ) (m n : HashMap (String Y) ℕ S) → place ≡ length before → FindsPlaces before (get_by_text m)
    → get_by_text m text ≡ None
    → UpdatesBy string_eq (λ k. bytes_eq text (string_bytes k)) m n (Some place)
    → FindsPlaces (before ++ text ∷ []) (get_by_text n)
FindsPlaces-put before place text m n at holds absent updates other = hash_map_updates_text text m n (Some place) updates other ∙ by_test (bytes_eq text other) refl ∙ sym (position_push (λ t. bytes_eq t other) before text)
  where
    by_test : (t : Bool) → bytes_eq text other ≡ t → cond (bytes_eq text other) (Some place) (get_by_text m other) ≡ option_or (position (λ t. bytes_eq t other) before) (cond (bytes_eq text other) (Some (length before)) None)
    by_test true same =
        let none : position (λ t. bytes_eq t other) before ≡ None = sym (holds other) ∙ ap (λ bytes. get_by_text m bytes) (sym (same_texts text other same)) ∙ absent in
        rw (same, none, at) refl
    by_test false differs = rw (differs, option_or-none (position (λ t. bytes_eq t other) before)) (holds other)

-- Texts that are numbered one after another: each new one stands behind the others, and a number that was given stays

any-with_text : (texts : List (List ℕ)) (text other : List ℕ) → list_any (λ t. bytes_eq t other) (with_text texts text) ≡ (list_any (λ t. bytes_eq t other) texts || bytes_eq text other)
any-with_text texts text other = list_any-append (λ t. bytes_eq t other) texts (cond (list_any (λ t. bytes_eq t text) texts) [] (text ∷ [])) ∙ by (list_any (λ t. bytes_eq t text) texts) refl (bytes_eq text other) refl
  where
    by : (known : Bool) → list_any (λ t. bytes_eq t text) texts ≡ known → (same : Bool) → bytes_eq text other ≡ same → (list_any (λ t. bytes_eq t other) texts || list_any (λ t. bytes_eq t other) (cond (list_any (λ t. bytes_eq t text) texts) [] (text ∷ []))) ≡ (list_any (λ t. bytes_eq t other) texts || bytes_eq text other)
    by true is true same =
        let there : list_any (λ t. bytes_eq t other) texts ≡ true = ap (λ u. list_any (λ t. bytes_eq t u) texts) (sym (same_texts text other same)) ∙ is in
        rw (is, same, there) refl
    by true is false same = rw (is, same) refl
    by false is true same = rw (is, same) refl
    by false is false same = rw (is, same) refl

-- a text that is there keeps its place
place_of-more : (texts more : List (List ℕ)) (text : List ℕ) → list_any (λ t. bytes_eq t text) texts ≡ true → place_of (texts ++ more) text ≡ place_of texts text
place_of-more [] more text there = absurd (false≢true there)
place_of-more (t ∷ texts) more text there = by (bytes_eq t text) refl (place_of-more texts more text)
  where
    by : (same : Bool) → bytes_eq t text ≡ same → (list_any (λ u. bytes_eq u text) texts ≡ true → place_of (texts ++ more) text ≡ place_of texts text) → place_of (t ∷ texts ++ more) text ≡ place_of (t ∷ texts) text
    by true e rest = rw e refl
    by false e rest = rw (e, rest (rw e at there)) refl

place_of-last : (texts : List (List ℕ)) (text : List ℕ) → list_any (λ t. bytes_eq t text) texts ≡ false → place_of (texts ++ text ∷ []) text ≡ length texts
place_of-last [] text new = rw (text_is_itself text) refl
place_of-last (t ∷ texts) text new = by (bytes_eq t text) refl (place_of-last texts text)
  where
    by : (same : Bool) → bytes_eq t text ≡ same → (list_any (λ u. bytes_eq u text) texts ≡ false → place_of (texts ++ text ∷ []) text ≡ length texts) → place_of (t ∷ texts ++ text ∷ []) text ≡ length (t ∷ texts)
    by true e rest = absurd (false≢true (sym (rw e at new)))
    by false e rest = rw (e, rest (rw e at new)) (omega arith)

-- a text that is there, and a new one
is_there : (texts : List (List ℕ)) (text : List ℕ) (found : Option ℕ) → found ≡ position (λ t. bytes_eq t text) texts → list_any (λ t. bytes_eq t text) texts ≡ is_some found
is_there texts text found is = sym (is_some-position (λ t. bytes_eq t text) texts) ∙ ap is_some (sym is)

pub with_text-known : (texts : List (List ℕ)) (text : List ℕ) (n : ℕ) → Some n ≡ position (λ t. bytes_eq t text) texts → texts ≡ with_text texts text
with_text-known texts text n is = sym (ap (λ b. texts ++ cond b [] (text ∷ [])) (is_there texts text (Some n) is) ∙ append-nil texts)

pub place_of-known : (texts : List (List ℕ)) (text : List ℕ) (n : ℕ) → Some n ≡ position (λ t. bytes_eq t text) texts → n ≡ place_of texts text
place_of-known texts text n is = ap (λ o. unwrap_or o (length texts)) is ∙ place_or_end-position (λ t. bytes_eq t text) texts

pub with_text-new : (texts : List (List ℕ)) (text : List ℕ) → position (λ t. bytes_eq t text) texts ≡ None → with_text texts text ≡ texts ++ text ∷ []
with_text-new texts text none = ap (λ b. texts ++ cond b [] (text ∷ [])) (is_there texts text None (sym none))

pub place_of-new : (texts : List (List ℕ)) (text : List ℕ) → position (λ t. bytes_eq t text) texts ≡ None → place_of (texts ++ text ∷ []) text ≡ length texts
place_of-new texts text none = place_of-last texts text (is_there texts text None (sym none))

-- several texts
any-with_texts : (texts ts : List (List ℕ)) (other : List ℕ) → list_any (λ t. bytes_eq t other) (with_texts texts ts) ≡ (list_any (λ t. bytes_eq t other) texts || list_any (λ t. bytes_eq t other) ts)
any-with_texts texts [] other = sym (or_false (list_any (λ t. bytes_eq t other) texts))
  where
    or_false : (b : Bool) → (b || false) ≡ b
    or_false true = refl
    or_false false = refl
any-with_texts texts (t ∷ ts) other =
    any-with_texts (with_text texts t) ts other ∙ ap (λ b. b || list_any (λ u. bytes_eq u other) ts) (any-with_text texts t other)
    ∙ assoc (list_any (λ u. bytes_eq u other) texts) (bytes_eq t other) (list_any (λ u. bytes_eq u other) ts)
  where
    assoc : (a b c : Bool) → ((a || b) || c) ≡ (a || (b || c))
    assoc true b c = refl
    assoc false b c = refl

with_texts-more : (texts ts : List (List ℕ)) → (more : List (List ℕ)) × (with_texts texts ts ≡ texts ++ more)
with_texts-more texts [] = ([], sym (append-nil texts))
with_texts-more texts (t ∷ ts) =
    let here = cond (list_any (λ u. bytes_eq u t) texts) [] (t ∷ []) in
    let rest = with_texts-more (with_text texts t) ts in
    (here ++ rest.0, rest.1 ∙ append_assoc texts here rest.0)

with_texts-snoc : (texts ts : List (List ℕ)) (t : List ℕ) → with_texts texts (ts ++ t ∷ []) ≡ with_text (with_texts texts ts) t
with_texts-snoc texts [] t = refl
with_texts-snoc texts (u ∷ ts) t = with_texts-snoc (with_text texts u) ts t

with_text-once : (before : List (List ℕ)) (t : List ℕ) → with_text (texts_once before) t ≡ texts_once (before ++ t ∷ [])
with_text-once before t = ap (λ b. texts_once before ++ cond b [] (t ∷ [])) (any-texts_once t before) ∙ sym (texts_once-snoc before t)

with_texts-once : (before ts : List (List ℕ)) → with_texts (texts_once before) ts ≡ texts_once (before ++ ts)
with_texts-once before [] = ap texts_once (sym (append-nil before))
with_texts-once before (t ∷ ts) = ap (λ texts. with_texts texts ts) (with_text-once before t) ∙ with_texts-once (before ++ t ∷ []) ts ∙ ap texts_once (append_assoc before (t ∷ []) ts)

-- numbers that were given stay
abbrev numbers_of : List (List ℕ) → List (List ℕ) → List KeyNo
numbers_of texts ts = map (λ t. let k : KeyNo = record { 0 = place_of texts t } in k) ts

keys_stay : (texts more ts : List (List ℕ)) → ((t : List ℕ) → list_any (λ u. bytes_eq u t) ts ≡ true → list_any (λ u. bytes_eq u t) texts ≡ true) → numbers_of texts ts ≡ numbers_of (texts ++ more) ts
keys_stay texts more [] held = refl
keys_stay texts more (t ∷ ts) held =
    let here : place_of texts t ≡ place_of (texts ++ more) t = sym (place_of-more texts more t (held t (rw (text_is_itself t)))) in
    ap (λ n. let k : KeyNo = record { 0 = n } in k ∷ numbers_of texts ts) here
    ∙ ap (λ l. let k : KeyNo = record { 0 = place_of (texts ++ more) t } in k ∷ l) (keys_stay texts more ts (λ u there. held u (rw there (or_true (bytes_eq t u)))))

-- one text more, at a step of a loop
pub keys_more : (texts ts : List (List ℕ)) (t : List ℕ) (old new : List (List ℕ)) (numbers : List KeyNo) → old ≡ with_texts texts ts → new ≡ with_text old t → numbers ≡ map (λ t. let k : KeyNo = record { 0 = place_of old t } in k) ts
    → (new ≡ with_texts texts (ts ++ t ∷ [])) × (numbers ++ (let k : KeyNo = record { 0 = place_of new t } in k ∷ []) ≡ map (λ t. let k : KeyNo = record { 0 = place_of new t } in k) (ts ++ t ∷ []))
keys_more texts ts t old new numbers was is made = (
  is ∙ ap (λ o. with_text o t) was ∙ sym (with_texts-snoc texts ts t),
  ap (λ l. l ++ (let k : KeyNo = record { 0 = place_of new t } in k ∷ [])) (made ∙ stay) ∙ sym (map-append (λ t. let k : KeyNo = record { 0 = place_of new t } in k) ts (t ∷ [])),
)
  where
    there : (u : List ℕ) → list_any (λ v. bytes_eq v u) ts ≡ true → list_any (λ v. bytes_eq v u) old ≡ true
    there u in_ts = ap (list_any (λ v. bytes_eq v u)) was ∙ any-with_texts texts ts u ∙ ap (λ b. list_any (λ v. bytes_eq v u) texts || b) in_ts ∙ or_true (list_any (λ v. bytes_eq v u) texts)

    stay : numbers_of old ts ≡ numbers_of new ts
    stay = keys_stay old (cond (list_any (λ v. bytes_eq v t) old) [] (t ∷ [])) ts there ∙ ap (λ n. numbers_of n ts) (sym is)

rows_stay : (keys kinds more others : List (List ℕ)) (assets : List PlainAsset) → ((t : List ℕ) → list_any (λ u. bytes_eq u t) (flat_map (λ a. a.keys) assets) ≡ true → list_any (λ u. bytes_eq u t) keys ≡ true) → ((t : List ℕ) → list_any (λ u. bytes_eq u t) (map (λ a. a.kind) assets) ≡ true → list_any (λ u. bytes_eq u t) kinds ≡ true) → map (numbered keys kinds) assets ≡ map (numbered (keys ++ more) (kinds ++ others)) assets
rows_stay keys kinds more others [] has_keys has_kinds = refl
rows_stay keys kinds more others (a ∷ assets) has_keys has_kinds =
    let own = keys_stay keys more a.keys (λ t there. has_keys t (list_any-append (λ u. bytes_eq u t) a.keys (flat_map (λ a. a.keys) assets) ∙ rw there)) in
    let kind : place_of kinds a.kind ≡ place_of (kinds ++ others) a.kind = sym (place_of-more kinds others a.kind (has_kinds a.kind (rw (text_is_itself a.kind)))) in
    let rest = rows_stay keys kinds more others assets (λ t there. has_keys t (list_any-append (λ u. bytes_eq u t) a.keys (flat_map (λ a. a.keys) assets) ∙ rw there (or_true (list_any (λ u. bytes_eq u t) a.keys)))) (λ t there. has_kinds t (rw there (or_true (bytes_eq a.kind t)))) in
    ap (λ n. row n (numbers_of keys a.keys) ∷ map (numbered keys kinds) assets) kind
    ∙ ap (λ ks. row (place_of (kinds ++ others) a.kind) ks ∷ map (numbered keys kinds) assets) own
    ∙ ap (λ l. row (place_of (kinds ++ others) a.kind) (numbers_of (keys ++ more) a.keys) ∷ l) rest
  where
    row : ℕ → List KeyNo → AssetRow
    row n ks = record { id = a.id; kind = record { 0 = n }; deps = a.deps; keys = ks }

-- rows with the texts that they number
pub record AreNumbered (assets : List PlainAsset) (keys kinds : List (List ℕ)) (rows : List AssetRow) : Type 0 where
  pub key_texts : keys ≡ keys_of assets
  pub kind_texts : kinds ≡ kinds_of assets
  pub made : rows ≡ map (numbered keys kinds) assets

pub numbered_more : (assets : List PlainAsset) (a : PlainAsset) (keys kinds keys2 kinds2 : List (List ℕ)) (rows : List AssetRow) → AreNumbered assets keys kinds rows → keys2 ≡ with_texts keys a.keys → kinds2 ≡ with_text kinds a.kind → (row : AssetRow) → row ≡ numbered keys2 kinds2 a → AreNumbered (assets ++ a ∷ []) keys2 kinds2 (rows ++ row ∷ [])
numbered_more assets a keys kinds keys2 kinds2 rows so_far more_keys more_kinds row is = record {
  key_texts = more_keys ∙ ap (λ ts. with_texts ts a.keys) so_far.key_texts ∙ with_texts-once (flat_map (λ a. a.keys) assets) a.keys ∙ ap texts_once (all_keys assets);
  kind_texts = more_kinds ∙ ap (λ ts. with_text ts a.kind) so_far.kind_texts ∙ with_text-once (map (λ a. a.kind) assets) a.kind ∙ ap texts_once (sym (map-append (λ (a : PlainAsset). a.kind) assets (a ∷ [])));
  made = ap (λ l. l ++ row ∷ []) (so_far.made ∙ stay) ∙ ap (λ r. map (numbered keys2 kinds2) assets ++ r ∷ []) is ∙ sym (map-append (numbered keys2 kinds2) assets (a ∷ []));
}
  where
    all_keys : (bs : List PlainAsset) → flat_map (λ (b : PlainAsset). b.keys) bs ++ a.keys ≡ flat_map (λ (b : PlainAsset). b.keys) (bs ++ a ∷ [])
    all_keys [] = sym (append-nil a.keys)
    all_keys (b ∷ bs) = append_assoc b.keys (flat_map (λ (b : PlainAsset). b.keys) bs) a.keys ∙ ap (λ l. b.keys ++ l) (all_keys bs)

    new_keys : (more : List (List ℕ)) × (with_texts keys a.keys ≡ keys ++ more)
    new_keys = with_texts-more keys a.keys

    stay : map (numbered keys kinds) assets ≡ map (numbered keys2 kinds2) assets
    stay =
        rows_stay keys kinds new_keys.0 (cond (list_any (λ v. bytes_eq v a.kind) kinds) [] (a.kind ∷ [])) assets
        (λ t there. ap (list_any (λ u. bytes_eq u t)) so_far.key_texts ∙ any-texts_once t (flat_map (λ a. a.keys) assets) ∙ there)
        (λ t there. ap (list_any (λ u. bytes_eq u t)) so_far.kind_texts ∙ any-texts_once t (map (λ a. a.kind) assets) ∙ there)
        ∙ ap (λ ks. map (numbered ks (with_text kinds a.kind)) assets) (sym (more_keys ∙ new_keys.1)) ∙ ap (λ ks. map (numbered keys2 ks) assets) (sym more_kinds)

-- nothing is numbered at first
pub numbered_none : (keys kinds : List (List ℕ)) (rows : List AssetRow) → keys ≡ [] → kinds ≡ [] → rows ≡ [] → AreNumbered [] keys kinds rows
numbered_none keys kinds rows no_keys no_kinds none = record { key_texts = no_keys; kind_texts = no_kinds; made = none }

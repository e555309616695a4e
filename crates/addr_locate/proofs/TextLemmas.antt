-- Texts kept once: none is lost, none is new, none stands twice; and which rows have a text.
use Rattle.std.proofs.Common.{ℕ, ◌≡◌, ◌≤◌, ◌∙◌, Bool, true, false, not, ◌||◌, nat_lt, Option, Some, None, List, [], ◌∷◌, length, map, filter, refl, ap, sym, cond, arith}
use Rattle.std.specs.List.{list_any, flat_map, position, position_or_len}
use Rattle.std.specs.Str.{bytes_eq}
use Rattle.std.proofs.lemmas.Slice.Eq.{bytes_eq-Decides}
use Rattle.std.specs.Option.{is_some}
use Rattle.std.proofs.lemmas.List.Folds.{list_any-append}
use Rattle.std.proofs.lemmas.List.{length-map}
use Rattle.std.proofs.lemmas.Bool.Decides.{nat_tests}
use Rattle.addr_base.specs.declared.ids.KeyNo.{KeyNo}
use Rattle.addr_locate.specs.declared.rows.AssetRow.{AssetRow}
use Rattle.addr_locate.specs.declared.rows.PlainAsset.{PlainAsset}
use Rattle.addr_locate.specs.Rows.{Rows, texts_once, text_at, written, has_key_text, has_kind_text, rows_of, keys_of, kinds_of}

pub same_texts : (t u : List ℕ) → bytes_eq t u ≡ true → t ≡ u
same_texts t u e = (bytes_eq-Decides t u).0 e

pub text_is_itself : (t : List ℕ) → bytes_eq t t ≡ true
text_is_itself t = (bytes_eq-Decides t t).1 refl

any-filter_text : (text t : List ℕ) (ts : List (List ℕ)) → bytes_eq t text ≡ false → list_any (λ u. bytes_eq u text) (filter (λ u. not (bytes_eq u t)) ts) ≡ list_any (λ u. bytes_eq u text) ts
any-filter_text text t [] other = refl
any-filter_text text t (u ∷ us) other = by_test (bytes_eq u t) refl (any-filter_text text t us other)
  where
    by_test : (same : Bool) → bytes_eq u t ≡ same → list_any (λ u. bytes_eq u text) (filter (λ u. not (bytes_eq u t)) us) ≡ list_any (λ u. bytes_eq u text) us → list_any (λ u. bytes_eq u text) (filter (λ u. not (bytes_eq u t)) (u ∷ us)) ≡ list_any (λ u. bytes_eq u text) (u ∷ us)
    by_test true e rest = let missed : bytes_eq u text ≡ false = ap (λ w. bytes_eq w text) (same_texts u t e) ∙ other in rw (e, missed) rest
    by_test false e rest = rw (e, rest)

pub any-texts_once : (text : List ℕ) (ts : List (List ℕ)) → list_any (λ u. bytes_eq u text) (texts_once ts) ≡ list_any (λ u. bytes_eq u text) ts
any-texts_once text [] = refl
any-texts_once text (t ∷ ts) = by_test (bytes_eq t text) refl (any-texts_once text ts)
  where
    by_test : (same : Bool) → bytes_eq t text ≡ same → list_any (λ u. bytes_eq u text) (texts_once ts) ≡ list_any (λ u. bytes_eq u text) ts → list_any (λ u. bytes_eq u text) (texts_once (t ∷ ts)) ≡ list_any (λ u. bytes_eq u text) (t ∷ ts)
    by_test true e rest = rw e
    by_test false e rest = rw e (any-filter_text text t (texts_once ts) e ∙ rest)

length-filter-le : (p : List ℕ → Bool) (ts : List (List ℕ)) → length (filter p ts) ≤ length ts
length-filter-le p [] = omega arith
length-filter-le p (t ∷ ts) = by_test (p t) refl (length-filter-le p ts)
  where
    by_test : (b : Bool) → p t ≡ b → length (filter p ts) ≤ length ts → length (filter p (t ∷ ts)) ≤ length (t ∷ ts)
    by_test true e rest = rw e (omega arith)
    by_test false e rest = rw e (omega arith)

pub length-texts_once-le : (ts : List (List ℕ)) → length (texts_once ts) ≤ length ts
length-texts_once-le [] = omega arith
length-texts_once-le (t ∷ ts) = let shorter = length-filter-le (λ u. not (bytes_eq u t)) (texts_once ts) in let rest = length-texts_once-le ts in omega arith

-- a text has a place exactly where it is there
pub place-within : {X : Type 0} (p : X → Bool) (xs : List X) → nat_lt (position_or_len p xs) (length xs) ≡ list_any p xs
place-within p [] = refl
place-within p (x ∷ xs) = by_test (p x) refl (place-within p xs)
  where
    by_test : (b : Bool) → p x ≡ b → nat_lt (position_or_len p xs) (length xs) ≡ list_any p xs → nat_lt (position_or_len p (x ∷ xs)) (length (x ∷ xs)) ≡ list_any p (x ∷ xs)
    by_test true e rest = rw e (grind (arith, nat_tests))
    by_test false e rest = rw e (grind (arith, nat_tests, rest))

is_some-cond : (b : Bool) (n : ℕ) → is_some (cond b (Some n) None) ≡ b
is_some-cond true n = refl
is_some-cond false n = refl

pub is_some-position : {X : Type 0} (p : X → Bool) (xs : List X) → is_some (position p xs) ≡ list_any p xs
is_some-position p xs = is_some-cond (nat_lt (position_or_len p xs) (length xs)) (position_or_len p xs) ∙ place-within p xs

list_any-map : {A B : Type 0} (p : B → Bool) (f : A → B) (xs : List A) → list_any p (map f xs) ≡ list_any (λ x. p (f x)) xs
list_any-map p f [] = refl
list_any-map p f (x ∷ xs) = ap (λ b. p (f x) || b) (list_any-map p f xs)

-- which rows have a text is seen on the written rows
any-row_texts : (r : Rows) (text : List ℕ) (rows : List AssetRow) → list_any (λ t. bytes_eq t text) (flat_map (λ a. a.keys) (map (written r) rows)) ≡ list_any (has_key_text r text) rows
any-row_texts r text [] = refl
any-row_texts r text (a ∷ rows) =
    let here = list_any-map (λ t. bytes_eq t text) (λ (k : KeyNo). text_at r.keys k.0) a.keys in
    let rest = any-row_texts r text rows in
    list_any-append (λ t. bytes_eq t text) (map (λ (k : KeyNo). text_at r.keys k.0) a.keys) (flat_map (λ a. a.keys) (map (written r) rows)) ∙ rw (here, rest)

any-row_kinds : (r : Rows) (text : List ℕ) (rows : List AssetRow) → list_any (λ t. bytes_eq t text) (map (λ a. a.kind) (map (written r) rows)) ≡ list_any (has_kind_text r text) rows
any-row_kinds r text [] = refl
any-row_kinds r text (a ∷ rows) = ap (λ b. bytes_eq (text_at r.kinds a.kind.0) text || b) (any-row_kinds r text rows)

keys-are-once : (r : Rows) → rows_of r.bundles (map (written r) r.assets) ≡ r → r.keys ≡ keys_of (map (written r) r.assets)
unfolding rows_of
keys-are-once r is = sym (ap (λ (q : Rows). q.keys) is)

kinds-are-once : (r : Rows) → rows_of r.bundles (map (written r) r.assets) ≡ r → r.kinds ≡ kinds_of (map (written r) r.assets)
unfolding rows_of
kinds-are-once r is = sym (ap (λ (q : Rows). q.kinds) is)

-- a text has a number exactly where some row has it
pub key_known : (r : Rows) (text : List ℕ) (keys : List (List ℕ)) (found : Option ℕ) → rows_of r.bundles (map (written r) r.assets) ≡ r → keys ≡ r.keys → found ≡ position (λ t. bytes_eq t text) keys → is_some found ≡ list_any (has_key_text r text) r.assets
key_known r text keys found numbers same place =
    ap is_some place ∙ (is_some-position (λ t. bytes_eq t text) keys ∙ (ap (list_any (λ t. bytes_eq t text)) (same ∙ keys-are-once r numbers) ∙ (any-texts_once text (flat_map (λ a. a.keys) (map (written r) r.assets)) ∙ any-row_texts r text r.assets)))

pub kind_known : (r : Rows) (text : List ℕ) (kinds : List (List ℕ)) (found : Option ℕ) → rows_of r.bundles (map (written r) r.assets) ≡ r → kinds ≡ r.kinds → found ≡ position (λ t. bytes_eq t text) kinds → is_some found ≡ list_any (has_kind_text r text) r.assets
kind_known r text kinds found numbers same place =
    ap is_some place ∙ (is_some-position (λ t. bytes_eq t text) kinds ∙ (ap (list_any (λ t. bytes_eq t text)) (same ∙ kinds-are-once r numbers) ∙ (any-texts_once text (map (λ a. a.kind) (map (written r) r.assets)) ∙ any-row_kinds r text r.assets)))

-- there are no more types than rows
pub few_kinds : (r : Rows) → rows_of r.bundles (map (written r) r.assets) ≡ r → length r.kinds ≤ length r.assets
few_kinds r numbers =
    let kept = length-texts_once-le (map (λ a. a.kind) (map (written r) r.assets)) in
    let long : length (map (λ (a : PlainAsset). a.kind) (map (written r) r.assets)) ≡ length r.assets = simp length-map in
    let same = ap length (kinds-are-once r numbers) in
    omega arith

-- The rows of a key by their numbers: a row has a key's number exactly where it has its text.
use Rattle.std.proofs.Common.{ℕ, zero, suc, ◌≡◌, ◌==◌, ◌+◌, ◌<◌, ◌∙◌, Bool, true, false, ◌&&◌, ◌||◌, nat_lt, Option, Some, None, List, [], ◌∷◌, length, map, filter, refl, ap, ap₂, sym, subst, cond, arith}
use Rattle.std.proofs.Common.{◌↔◌, ◌⊎◌, inl, inr, IsTrue}
use Rattle.std.proofs.lemmas.Bool.{false≢true}
use Rattle.std.proofs.lemmas.List.Folds.{list_any-append}
use Rattle.std.specs.Option.{option_map}
use Rattle.std.proofs.lemmas.Bool.Decides.{nat_tests}
use Rattle.std.specs.List.{AllZip, Contains, enumerate_from, list_any, flat_map, position, slice_get}
use Rattle.std.specs.Str.{bytes_eq}
use Rattle.addr_base.specs.declared.ids.KeyNo.{KeyNo}
use Rattle.addr_base.specs.declared.ids.RowNo.{RowNo}
use Rattle.addr_locate.specs.Merge.{first_filled, has_key, is_match, merged, rows_where}
use Rattle.addr_locate.specs.Rows.{AreRows, Rows, has_key_text, key_of, keys_of, kinds_of, numbered, place_of, rows_of, text_at, written}
use Rattle.addr_locate.specs.declared.rows.AssetRow.{AssetRow}
use Rattle.addr_locate.specs.declared.rows.Kind.TheVariants.{Any}
use Rattle.addr_locate.specs.declared.rows.Merge.TheVariants.{UseFirst}
use Rattle.addr_locate.specs.declared.rows.PlainAsset.{PlainAsset}
use Rattle.addr_locate.proofs.NumberLemmas.{text_at-place_of}
use Rattle.addr_locate.proofs.TextLemmas.{any-texts_once, place-within, same_texts, text_is_itself}
use Rattle.addr_walks.proofs.Lists.{Contains-cases, Contains-here, Contains-later, Contains-none, map-Contains}
use Rattle.addr_resolve.specs.Resolving.{rows_with}
use Rattle.addr_resolve.specs.within.Steps.{AreNumbersOf}

-- ---- a number for a text

known-text : (texts : List (List ℕ)) (text : List ℕ) → Contains texts text → list_any (λ u. bytes_eq u text) texts ≡ true
known-text [] text (k, within, is) = absurd (omega (arith, within))
known-text (t ∷ ts) text (zero, within, is) = ap (λ b. b || list_any (λ u. bytes_eq u text) ts) (ap (λ u. bytes_eq u text) is ∙ text_is_itself text)
known-text (t ∷ ts) text (suc k, within, is) = by_test (bytes_eq t text) (known-text ts text (k, omega (arith, within), is))
  where
    by_test : (b : Bool) → list_any (λ u. bytes_eq u text) ts ≡ true → (b || list_any (λ u. bytes_eq u text) ts) ≡ true
    by_test true rest = refl
    by_test false rest = rest

number-of : ℕ → KeyNo
number-of n = record { 0 = n }

-- whether a number is that of a text that is looked for
is-number : Option ℕ → ℕ → Bool
is-number None n = false
is-number (Some m) n = n == m

same-number : (n m : ℕ) → (n == m) ≡ true → n ≡ m
same-number n m e = grind (arith, nat_tests)

number-itself : (n : ℕ) → (n == n) ≡ true
number-itself n = grind (arith, nat_tests)

-- the place of a known text is the number that is looked for exactly where the text is
one-text : (keys : List (List ℕ)) (key t : List ℕ) → list_any (λ u. bytes_eq u t) keys ≡ true
    → bytes_eq (text_at keys (place_of keys t)) key ≡ is-number (position (λ u. bytes_eq u key) keys) (place_of keys t)
unfolding is-number
one-text keys key t known = ap (λ u. bytes_eq u key) (text_at-place_of keys t known) ∙ by_known (nat_lt (place_of keys key) (length keys)) refl (bytes_eq t key) refl
  where
    by_known : (there : Bool) → nat_lt (place_of keys key) (length keys) ≡ there → (same : Bool) → bytes_eq t key ≡ same
        → bytes_eq t key ≡ is-number (cond (nat_lt (place_of keys key) (length keys)) (Some (place_of keys key)) None) (place_of keys t)
    by_known true within true is = rw (within, is) (sym (ap (λ u. place_of keys t == place_of keys u) (sym (same_texts t key is)) ∙ number-itself (place_of keys t)))
    by_known true within false is = rw (within, is) (by_number (place_of keys t == place_of keys key) refl)
      where
        by_number : (b : Bool) → (place_of keys t == place_of keys key) ≡ b → false ≡ (place_of keys t == place_of keys key)
        by_number false e = sym e
        by_number true e =
            let found : list_any (λ u. bytes_eq u key) keys ≡ true = sym (place-within (λ u. bytes_eq u key) keys) ∙ within in
            let places : place_of keys t ≡ place_of keys key = same-number (place_of keys t) (place_of keys key) e in
            let texts : t ≡ key = sym (text_at-place_of keys t known) ∙ (ap (text_at keys) places ∙ text_at-place_of keys key found) in
            absurd (false≢true (sym is ∙ (ap (λ u. bytes_eq u key) texts ∙ text_is_itself key)))
    by_known false within true is = absurd (false≢true (sym within ∙ (place-within (λ u. bytes_eq u key) keys ∙ subst (λ u. list_any (λ w. bytes_eq w u) keys ≡ true) (same_texts t key is) known)))
    by_known false within false is = rw (within, is) refl

-- a list of keys that are numbered texts has the text exactly where it has the number
many-texts : (keys : List (List ℕ)) (key : List ℕ) (ts : List (List ℕ)) → ((t : List ℕ) → Contains ts t → list_any (λ u. bytes_eq u t) keys ≡ true)
    → list_any (λ (k : KeyNo). bytes_eq (text_at keys k.0) key) (map (λ t. number-of (place_of keys t)) ts)
    ≡ list_any (λ (k : KeyNo). is-number (position (λ u. bytes_eq u key) keys) k.0) (map (λ t. number-of (place_of keys t)) ts)
unfolding number-of
many-texts keys key [] known = refl
many-texts keys key (t ∷ ts) known =
    ap₂ (λ a b. a || b) (one-text keys key t (known t (Contains-here t ts))) (many-texts keys key ts (λ u here. known u (Contains-later t ts u here)))

never : (ks : List KeyNo) → list_any (λ (k : KeyNo). is-number None k.0) ks ≡ false
unfolding is-number
never [] = refl
never (k ∷ ks) = never ks

-- whether a row has the key with the number that is looked for
by-number : (found : Option ℕ) (a : AssetRow) → has_key (option_map number-of found) a ≡ list_any (λ (k : KeyNo). is-number found k.0) a.keys
unfolding is-number number-of
by-number None a = sym (never a.keys)
by-number (Some n) a = refl

or_true : (b : Bool) → (b || true) ≡ true
or_true true = refl
or_true false = refl

and_true : (b : Bool) → (b && true) ≡ b
and_true true = refl
and_true false = refl

-- a row's keys are among those of all rows
any-flat : (plain : List PlainAsset) (p : PlainAsset) (t : List ℕ) → Contains plain p → Contains p.keys t → list_any (λ u. bytes_eq u t) (flat_map (λ a. a.keys) plain) ≡ true
any-flat [] p t among here = absurd (Contains-none p among)
any-flat (q ∷ qs) p t among here = list_any-append (λ u. bytes_eq u t) q.keys (flat_map (λ a. a.keys) qs) ∙ by_case (Contains-cases q qs p among) (λ later. any-flat qs p t later here)
  where
    by_case : (q ≡ p) ⊎ Contains qs p → (Contains qs p → list_any (λ u. bytes_eq u t) (flat_map (λ a. a.keys) qs) ≡ true)
        → (list_any (λ u. bytes_eq u t) q.keys || list_any (λ u. bytes_eq u t) (flat_map (λ a. a.keys) qs)) ≡ true
    by_case (inl is) more = ap (λ b. b || list_any (λ u. bytes_eq u t) (flat_map (λ a. a.keys) qs)) (known-text q.keys t (subst (λ (w : PlainAsset). Contains w.keys t) (sym is) here))
    by_case (inr later) more = ap (λ b. list_any (λ u. bytes_eq u t) q.keys || b) (more later) ∙ or_true (list_any (λ u. bytes_eq u t) q.keys)

-- a row as it is written, and its keys by their numbers
plain-row : (r : Rows) → AreRows r → (a : AssetRow) → Contains r.assets a
    → (p : PlainAsset) × Contains (map (written r) r.assets) p × (map (λ t. number-of (place_of r.keys t)) p.keys ≡ a.keys) × (r.keys ≡ keys_of (map (written r) r.assets))
unfolding number-of rows_of
plain-row r are a here =
    let plain = map (written r) r.assets in
    let keys : keys_of plain ≡ r.keys = ap (λ (q : Rows). q.keys) are.numbers in
    let from = map-Contains (numbered (keys_of plain) (kinds_of plain)) plain a (subst (λ (q : Rows). Contains q.assets a) (sym are.numbers) here) in
    (from.0, from.1, ap (λ (ks : List (List ℕ)). map (λ t. let k : KeyNo = record { 0 = place_of ks t } in k) from.0.keys) (sym keys) ∙ ap (λ (w : AssetRow). w.keys) from.2, sym keys)

-- a row of a catalogue has a key's number exactly where it has its text
same-key : (r : Rows) (key : List ℕ) → AreRows r → (a : AssetRow) → Contains r.assets a → is_match Any (key_of r key) a ≡ has_key_text r key a
unfolding number-of
same-key r key are a here =
    let from = plain-row r are a here in
    let plain = map (written r) r.assets in
    let found = position (λ u. bytes_eq u key) r.keys in
    let known : (t : List ℕ) → Contains from.0.keys t → list_any (λ u. bytes_eq u t) r.keys ≡ true = (λ t among. ap (list_any (λ u. bytes_eq u t)) from.3 ∙ (any-texts_once t (flat_map (λ a. a.keys) plain) ∙ any-flat plain from.0 t from.1 among)) in
    and_true (has_key (key_of r key) a)
    ∙ (by-number found a
    ∙ (ap (list_any (λ (k : KeyNo). is-number found k.0)) (sym from.2)
    ∙ (sym (many-texts r.keys key from.0.keys known)
    ∙ ap (list_any (λ (k : KeyNo). bytes_eq (text_at r.keys k.0) key)) from.2)))

-- ---- rows for numbers

-- the rows that pass a test, and the numbers of those that pass one that comes to the same
numbers-along : (all : List AssetRow) (test other : AssetRow → Bool) (rows : List AssetRow) (n : ℕ) → ((k : ℕ) (a : AssetRow) → slice_get rows k ≡ Some a → slice_get all (n + k) ≡ Some a)
    → ((a : AssetRow) → Contains rows a → test a ≡ other a)
    → AllZip (λ (a : AssetRow) (m : RowNo). slice_get all m.0 ≡ Some a) (filter other rows) (map (λ (p : ℕ × AssetRow). record { 0 = p.0 }) (filter (λ (p : ℕ × AssetRow). test p.1) (enumerate_from n rows)))
numbers-along all test other [] n at same = tt
numbers-along all test other (a ∷ rows) n at same =
    by_test (other a) refl (numbers-along all test other rows (n + 1) (λ k b there. subst (λ i. slice_get all i ≡ Some b) (let shift : n + suc k ≡ n + 1 + k = omega arith in shift) (at (suc k) b there)) (λ b here. same b (Contains-later a rows b here)))
  where
    by_test : (t : Bool) → other a ≡ t
        → AllZip (λ (b : AssetRow) (m : RowNo). slice_get all m.0 ≡ Some b) (filter other rows) (map (λ (p : ℕ × AssetRow). record { 0 = p.0 }) (filter (λ (p : ℕ × AssetRow). test p.1) (enumerate_from (n + 1) rows)))
        → AllZip (λ (b : AssetRow) (m : RowNo). slice_get all m.0 ≡ Some b) (filter other (a ∷ rows)) (map (λ (p : ℕ × AssetRow). record { 0 = p.0 }) (filter (λ (p : ℕ × AssetRow). test p.1) (enumerate_from n (a ∷ rows))))
    by_test true is rest =
        let passes : test a ≡ true = same a (Contains-here a rows) ∙ is in
        let here : slice_get all n ≡ Some a = subst (λ i. slice_get all i ≡ Some a) (let none : n + 0 ≡ n = omega arith in none) (at 0 a refl) in
        rw (is, passes) (here, rest)
    by_test false is rest = let fails : test a ≡ false = same a (Contains-here a rows) ∙ is in rw (is, fails) rest

filled-one : (rows : List RowNo) → first_filled (rows ∷ []) ≡ rows
filled-one [] = refl
filled-one (r ∷ rs) = refl

-- a key leads to the numbers of the rows with it
pub rows-of-key : (r : Rows) (key : List ℕ) → AreRows r → (found : List RowNo) → found ≡ merged r.assets (key_of r key ∷ []) UseFirst Any → AreNumbersOf r (rows_with r key) found
unfolding merged
rows-of-key r key are found is =
    let test = is_match Any (key_of r key) in
    subst (AreNumbersOf r (rows_with r key)) (sym (is ∙ filled-one (rows_where test r.assets)))
    (numbers-along r.assets test (has_key_text r key) r.assets 0 (λ k a at. subst (λ i. slice_get r.assets i ≡ Some a) (let none : k ≡ 0 + k = omega arith in none) at) (λ a here. same-key r key are a here))

-- where no number is found, no row has the key
pub no-rows : (r : Rows) (key : List ℕ) → AreRows r → (found : List RowNo) → found ≡ merged r.assets (key_of r key ∷ []) UseFirst Any → length found ≡ 0 → rows_with r key ≡ []
no-rows r key are found is none = by_rows (rows_with r key) found (rows-of-key r key are found is) none
  where
    by_rows : (rows : List AssetRow) (numbers : List RowNo) → AreNumbersOf r rows numbers → length numbers ≡ 0 → rows ≡ []
    by_rows [] numbers zipped none = refl
    by_rows (a ∷ rows) [] zipped none = absurd zipped
    by_rows (a ∷ rows) (n ∷ numbers) zipped none = absurd (omega (arith, none))

pub filled : (numbers : List RowNo) (b : Bool) → (IsTrue b ↔ (numbers ≡ [])) → b ≡ false → 0 < length numbers
filled [] b both is = absurd (false≢true (sym is ∙ both.1 refl))
filled (n ∷ ns) b both is = omega arith

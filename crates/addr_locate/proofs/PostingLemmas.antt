-- One row more in the lists of its keys; and the rows of a key that are of a kind.
use Rattle.std.proofs.Common.{◌≡◌, inl, inr, ℕ, ◌+◌, ◌≤◌, ◌<◌, zero, suc, Bool, true, false, ◌&&◌, ◌||◌, not, cond, eqb, List, [], ◌∷◌, ◌++◌, length, map, filter, take, get_or, replicate, Option, Some, None, slice_get, refl, sym, ◌∙◌, ap, subst, arith, nat_lt, unwrap_or}
use Rattle.std.proofs.lemmas.Bool.{false≢true, and_parts, eqb-true, eq-eqb, ne_eqb, not-true, cases_eq}
use borrow.Author.Tests.{ltb-true}
use Rattle.std.proofs.lemmas.List.{length-replicate}
use Rattle.std.specs.List.{list_any, list_all, count_by, enumerate_from}
use Rattle.std.specs.Option.{option_map_or}
use Rattle.addr_base.specs.declared.ids.KeyNo.{KeyNo}
use Rattle.addr_base.specs.declared.ids.RowNo.{RowNo}
use Rattle.addr_locate.specs.declared.rows.AssetRow.{AssetRow}
use Rattle.std.specs.Str.{bytes_eq}
use Rattle.addr_locate.specs.Rows.{Rows, AreRows, no_text_twice, text_at}
use Rattle.addr_locate.proofs.TextLemmas.{text_is_itself}
use Rattle.addr_locate.specs.Merge.{has_key, rows_where}
use Rattle.addr_locate.proofs.FoundLemmas.{rows_where_put, rows_where_pass}
use Rattle.addr_locate.specs.Changes.{change_each, times}
use Rattle.addr_locate.proofs.ChangeLemmas.{one_if, count-cons, length_change_each, change_each_at, was_there, past_from}
use Rattle.addr_locate.specs.Postings.{no_key_twice, ArePostings, ListsRows}

times_once : (n : ℕ) (ks : List KeyNo) → no_key_twice ks ≡ true → count_by (λ k. eqb k n) (map (λ (k : KeyNo). k.0) ks) ≡ one_if (list_any (λ c. eqb c.0 n) ks)
times_once n [] once = refl
times_once n (k ∷ ks) once =
    let parts = and_parts (not (list_any (λ c. eqb c.0 k.0) ks)) (no_key_twice ks) once in
    let rest = times_once n ks parts.1 in
    elim (cases_eq k.0 n) [
      | inl same ↦
          let none : one_if (list_any (λ (c : KeyNo). eqb c.0 n) ks) ≡ 0 = ap one_if (ap (λ m. list_any (λ (c : KeyNo). eqb c.0 m) ks) (sym same) ∙ not-true (list_any (λ c. eqb c.0 k.0) ks) parts.0) in
          let here : one_if (eqb k.0 n) ≡ 1 = ap one_if (eq-eqb k.0 n same) in
          let all : one_if (eqb k.0 n || list_any (λ (c : KeyNo). eqb c.0 n) ks) ≡ 1 = ap (λ t. one_if (t || list_any (λ (c : KeyNo). eqb c.0 n) ks)) (eq-eqb k.0 n same) in
          omega (arith, rest, none, here, all, count-cons (λ m. eqb m n) k.0 (map (λ (c : KeyNo). c.0) ks))
      | inr other ↦
          let here : one_if (eqb k.0 n) ≡ 0 = ap one_if (ne_eqb k.0 n other) in
          let all : one_if (eqb k.0 n || list_any (λ (c : KeyNo). eqb c.0 n) ks) ≡ one_if (list_any (λ (c : KeyNo). eqb c.0 n) ks) = ap (λ t. one_if (t || list_any (λ (c : KeyNo). eqb c.0 n) ks)) (ne_eqb k.0 n other) in
          omega (arith, rest, here, all, count-cons (λ m. eqb m n) k.0 (map (λ (c : KeyNo). c.0) ks))
    ]

abbrev pub with_row : RowNo → List RowNo → List RowNo
with_row row rows = rows ++ row ∷ []

once_at : (rows : List AssetRow) (i : ℕ) (row : AssetRow) → list_all (λ (r : AssetRow). no_key_twice r.keys) rows ≡ true → i < length rows → row ≡ get_or rows i row → no_key_twice row.keys ≡ true
once_at [] i row all lt is = absurd (omega arith)
once_at (r ∷ rows) zero row all lt is = ap (λ (x : AssetRow). no_key_twice x.keys) is ∙ (and_parts (no_key_twice r.keys) (list_all (λ (x : AssetRow). no_key_twice x.keys) rows) all).0
once_at (r ∷ rows) (suc i) row all lt is = once_at rows i row (and_parts (no_key_twice r.keys) (list_all (λ (x : AssetRow). no_key_twice x.keys) rows) all).1 (omega arith) is

-- one row more
pub postings_more : (rows : List AssetRow) (count i : ℕ) (row : AssetRow) (postings : List (List RowNo)) → list_all (λ (r : AssetRow). no_key_twice r.keys) rows ≡ true → i < length rows → row ≡ get_or rows i row → ArePostings (take i rows) count postings → ArePostings (take (i + 1) rows) count (change_each (with_row (record { 0 = i })) (map (λ (k : KeyNo). k.0) row.keys) postings)
postings_more rows count i row postings all lt is are = record {
  many = length_change_each (with_row (record { 0 = i })) (map (λ (k : KeyNo). k.0) row.keys) postings ∙ are.many;
  each = λ key found at.
      let n = key.0 in
      let nums = map (λ (k : KeyNo). k.0) row.keys in
      let before = was_there (times (with_row (record { 0 = i })) (count_by (λ k. eqb k n) nums)) (slice_get postings n) found (sym (change_each_at (with_row (record { 0 = i })) nums postings n) ∙ at) in
      by key before.0 (list_any (λ (k : KeyNo). eqb k.0 n) row.keys) refl (are.each key before.0 before.1.0) (ap (λ m. times (with_row (record { 0 = i })) m before.0) (sym (times_once n row.keys (once_at rows i row all lt is))) ∙ before.1.1);
}
  where
    by : (key : KeyNo) (old : List RowNo) {found : List RowNo} (t : Bool) → has_key (Some key) row ≡ t → old ≡ rows_where (has_key (Some key)) (take i rows) → times (with_row (record { 0 = i })) (one_if (has_key (Some key) row)) old ≡ found → found ≡ rows_where (has_key (Some key)) (take (i + 1) rows)
    by key old true has was now = sym (ap (λ t. times (with_row (record { 0 = i })) (one_if t) old) (sym has) ∙ now) ∙ rows_where_put (has_key (Some key)) rows i row old lt is has was
    by key old false has was now = sym (ap (λ t. times (with_row (record { 0 = i })) (one_if t) old) (sym has) ∙ now) ∙ rows_where_pass (has_key (Some key)) rows i row old lt is has was

same_one : {X : Type 0} (m n : ℕ) (x y : X) → slice_get (replicate m x) n ≡ Some y → x ≡ y
same_one zero n x y is = cc
same_one (suc m) zero x y is = cc
same_one (suc m) (suc n) x y is = same_one m n x y is

pub postings_none : (count : ℕ) → ArePostings [] count (replicate count [])
postings_none count = record { many = length-replicate count []; each = λ key found at. sym (same_one count key.0 [] found at) }

-- of the rows that pass one test those that pass another
module _ (all : List AssetRow) (p q : AssetRow → Bool) where
  pub numbered_in : (n : ℕ) (rows : List AssetRow) → ((k : ℕ) → slice_get all (n + k) ≡ slice_get rows k)
      → filter (λ (r : RowNo). option_map_or q (slice_get all r.0) false) (map (λ (x : ℕ × AssetRow). let r : RowNo = record { 0 = x.0 } in r) (filter (λ (x : ℕ × AssetRow). p x.1) (enumerate_from n rows))) ≡ map (λ (x : ℕ × AssetRow). let r : RowNo = record { 0 = x.0 } in r) (filter (λ (x : ℕ × AssetRow). p x.1 && q x.1) (enumerate_from n rows))
  numbered_in n [] at = refl
  numbered_in n (row ∷ rows) at = by (p row) (numbered_in (n + 1) rows (λ k. (let same : (n + 1) + k ≡ n + suc k = omega arith in ap (slice_get all) same) ∙ at (suc k)))
    where
      number : ℕ × AssetRow → RowNo
      number x = record { 0 = x.0 }

      here : slice_get all n ≡ Some row
      here = (let same : n ≡ n + 0 = omega arith in ap (slice_get all) same) ∙ at 0

      by : (t : Bool) → filter (λ (r : RowNo). option_map_or q (slice_get all r.0) false) (map (λ (x : ℕ × AssetRow). let r : RowNo = record { 0 = x.0 } in r) (filter (λ (x : ℕ × AssetRow). p x.1) (enumerate_from (n + 1) rows))) ≡ map (λ (x : ℕ × AssetRow). let r : RowNo = record { 0 = x.0 } in r) (filter (λ (x : ℕ × AssetRow). p x.1 && q x.1) (enumerate_from (n + 1) rows))
          → filter (λ (r : RowNo). option_map_or q (slice_get all r.0) false) (map (λ (x : ℕ × AssetRow). let r : RowNo = record { 0 = x.0 } in r) (cond t ((n, row) ∷ filter (λ (x : ℕ × AssetRow). p x.1) (enumerate_from (n + 1) rows)) (filter (λ (x : ℕ × AssetRow). p x.1) (enumerate_from (n + 1) rows)))) ≡ map (λ (x : ℕ × AssetRow). let r : RowNo = record { 0 = x.0 } in r) (cond (t && q row) ((n, row) ∷ filter (λ (x : ℕ × AssetRow). p x.1 && q x.1) (enumerate_from (n + 1) rows)) (filter (λ (x : ℕ × AssetRow). p x.1 && q x.1) (enumerate_from (n + 1) rows)))
      by false rest = rest
      by true rest = ap (λ (o : Option AssetRow). cond (option_map_or q o false) (let r : RowNo = record { 0 = n } in r ∷ filter (λ (r : RowNo). option_map_or q (slice_get all r.0) false) (map (λ (x : ℕ × AssetRow). let r : RowNo = record { 0 = x.0 } in r) (filter (λ (x : ℕ × AssetRow). p x.1) (enumerate_from (n + 1) rows)))) (filter (λ (r : RowNo). option_map_or q (slice_get all r.0) false) (map (λ (x : ℕ × AssetRow). let r : RowNo = record { 0 = x.0 } in r) (filter (λ (x : ℕ × AssetRow). p x.1) (enumerate_from (n + 1) rows))))) here ∙ kept (q row)
        where
          kept : (t : Bool) → cond t (let r : RowNo = record { 0 = n } in r ∷ filter (λ (r : RowNo). option_map_or q (slice_get all r.0) false) (map (λ (x : ℕ × AssetRow). let r : RowNo = record { 0 = x.0 } in r) (filter (λ (x : ℕ × AssetRow). p x.1) (enumerate_from (n + 1) rows)))) (filter (λ (r : RowNo). option_map_or q (slice_get all r.0) false) (map (λ (x : ℕ × AssetRow). let r : RowNo = record { 0 = x.0 } in r) (filter (λ (x : ℕ × AssetRow). p x.1) (enumerate_from (n + 1) rows)))) ≡ map (λ (x : ℕ × AssetRow). let r : RowNo = record { 0 = x.0 } in r) (cond t ((n, row) ∷ filter (λ (x : ℕ × AssetRow). p x.1 && q x.1) (enumerate_from (n + 1) rows)) (filter (λ (x : ℕ × AssetRow). p x.1 && q x.1) (enumerate_from (n + 1) rows)))
          kept true = ap (λ (l : List RowNo). let r : RowNo = record { 0 = n } in r ∷ l) rest
          kept false = rest

-- keys whose texts stand once stand once
pub texts_apart : (f : KeyNo → List ℕ) → ((a b : KeyNo) → eqb a.0 b.0 ≡ true → bytes_eq (f a) (f b) ≡ true) → (ks : List KeyNo) → no_text_twice (map f ks) ≡ true → no_key_twice ks ≡ true
texts_apart f same [] once = refl
texts_apart f same (k ∷ ks) once =
    let parts = and_parts (not (list_any (λ u. bytes_eq u (f k)) (map f ks))) (no_text_twice (map f ks)) once in
    both (ap not (none ks (not-true (list_any (λ u. bytes_eq u (f k)) (map f ks)) parts.0))) (texts_apart f same ks parts.1)
  where
    both : {s t : Bool} → s ≡ true → t ≡ true → (s && t) ≡ true
    both {s} {t} one two = ap (λ u. u && t) one ∙ two

    none : (ls : List KeyNo) → list_any (λ u. bytes_eq u (f k)) (map f ls) ≡ false → list_any (λ c. eqb c.0 k.0) ls ≡ false
    none [] out = refl
    none (l ∷ ls) out = by (eqb l.0 k.0) refl (bytes_eq (f l) (f k)) refl out (none ls)
      where
        by : (s : Bool) → eqb l.0 k.0 ≡ s → (t : Bool) → bytes_eq (f l) (f k) ≡ t → (t || list_any (λ u. bytes_eq u (f k)) (map f ls)) ≡ false → (list_any (λ u. bytes_eq u (f k)) (map f ls) ≡ false → list_any (λ c. eqb c.0 k.0) ls ≡ false) → (s || list_any (λ c. eqb c.0 k.0) ls) ≡ false
        by true is true twin given rest = absurd (false≢true (sym given))
        by true is false twin given rest = absurd (false≢true (sym twin ∙ same l k is))
        by false is true twin given rest = absurd (false≢true (sym given))
        by false is false twin given rest = rest given

pub rows_apart : (r : Rows) → AreRows r → list_all (λ (a : AssetRow). no_key_twice a.keys) r.assets ≡ true
rows_apart r are = all r.assets are.keys
  where
    f : KeyNo → List ℕ
    f k = text_at r.keys k.0

    all : (rows : List AssetRow) → list_all (λ (a : AssetRow). no_text_twice (map (λ (k : KeyNo). text_at r.keys k.0) a.keys)) rows ≡ true → list_all (λ (a : AssetRow). no_key_twice a.keys) rows ≡ true
    all [] once = refl
    all (a ∷ rows) once =
        let parts = and_parts (no_text_twice (map (λ (k : KeyNo). text_at r.keys k.0) a.keys)) (list_all (λ (b : AssetRow). no_text_twice (map (λ (k : KeyNo). text_at r.keys k.0) b.keys)) rows) once in
        join (texts_apart (λ (k : KeyNo). text_at r.keys k.0) (λ x y is. ap (λ n. bytes_eq (text_at r.keys n) (text_at r.keys y.0)) (eqb-true x.0 y.0 is) ∙ text_is_itself (text_at r.keys y.0)) a.keys parts.0) (all rows parts.1)
      where
        join : {s t : Bool} → s ≡ true → t ≡ true → (s && t) ≡ true
        join {s} {t} one two = ap (λ u. u && t) one ∙ two

pub postings_at : (rows rows2 : List AssetRow) (n m : ℕ) (postings : List (List RowNo)) → rows ≡ rows2 → n ≡ m → ArePostings rows n postings → ArePostings rows2 m postings
postings_at rows rows2 n m postings a b are = subst (λ r. ArePostings r m postings) a (subst (λ k. ArePostings rows k postings) b are)

-- no row has a key that is no key's number
none_past : (count : ℕ) (key : KeyNo) (ks : List KeyNo) → count ≤ key.0 → list_all (λ (k : KeyNo). nat_lt k.0 count) ks ≡ true → list_any (λ (k : KeyNo). eqb k.0 key.0) ks ≡ false
none_past count key [] past below = refl
none_past count key (k ∷ ks) past below =
    let parts = and_parts (nat_lt k.0 count) (list_all (λ (k : KeyNo). nat_lt k.0 count) ks) below in
    let here : eqb k.0 key.0 ≡ false = ne_eqb k.0 key.0 (λ same. absurd (omega (arith, same, past, ltb-true k.0 count parts.0))) in
    ap (λ t. t || list_any (λ (k : KeyNo). eqb k.0 key.0) ks) here ∙ none_past count key ks past parts.1

rows_past : (count : ℕ) (key : KeyNo) (n : ℕ) (rows : List AssetRow) → count ≤ key.0 → list_all (λ (a : AssetRow). list_all (λ (k : KeyNo). nat_lt k.0 count) a.keys) rows ≡ true → filter (λ (x : ℕ × AssetRow). has_key (Some key) x.1) (enumerate_from n rows) ≡ []
rows_past count key n [] past below = refl
rows_past count key n (row ∷ rows) past below =
    let parts = and_parts (list_all (λ (k : KeyNo). nat_lt k.0 count) row.keys) (list_all (λ (a : AssetRow). list_all (λ (k : KeyNo). nat_lt k.0 count) a.keys) rows) below in
    let rest = filter (λ (x : ℕ × AssetRow). has_key (Some key) x.1) (enumerate_from (n + 1) rows) in
    ap (λ t. cond t ((n, row) ∷ rest) rest) (none_past count key row.keys past parts.0) ∙ rows_past count key (n + 1) rows past parts.1

no_key_none : (n : ℕ) (rows : List AssetRow) → filter (λ (x : ℕ × AssetRow). has_key None x.1) (enumerate_from n rows) ≡ []
no_key_none n [] = refl
no_key_none n (row ∷ rows) = no_key_none (n + 1) rows

-- the lists that were made have each key's rows, whatever the key
pub lists_rows : (rows : List AssetRow) (count : ℕ) (postings : List (List RowNo)) → ArePostings rows count postings → list_all (λ (a : AssetRow). list_all (λ (k : KeyNo). nat_lt k.0 count) a.keys) rows ≡ true → ListsRows rows postings
lists_rows rows count postings are below None = sym (ap (map (λ (x : ℕ × AssetRow). let r : RowNo = record { 0 = x.0 } in r)) (no_key_none 0 rows))
lists_rows rows count postings are below (Some key) = by (slice_get postings key.0) refl
  where
    by : (o : Option (List RowNo)) → slice_get postings key.0 ≡ o → unwrap_or o [] ≡ rows_where (has_key (Some key)) rows
    by (Some found) at = are.each key found at
    by None at =
        let past : count ≤ key.0 = omega (arith, are.many, past_from postings key.0 at) in
        sym (ap (map (λ (x : ℕ × AssetRow). let r : RowNo = record { 0 = x.0 } in r)) (rows_past count key 0 rows past below))

pub lists_same : (rows rows2 : List AssetRow) (postings postings2 : List (List RowNo)) → rows2 ≡ rows → postings2 ≡ postings → ListsRows rows postings → ListsRows rows2 postings2
lists_same rows rows2 postings postings2 same_rows same lists = subst (λ r. ListsRows r postings2) (sym same_rows) (subst (λ l. ListsRows rows l) (sym same) lists)

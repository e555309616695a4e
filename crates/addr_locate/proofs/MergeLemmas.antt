-- What keys lead to by the rows that are listed for each: the rows of one key, of several put in order, and of one that have the others.
use Rattle.std.proofs.Common.{◌≡◌, inl, inr, ℕ, ◌+◌, ◌-◌, ◌<◌, ◌≤◌, zero, suc, Bool, true, false, ◌&&◌, ◌||◌, not, cond, eqb, List, [], ◌∷◌, length, map, filter, get_or, Option, Some, None, slice_get, refl, sym, ◌∙◌, ap, subst, arith}
use Rattle.std.proofs.lemmas.Bool.{false≢true, and_parts, eqb-true, eq-eqb, ne_eqb, not-true, cases_eq}
use Rattle.std.proofs.lemmas.List.Folds.{list_any-append}
use Rattle.std.proofs.lemmas.List.Kept.{AllPairs-from_increasing}
use Rattle.std.proofs.lemmas.Map.Views.{Contains-from_any}
use Rattle.std.specs.List.{list_any, list_all, enumerate_from, flat_map, AllPairs, Contains}
use Rattle.std.specs.List.Sorted.{IsStrictlyIncreasing}
use Rattle.std.specs.Option.{option_map_or}
use Rattle.addr_base.specs.declared.ids.KeyNo.{KeyNo}
use Rattle.addr_base.specs.declared.ids.RowNo.{RowNo}
use Rattle.addr_locate.specs.declared.rows.AssetRow.{AssetRow}
use Rattle.addr_locate.specs.declared.rows.Kind.{Kind}
use Rattle.addr_locate.specs.Merge.{is_kind, has_key, is_match, has_none, rows_where}
use Rattle.addr_locate.specs.Postings.{listed, ListsRows, is_kind_at, numbers_of_key, has_each}
use Rattle.addr_locate.proofs.PostingLemmas.{numbered_in}

-- the row with that number
abbrev pub row_no : ℕ → RowNo
row_no n = record { 0 = n }

-- the numbers, from n on, of the rows that pass a test
abbrev numbers_where : (AssetRow → Bool) → ℕ → List AssetRow → List ℕ
numbers_where test n rows = map (λ (p : ℕ × AssetRow). p.0) (filter (λ (p : ℕ × AssetRow). test p.1) (enumerate_from n rows))

numbers_where-cons : (test : AssetRow → Bool) (n : ℕ) (row : AssetRow) (rows : List AssetRow) (t : Bool) → test row ≡ t → numbers_where test n (row ∷ rows) ≡ cond t (n ∷ numbers_where test (n + 1) rows) (numbers_where test (n + 1) rows)
numbers_where-cons test n row rows true is = ap (λ t. map (λ (p : ℕ × AssetRow). p.0) (cond t ((n, row) ∷ filter (λ (p : ℕ × AssetRow). test p.1) (enumerate_from (n + 1) rows)) (filter (λ (p : ℕ × AssetRow). test p.1) (enumerate_from (n + 1) rows)))) is
numbers_where-cons test n row rows false is = ap (λ t. map (λ (p : ℕ × AssetRow). p.0) (cond t ((n, row) ∷ filter (λ (p : ℕ × AssetRow). test p.1) (enumerate_from (n + 1) rows)) (filter (λ (p : ℕ × AssetRow). test p.1) (enumerate_from (n + 1) rows)))) is

-- each number is n or more, and below the next
abbrev Rises : ℕ → List ℕ → Type 0
Rises n [] = Unit {0}
Rises n (x ∷ xs) = (n ≤ x) × Rises (suc x) xs

rises_from : (n : ℕ) (xs : List ℕ) → AllPairs (λ x y. x < y) xs → ((d : ℕ) → 0 < length xs → n ≤ get_or xs 0 d) → Rises n xs
rises_from n [] pairs low = tt
rises_from n (x ∷ xs) pairs low = (low 0 (omega arith), rises_from (suc x) xs (λ i j d before within. pairs (suc i) (suc j) d (omega arith) (omega arith)) (λ d some. let first : x < get_or xs 0 d = pairs 0 1 d (omega arith) (omega arith) in omega arith))

none_below : (k n : ℕ) (xs : List ℕ) → Rises n xs → k < n → list_any (λ x. eqb k x) xs ≡ false
none_below k n [] rises lt = refl
none_below k n (x ∷ xs) rises lt =
    let low = rises.0 in
    let here : eqb k x ≡ false = ne_eqb k x (λ same. absurd (omega (arith, same, low, lt))) in
    ap (λ t. t || list_any (λ x. eqb k x) xs) here ∙ none_below k (suc x) xs rises.1 (omega (arith, low, lt))

higher : (n : ℕ) (xs : List ℕ) → Rises n xs → list_any (λ x. eqb (n + 0) x) xs ≡ false → Rises (n + 1) xs
higher n [] rises none = tt
higher n (x ∷ xs) rises none = elim (cases_eq (n + 0) x) [
  | inl same ↦ absurd (false≢true (sym none ∙ ap (λ t. t || list_any (λ y. eqb (n + 0) y) xs) (eq-eqb (n + 0) x same)))
  | inr other ↦ (let low = rises.0 in let apart : n ≡ x → ⊥ = (λ is. other (let plain : n + 0 ≡ n = omega arith in plain ∙ is)) in omega (arith, low, apart), rises.1)
]

lower : (n : ℕ) (xs : List ℕ) → Rises (n + 1) xs → Rises n xs
lower n [] rises = tt
lower n (x ∷ xs) rises = (let low = rises.0 in omega (arith, low), rises.1)

-- rising numbers among which exactly those of the rows that pass a test stand
exactly : (test : AssetRow → Bool) (n : ℕ) (rows : List AssetRow) (xs : List ℕ) → Rises n xs → ((m : ℕ) → list_any (λ x. eqb (n + m) x) xs ≡ option_map_or test (slice_get rows m) false) → xs ≡ numbers_where test n rows
exactly test n [] [] rises same = refl
exactly test n [] (x ∷ xs) rises same =
    let low = rises.0 in
    let at : n + (x - n) ≡ x = omega (arith, low) in
    absurd (false≢true (sym (same (x - n)) ∙ ap (λ t. t || list_any (λ y. eqb (n + (x - n)) y) xs) (eq-eqb (n + (x - n)) x at)))
exactly test n (row ∷ rows) xs rises same = step (test row) refl xs rises same (λ ys r s. exactly test (n + 1) rows ys r s)
  where
    shift : (m : ℕ) → n + 1 + m ≡ n + suc m
    shift m = omega arith

    step : (t : Bool) → test row ≡ t → (xs : List ℕ) → Rises n xs → ((m : ℕ) → list_any (λ x. eqb (n + m) x) xs ≡ option_map_or test (slice_get (row ∷ rows) m) false)
        → ((ys : List ℕ) → Rises (n + 1) ys → ((m : ℕ) → list_any (λ x. eqb (n + 1 + m) x) ys ≡ option_map_or test (slice_get rows m) false) → ys ≡ numbers_where test (n + 1) rows)
        → xs ≡ numbers_where test n (row ∷ rows)
    step true is [] rises same rest = absurd (false≢true (same 0 ∙ is))
    step true is (x ∷ xs) rises same rest = elim (cases_eq x n) [
      | inl at ↦
          let next : suc x ≡ n + 1 = omega (arith, at) in
          let more : xs ≡ numbers_where test (n + 1) rows = rest xs (subst (λ k. Rises k xs) next rises.1) (λ m.
          let off : eqb (n + suc m) x ≡ false = ne_eqb (n + suc m) x (λ e. absurd (omega (arith, e, at))) in
          ap (λ k. list_any (λ y. eqb k y) xs) (shift m) ∙ sym (ap (λ t. t || list_any (λ y. eqb (n + suc m) y) xs) off) ∙ same (suc m)) in
          ap (λ k. k ∷ xs) at ∙ ap (λ l. n ∷ l) more ∙ sym (numbers_where-cons test n row rows true is)
      | inr other ↦
          let low = rises.0 in
          let none = none_below (n + 0) (n + 1) (x ∷ xs) (omega (arith, low, other), rises.1) (omega arith) in
          absurd (false≢true (sym none ∙ same 0 ∙ is))
    ]
    step false is xs rises same rest = rest xs (higher n xs rises (same 0 ∙ is)) (λ m. ap (λ k. list_any (λ y. eqb k y) xs) (shift m) ∙ same (suc m)) ∙ sym (numbers_where-cons test n row rows false is)

where_rises : (test : AssetRow → Bool) (n : ℕ) (rows : List AssetRow) → Rises n (numbers_where test n rows)
where_rises test n [] = tt
where_rises test n (row ∷ rows) = by (test row) refl (where_rises test (n + 1) rows)
  where
    by : (t : Bool) → test row ≡ t → Rises (n + 1) (numbers_where test (n + 1) rows) → Rises n (numbers_where test n (row ∷ rows))
    by true is rest = let next : n + 1 ≡ suc n = omega arith in subst (Rises n) (sym (numbers_where-cons test n row rows true is)) (omega arith, subst (λ k. Rises k (numbers_where test (n + 1) rows)) next rest)
    by false is rest = subst (Rises n) (sym (numbers_where-cons test n row rows false is)) (lower n (numbers_where test (n + 1) rows) rest)

any_where : (test : AssetRow → Bool) (n : ℕ) (rows : List AssetRow) (m : ℕ) → list_any (λ x. eqb (n + m) x) (numbers_where test n rows) ≡ option_map_or test (slice_get rows m) false
any_where test n [] m = refl
any_where test n (row ∷ rows) zero = by (test row) refl
  where
    by : (t : Bool) → test row ≡ t → list_any (λ x. eqb (n + 0) x) (numbers_where test n (row ∷ rows)) ≡ test row
    by true is =
        let at : n + 0 ≡ n = omega arith in
        ap (list_any (λ x. eqb (n + 0) x)) (numbers_where-cons test n row rows true is) ∙ ap (λ t. t || list_any (λ y. eqb (n + 0) y) (numbers_where test (n + 1) rows)) (eq-eqb (n + 0) n at) ∙ sym is
    by false is = ap (list_any (λ x. eqb (n + 0) x)) (numbers_where-cons test n row rows false is) ∙ none_below (n + 0) (n + 1) (numbers_where test (n + 1) rows) (where_rises test (n + 1) rows) (omega arith) ∙ sym is
any_where test n (row ∷ rows) (suc m) = by (test row) refl (any_where test (n + 1) rows m)
  where
    shift : n + suc m ≡ n + 1 + m
    shift = omega arith

    by : (t : Bool) → test row ≡ t → list_any (λ x. eqb (n + 1 + m) x) (numbers_where test (n + 1) rows) ≡ option_map_or test (slice_get rows m) false → list_any (λ x. eqb (n + suc m) x) (numbers_where test n (row ∷ rows)) ≡ option_map_or test (slice_get rows m) false
    by true is rest =
        let off : eqb (n + suc m) n ≡ false = ne_eqb (n + suc m) n (λ e. absurd (omega (arith, e))) in
        ap (list_any (λ x. eqb (n + suc m) x)) (numbers_where-cons test n row rows true is) ∙ ap (λ t. t || list_any (λ y. eqb (n + suc m) y) (numbers_where test (n + 1) rows)) off ∙ ap (λ k. list_any (λ y. eqb k y) (numbers_where test (n + 1) rows)) shift ∙ rest
    by false is rest = ap (list_any (λ x. eqb (n + suc m) x)) (numbers_where-cons test n row rows false is) ∙ ap (λ k. list_any (λ y. eqb k y) (numbers_where test (n + 1) rows)) shift ∙ rest

-- One key

pub matching_listed : (rows : List AssetRow) (postings : List (List RowNo)) (kind : Kind) (key : Option KeyNo) → ListsRows rows postings → filter (is_kind_at kind rows) (listed postings key) ≡ rows_where (is_match kind key) rows
matching_listed rows postings kind key lists =
    ap (filter (is_kind_at kind rows)) (lists key)
    ∙ numbered_in rows (has_key key) (is_kind kind) 0 rows (λ k. let same : 0 + k ≡ k = omega arith in ap (slice_get rows) same)

-- Whether there is one

-- whether a list has an element
abbrev has_some : {A : Type 0} → List A → Bool
has_some [] = false
has_some (x ∷ xs) = true

some_kept : {A : Type 0} (p : A → Bool) (xs : List A) → list_any p xs ≡ has_some (filter p xs)
some_kept p [] = refl
some_kept p (x ∷ xs) = by (p x) refl (some_kept p xs)
  where
    by : (t : Bool) → p x ≡ t → list_any p xs ≡ has_some (filter p xs) → list_any p (x ∷ xs) ≡ has_some (filter p (x ∷ xs))
    by true is rest = ap (λ t. t || list_any p xs) is ∙ sym (ap (λ t. has_some (cond t (x ∷ filter p xs) (filter p xs))) is)
    by false is rest = ap (λ t. t || list_any p xs) is ∙ rest ∙ sym (ap (λ t. has_some (cond t (x ∷ filter p xs) (filter p xs))) is)

some_mapped : {A B : Type 0} (f : A → B) (xs : List A) → has_some (map f xs) ≡ has_some xs
some_mapped f [] = refl
some_mapped f (x ∷ xs) = refl

any_numbered : (p : AssetRow → Bool) (n : ℕ) (rows : List AssetRow) → list_any (λ (x : ℕ × AssetRow). p x.1) (enumerate_from n rows) ≡ list_any p rows
any_numbered p n [] = refl
any_numbered p n (row ∷ rows) = ap (λ t. p row || t) (any_numbered p (n + 1) rows)

pub any_listed : (rows : List AssetRow) (postings : List (List RowNo)) (kind : Kind) (key : Option KeyNo) → ListsRows rows postings → list_any (is_kind_at kind rows) (listed postings key) ≡ list_any (is_match kind key) rows
any_listed rows postings kind key lists =
    some_kept (is_kind_at kind rows) (listed postings key)
    ∙ ap has_some (matching_listed rows postings kind key lists)
    ∙ some_mapped (λ (x : ℕ × AssetRow). row_no x.0) (filter (λ (x : ℕ × AssetRow). is_match kind key x.1) (enumerate_from 0 rows))
    ∙ sym (some_kept (λ (x : ℕ × AssetRow). is_match kind key x.1) (enumerate_from 0 rows))
    ∙ any_numbered (is_match kind key) 0 rows

-- Some key

numbers_back : (xs : List (ℕ × AssetRow)) → map (λ (r : RowNo). r.0) (map (λ (p : ℕ × AssetRow). row_no p.0) xs) ≡ map (λ (p : ℕ × AssetRow). p.0) xs
numbers_back [] = refl
numbers_back (x ∷ xs) = ap (λ l. x.0 ∷ l) (numbers_back xs)

rows_back : (xs : List (ℕ × AssetRow)) → map row_no (map (λ (p : ℕ × AssetRow). p.0) xs) ≡ map (λ (p : ℕ × AssetRow). row_no p.0) xs
rows_back [] = refl
rows_back (x ∷ xs) = ap (λ l. row_no x.0 ∷ l) (rows_back xs)

any_of_key : (rows : List AssetRow) (postings : List (List RowNo)) (kind : Kind) (key : Option KeyNo) → ListsRows rows postings → (m : ℕ) → list_any (λ x. eqb m x) (numbers_of_key kind rows postings key) ≡ option_map_or (is_match kind key) (slice_get rows m) false
any_of_key rows postings kind key lists m =
    let plain : m ≡ 0 + m = omega arith in
    ap (λ (l : List RowNo). list_any (λ x. eqb m x) (map (λ (r : RowNo). r.0) l)) (matching_listed rows postings kind key lists)
    ∙ ap (list_any (λ x. eqb m x)) (numbers_back (filter (λ (p : ℕ × AssetRow). is_match kind key p.1) (enumerate_from 0 rows)))
    ∙ ap (λ k. list_any (λ x. eqb k x) (numbers_where (is_match kind key) 0 rows)) plain
    ∙ any_where (is_match kind key) 0 rows m

either_at : (p q : AssetRow → Bool) (o : Option AssetRow) → (option_map_or p o false || option_map_or q o false) ≡ option_map_or (λ row. p row || q row) o false
either_at p q None = refl
either_at p q (Some row) = refl

never_at : (o : Option AssetRow) → false ≡ option_map_or (λ row. false) o false
never_at None = refl
never_at (Some row) = refl

any_of_keys : (rows : List AssetRow) (postings : List (List RowNo)) (kind : Kind) (keys : List (Option KeyNo)) → ListsRows rows postings → (m : ℕ) → list_any (λ x. eqb m x) (flat_map (numbers_of_key kind rows postings) keys) ≡ option_map_or (λ row. list_any (λ key. is_match kind key row) keys) (slice_get rows m) false
any_of_keys rows postings kind [] lists m = never_at (slice_get rows m)
any_of_keys rows postings kind (key ∷ keys) lists m =
    list_any-append (λ x. eqb m x) (numbers_of_key kind rows postings key) (flat_map (numbers_of_key kind rows postings) keys)
    ∙ ap (λ t. t || list_any (λ x. eqb m x) (flat_map (numbers_of_key kind rows postings) keys)) (any_of_key rows postings kind key lists m)
    ∙ ap (λ t. option_map_or (is_match kind key) (slice_get rows m) false || t) (any_of_keys rows postings kind keys lists m)
    ∙ either_at (is_match kind key) (λ row. list_any (λ key. is_match kind key row) keys) (slice_get rows m)

or_true : (t : Bool) → (t || true) ≡ true
or_true true = refl
or_true false = refl

any_at : (m k : ℕ) (xs : List ℕ) → k < length xs → get_or xs k m ≡ m → list_any (λ x. eqb m x) xs ≡ true
any_at m k [] lt is = absurd (omega arith)
any_at m zero (x ∷ xs) lt is = ap (λ t. t || list_any (λ y. eqb m y) xs) (eq-eqb m x (sym is))
any_at m (suc k) (x ∷ xs) lt is = ap (λ t. eqb m x || t) (any_at m k xs (omega arith) is) ∙ or_true (eqb m x)

any_same : (xs ys : List ℕ) → ((x : ℕ) → Contains xs x → Contains ys x) → ((x : ℕ) → Contains ys x → Contains xs x) → (m : ℕ) → list_any (λ x. eqb m x) ys ≡ list_any (λ x. eqb m x) xs
any_same xs ys keeps adds_none m = by (list_any (λ x. eqb m x) ys) refl (list_any (λ x. eqb m x) xs) refl
  where
    inside : (zs us : List ℕ) → ((x : ℕ) → Contains zs x → Contains us x) → list_any (λ x. eqb m x) zs ≡ true → list_any (λ x. eqb m x) us ≡ true
    inside zs us into there = let moved = into m (Contains-from_any {eq = eqb} (λ x y e. eqb-true x y e) m zs there) in any_at m moved.0 us moved.1 moved.2

    by : (s : Bool) → list_any (λ x. eqb m x) ys ≡ s → (t : Bool) → list_any (λ x. eqb m x) xs ≡ t → list_any (λ x. eqb m x) ys ≡ list_any (λ x. eqb m x) xs
    by true is true there = is ∙ sym there
    by true is false there = absurd (false≢true (sym there ∙ inside ys xs adds_none is))
    by false is true there = absurd (false≢true (sym is ∙ inside xs ys keeps there))
    by false is false there = is ∙ sym there

-- the numbers of all keys' rows, put in order, each once
pub union_rows : (rows : List AssetRow) (postings : List (List RowNo)) (kind : Kind) (keys : List (Option KeyNo)) (xs ys : List ℕ) → ListsRows rows postings → xs ≡ flat_map (numbers_of_key kind rows postings) keys
    → IsStrictlyIncreasing ys → ((x : ℕ) → Contains xs x → Contains ys x) → ((x : ℕ) → Contains ys x → Contains xs x)
    → map row_no ys ≡ rows_where (λ row. list_any (λ key. is_match kind key row) keys) rows
union_rows rows postings kind keys xs ys lists are rising keeps adds_none =
    let test = λ (row : AssetRow). list_any (λ key. is_match kind key row) keys in
    ap (map row_no) (exactly test 0 rows ys (rises_from 0 ys (AllPairs-from_increasing ys rising) (λ d some. omega arith)) (λ m.
    let plain : 0 + m ≡ m = omega arith in
    ap (λ k. list_any (λ x. eqb k x) ys) plain ∙ any_same xs ys keeps adds_none m ∙ ap (list_any (λ x. eqb m x)) are ∙ any_of_keys rows postings kind keys lists m))
    ∙ rows_back (filter (λ (p : ℕ × AssetRow). test p.1) (enumerate_from 0 rows))

-- Each key

where_same : (p q : AssetRow → Bool) → ((row : AssetRow) → p row ≡ q row) → (n : ℕ) (rows : List AssetRow) → filter (λ (x : ℕ × AssetRow). p x.1) (enumerate_from n rows) ≡ filter (λ (x : ℕ × AssetRow). q x.1) (enumerate_from n rows)
where_same p q same n [] = refl
where_same p q same n (row ∷ rows) =
    let more = filter (λ (x : ℕ × AssetRow). p x.1) (enumerate_from (n + 1) rows) in
    ap (λ t. cond t ((n, row) ∷ more) more) (same row) ∙ ap (λ (l : List (ℕ × AssetRow)). cond (q row) ((n, row) ∷ l) l) (where_same p q same (n + 1) rows)

and_false : (t : Bool) → (t && false) ≡ false
and_false true = refl
and_false false = refl

all_at : (p : Option KeyNo → Bool) (keys : List (Option KeyNo)) (i : ℕ) (d : Option KeyNo) → list_all p keys ≡ true → i < length keys → p (get_or keys i d) ≡ true
all_at p [] i d all lt = absurd (omega arith)
all_at p (k ∷ keys) zero d all lt = (and_parts (p k) (list_all p keys) all).0
all_at p (k ∷ keys) (suc i) d all lt = all_at p keys i d (and_parts (p k) (list_all p keys) all).1 (omega arith)

pub first_passes : (p : Option KeyNo → Bool) (keys others : List (Option KeyNo)) (first : Option KeyNo) → keys ≡ first ∷ others → list_all p keys ≡ true → p first ≡ true
first_passes p keys others first are all = (and_parts (p first) (list_all p others) (sym (ap (list_all p) are) ∙ all)).0

pub other_passes : (p : Option KeyNo → Bool) (keys others : List (Option KeyNo)) (first : Option KeyNo) (i : ℕ) (d : Option KeyNo) → keys ≡ first ∷ others → i < length others → list_all p keys ≡ true → p (get_or others i d) ≡ true
other_passes p keys others first i d are lt all = all_at p others i d (and_parts (p first) (list_all p others) (sym (ap (list_all p) are) ∙ all)).1 lt

pub no_key : (keys : List (Option KeyNo)) → length keys ≡ 0 → has_none keys ≡ true
no_key [] none = refl
no_key (key ∷ keys) none = absurd (omega arith)

-- of the rows of one of the keys those that have each
pub each_rows : (rows : List AssetRow) (postings : List (List RowNo)) (kind : Kind) (keys : List (Option KeyNo)) (key : Option KeyNo) → ListsRows rows postings
    → ((p : Option KeyNo → Bool) → has_none keys ≡ false → list_all p keys ≡ true → p key ≡ true)
    → filter (λ (r : RowNo). option_map_or (has_each kind keys) (slice_get rows r.0) false) (listed postings key) ≡ rows_where (has_each kind keys) rows
each_rows rows postings kind keys key lists one =
    ap (filter (λ (r : RowNo). option_map_or (has_each kind keys) (slice_get rows r.0) false)) (lists key)
    ∙ numbered_in rows (has_key key) (has_each kind keys) 0 rows (λ k. let same : 0 + k ≡ k = omega arith in ap (slice_get rows) same)
    ∙ ap (map (λ (p : ℕ × AssetRow). row_no p.0)) (where_same (λ row. has_key key row && has_each kind keys row) (has_each kind keys) (λ row. by row (has_each kind keys row) refl) 0 rows)
  where
    by : (row : AssetRow) (t : Bool) → has_each kind keys row ≡ t → (has_key key row && has_each kind keys row) ≡ has_each kind keys row
    by row false is = ap (λ t. has_key key row && t) is ∙ and_false (has_key key row) ∙ sym is
    by row true is =
        let parts = and_parts (not (has_none keys)) (list_all (λ k. is_match kind k row) keys) is in
        let matches = one (λ k. is_match kind k row) (not-true (has_none keys) parts.0) parts.1 in
        ap (λ t. t && has_each kind keys row) (and_parts (has_key key row) (is_kind kind row) matches).0

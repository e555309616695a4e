-- One more row or key, as at a step of a loop; and what every number and bundle that is found passes.
use Rattle.std.proofs.Common.{zero, suc, ℕ, ◌≡◌, ◌==◌, ◌<◌, ◌≤◌, ◌+◌, ◌∙◌, Bool, true, false, not, ◌&&◌, ◌||◌, nat_lt, List, [], ◌∷◌, ◌++◌, length, get_or, take, drop, map, filter, refl, ap, sym, cond, arith, add-one, Option, slice_get, drop-cons}
use Rattle.std.specs.List.{list_any, list_all, enumerate_from, flat_map}
use Rattle.std.specs.Option.{option_map_or}
use Rattle.std.proofs.lemmas.Bool.Decides.{nat_tests}
use Rattle.std.proofs.lemmas.List.{append-nil, take_more, length-take-le, map-append}
use Rattle.std.proofs.lemmas.List.Elements.{filter-append}
use Rattle.std.proofs.lemmas.List.Folds.{list_all-append, list_all-map}
use Rattle.addr_base.specs.declared.ids.BundleNo.{BundleNo}
use Rattle.addr_base.specs.declared.ids.KeyNo.{KeyNo}
use Rattle.addr_base.specs.declared.ids.RowNo.{RowNo}
use Rattle.addr_locate.specs.declared.rows.AssetRow.{AssetRow}
use Rattle.addr_locate.specs.declared.rows.Kind.{Kind}
use Rattle.addr_locate.specs.declared.rows.Merge.{Merge}
use Rattle.addr_locate.specs.declared.rows.Merge.TheVariants.{UseFirst, Union, Intersection}
use Rattle.addr_locate.specs.Merge.{is_match, has_none, rows_where, first_filled, merged, distinct, deps_of_row, deps_of}
use Rattle.addr_locate.specs.Rows.{no_repeats, are_bundles, has_sound_deps}

-- what the elements pass, those that are kept pass
all-filter : {X : Type 0} (q p : X → Bool) (xs : List X) → list_all q xs ≡ true → list_all q (filter p xs) ≡ true
all-filter q p [] all = refl
all-filter q p (x ∷ xs) all = let more : list_all q xs ≡ true = grind arith in by_test (p x) refl (all-filter q p xs more)
  where
    by_test : (t : Bool) → p x ≡ t → list_all q (filter p xs) ≡ true → list_all q (filter p (x ∷ xs)) ≡ true
    by_test true e rest = rw e (grind (arith, rest))
    by_test false e rest = rw e rest

-- Rows

enumerate_from-snoc : (n : ℕ) (xs : List AssetRow) (x : AssetRow) → enumerate_from n (xs ++ x ∷ []) ≡ enumerate_from n xs ++ (n + length xs, x) ∷ []
enumerate_from-snoc n [] x = let same : n ≡ n + 0 = omega arith in ap (λ k. (k, x) ∷ []) same
enumerate_from-snoc n (y ∷ ys) x = let rest = enumerate_from-snoc (n + 1) ys x in let far : n + 1 + length ys ≡ n + length (y ∷ ys) = omega arith in ap (λ t. (n, y) ∷ t) (rest ∙ ap (λ k. enumerate_from (n + 1) ys ++ (k, x) ∷ []) far)

rows_where-one : (test : AssetRow → Bool) (n : ℕ) (row : AssetRow) → map {B = RowNo} (λ (p : ℕ × AssetRow). record { 0 = p.0 }) (filter (λ (p : ℕ × AssetRow). test p.1) ((n, row) ∷ [])) ≡ cond (test row) (record { 0 = n } ∷ []) []
rows_where-one test n row = by_test (test row) refl
  where
    by_test : (t : Bool) → test row ≡ t → map {B = RowNo} (λ (p : ℕ × AssetRow). record { 0 = p.0 }) (filter (λ (p : ℕ × AssetRow). test p.1) ((n, row) ∷ [])) ≡ cond (test row) (record { 0 = n } ∷ []) []
    by_test true e = rw e
    by_test false e = rw e

rows_where-snoc : (test : AssetRow → Bool) (rows : List AssetRow) (row : AssetRow) → rows_where test (rows ++ row ∷ []) ≡ rows_where test rows ++ cond (test row) (record { 0 = length rows } ∷ []) []
rows_where-snoc test rows row = let last : 0 + length rows ≡ length rows = omega arith in rw (enumerate_from-snoc 0 rows row, filter-append, map-append, last) (ap (λ t. rows_where test rows ++ t) (rows_where-one test (length rows) row))

rows_where_more : (test : AssetRow → Bool) (rows : List AssetRow) (i : ℕ) (row : AssetRow) → i < length rows → row ≡ get_or rows i row → rows_where test (take (i + 1) rows) ≡ rows_where test (take i rows) ++ cond (test row) (record { 0 = i } ∷ []) []
rows_where_more test rows i row within is =
    let long : length (take i rows) ≡ i = length-take-le i rows (omega arith) in
    let grown : take (i + 1) rows ≡ take i rows ++ row ∷ [] = take_more rows i row within ∙ ap (λ r. take i rows ++ r ∷ []) (sym is) in
    ap (rows_where test) grown ∙ (rows_where-snoc test (take i rows) row ∙ ap (λ n. rows_where test (take i rows) ++ cond (test row) (record { 0 = n } ∷ []) []) long)

pub rows_where_put : (test : AssetRow → Bool) (rows : List AssetRow) (i : ℕ) (row : AssetRow) (found : List RowNo) → i < length rows → row ≡ get_or rows i row → test row ≡ true → found ≡ rows_where test (take i rows) → found ++ record { 0 = i } ∷ [] ≡ rows_where test (take (i + 1) rows)
rows_where_put test rows i row found within is passes was = rw (rows_where_more test rows i row within is, passes, was)

pub rows_where_pass : (test : AssetRow → Bool) (rows : List AssetRow) (i : ℕ) (row : AssetRow) (found : List RowNo) → i < length rows → row ≡ get_or rows i row → test row ≡ false → found ≡ rows_where test (take i rows) → found ≡ rows_where test (take (i + 1) rows)
rows_where_pass test rows i row found within is fails was = rw (rows_where_more test rows i row within is, fails, was) (sym (append-nil (rows_where test (take i rows))))

-- Keys

pub first_filled_found : (f : Option KeyNo → List RowNo) (keys : List (Option KeyNo)) (i : ℕ) (d : Option KeyNo) → i < length keys → (f (get_or keys i d) ≡ [] → ⊥) → first_filled (map f (drop i keys)) ≡ f (get_or keys i d)
first_filled_found f keys i d within filled = rw (drop-cons keys i d within) (by_list (f (get_or keys i d)) refl)
  where
    by_list : (found : List RowNo) → f (get_or keys i d) ≡ found → first_filled (f (get_or keys i d) ∷ map f (drop (suc i) keys)) ≡ f (get_or keys i d)
    by_list [] e = absurd (filled e)
    by_list (r ∷ more) e = rw e

pub first_filled_empty : (f : Option KeyNo → List RowNo) (keys : List (Option KeyNo)) (i : ℕ) (d : Option KeyNo) → i < length keys → f (get_or keys i d) ≡ [] → first_filled (map f (drop i keys)) ≡ first_filled (map f (drop (i + 1) keys))
first_filled_empty f keys i d within empty = rw (drop-cons keys i d within, empty, add-one)

-- Bundles

any-filter_none : (b : BundleNo) (p : BundleNo → Bool) (xs : List BundleNo) → list_any (λ c. c.0 == b.0) xs ≡ false → list_any (λ c. c.0 == b.0) (filter p xs) ≡ false
any-filter_none b p [] none = refl
any-filter_none b p (x ∷ xs) none = let more : list_any (λ c. c.0 == b.0) xs ≡ false = grind arith in by_test (p x) refl (any-filter_none b p xs more)
  where
    by_test : (t : Bool) → p x ≡ t → list_any (λ c. c.0 == b.0) (filter p xs) ≡ false → list_any (λ c. c.0 == b.0) (filter p (x ∷ xs)) ≡ false
    by_test true e rest = rw e (grind (arith, rest))
    by_test false e rest = rw e rest

-- what is taken out isn't there, and nothing else is
any-without : (b x : BundleNo) (xs : List BundleNo) → list_any (λ c. c.0 == b.0) (filter (λ c. not (c.0 == x.0)) xs) ≡ (not (b.0 == x.0) && list_any (λ c. c.0 == b.0) xs)
any-without b x [] = grind (arith, nat_tests)
any-without b x (y ∷ ys) = by_test (y.0 == x.0) refl (any-without b x ys)
  where
    by_test : (t : Bool) → (y.0 == x.0) ≡ t → list_any (λ c. c.0 == b.0) (filter (λ c. not (c.0 == x.0)) ys) ≡ (not (b.0 == x.0) && list_any (λ c. c.0 == b.0) ys) → list_any (λ c. c.0 == b.0) (filter (λ c. not (c.0 == x.0)) (y ∷ ys)) ≡ (not (b.0 == x.0) && list_any (λ c. c.0 == b.0) (y ∷ ys))
    by_test true e rest = rw e (grind (arith, nat_tests, rest))
    by_test false e rest = rw e (grind (arith, nat_tests, rest))

pub any-distinct : (b : BundleNo) (xs : List BundleNo) → list_any (λ c. c.0 == b.0) (distinct xs) ≡ list_any (λ c. c.0 == b.0) xs
any-distinct b [] = refl
any-distinct b (x ∷ xs) = let here = any-without b x (distinct xs) in let rest = any-distinct b xs in rw (here, rest) (grind (arith, nat_tests))

pub distinct-snoc : (xs : List BundleNo) (b : BundleNo) → distinct (xs ++ b ∷ []) ≡ distinct xs ++ cond (list_any (λ c. c.0 == b.0) xs) [] (b ∷ [])
distinct-snoc [] b = refl
distinct-snoc (x ∷ xs) b = rw (distinct-snoc xs b, filter-append) (by_tests (list_any (λ c. c.0 == b.0) xs) (x.0 == b.0) refl refl)
  where
    by_tests : (known here : Bool) → list_any (λ c. c.0 == b.0) xs ≡ known → (x.0 == b.0) ≡ here → x ∷ filter (λ c. not (c.0 == x.0)) (distinct xs) ++ filter (λ c. not (c.0 == x.0)) (cond (list_any (λ c. c.0 == b.0) xs) [] (b ∷ [])) ≡ distinct (x ∷ xs) ++ cond (x.0 == b.0 || list_any (λ c. c.0 == b.0) xs) [] (b ∷ [])
    by_tests true true e f = rw (e, f)
    by_tests true false e f = rw (e, f)
    by_tests false true e f = let turned : (b.0 == x.0) ≡ true = grind (arith, nat_tests) in rw (e, f, turned)
    by_tests false false e f = let turned : (b.0 == x.0) ≡ false = grind (arith, nat_tests) in rw (e, f, turned)

no_repeats-filter : (p : BundleNo → Bool) (xs : List BundleNo) → no_repeats xs ≡ true → no_repeats (filter p xs) ≡ true
no_repeats-filter p [] once = refl
no_repeats-filter p (x ∷ xs) once = let more : no_repeats xs ≡ true = grind arith in let out : list_any (λ c. c.0 == x.0) xs ≡ false = grind arith in by_test (p x) refl (no_repeats-filter p xs more) (any-filter_none x p xs out)
  where
    by_test : (t : Bool) → p x ≡ t → no_repeats (filter p xs) ≡ true → list_any (λ c. c.0 == x.0) (filter p xs) ≡ false → no_repeats (filter p (x ∷ xs)) ≡ true
    by_test true e rest none = rw e (grind (arith, rest, none))
    by_test false e rest none = rw e rest

pub no_repeats-distinct : (xs : List BundleNo) → no_repeats (distinct xs) ≡ true
no_repeats-distinct [] = refl
no_repeats-distinct (x ∷ xs) =
    let out = any-without x x (distinct xs) in
    let rest = no_repeats-filter (λ c. not (c.0 == x.0)) (distinct xs) (no_repeats-distinct xs) in
    grind (arith, nat_tests, out, rest)

pub all-distinct : (q : BundleNo → Bool) (xs : List BundleNo) → list_all q xs ≡ true → list_all q (distinct xs) ≡ true
all-distinct q [] all = refl
all-distinct q (x ∷ xs) all = let rest = all-filter q (λ c. not (c.0 == x.0)) (distinct xs) (all-distinct q xs (grind arith)) in grind (arith, rest)

-- What is found is in range

enumerate_from-within : (m n : ℕ) (rows : List AssetRow) → n + length rows ≤ m → list_all (λ (p : ℕ × AssetRow). nat_lt p.0 m) (enumerate_from n rows) ≡ true
enumerate_from-within m n [] fits = refl
enumerate_from-within m n (row ∷ rows) fits =
    let low : n < m = omega arith in
    let rest = enumerate_from-within m (n + 1) rows (omega arith) in grind (arith, nat_tests, low, rest)

pub rows_where-within : (test : AssetRow → Bool) (rows : List AssetRow) → list_all (λ (r : RowNo). nat_lt r.0 (length rows)) (rows_where test rows) ≡ true
rows_where-within test rows =
    let numbered = enumerate_from-within (length rows) 0 rows (omega arith) in
    list_all-map (λ (r : RowNo). nat_lt r.0 (length rows)) (λ (p : ℕ × AssetRow). record { 0 = p.0 }) (filter (λ (p : ℕ × AssetRow). test p.1) (enumerate_from 0 rows)) ∙ all-filter (λ (p : ℕ × AssetRow). nat_lt p.0 (length rows)) (λ (p : ℕ × AssetRow). test p.1) (enumerate_from 0 rows) numbered

first_filled-passes : (f : Option KeyNo → List RowNo) (q : RowNo → Bool) (keys : List (Option KeyNo)) → ((key : Option KeyNo) → list_all q (f key) ≡ true) → list_all q (first_filled (map f keys)) ≡ true
first_filled-passes f q [] each = refl
first_filled-passes f q (key ∷ keys) each = by_list (f key) refl (first_filled-passes f q keys each)
  where
    by_list : (found : List RowNo) → f key ≡ found → list_all q (first_filled (map f keys)) ≡ true → list_all q (first_filled (f key ∷ map f keys)) ≡ true
    by_list [] e rest = rw e rest
    by_list (r ∷ more) e rest = rw e (rw e at (each key))

pub merged-within : (rows : List AssetRow) (keys : List (Option KeyNo)) (mode : Merge) (kind : Kind) → list_all (λ (r : RowNo). nat_lt r.0 (length rows)) (merged rows keys mode kind) ≡ true
unfolding merged
merged-within rows keys UseFirst kind = first_filled-passes (λ key. rows_where (is_match kind key) rows) (λ r. nat_lt r.0 (length rows)) keys (λ key. rows_where-within (is_match kind key) rows)
merged-within rows keys Union kind = rows_where-within (λ row. list_any (λ key. is_match kind key row) keys) rows
merged-within rows keys Intersection kind = rows_where-within (λ row. not (has_none keys) && list_all (λ key. is_match kind key row) keys) rows

deps_of_row-within : (count : ℕ) (assets : List AssetRow) (n : ℕ) → list_all (λ a. has_sound_deps count a.deps) assets ≡ true → are_bundles count (option_map_or (λ (a : AssetRow). a.deps) (slice_get assets n) []) ≡ true
deps_of_row-within count [] n sound = grind arith
deps_of_row-within count (a ∷ assets) zero sound = grind arith
deps_of_row-within count (a ∷ assets) (suc n) sound = let rest = deps_of_row-within count assets n (grind arith) in rest

flat_map-within : (count : ℕ) (assets : List AssetRow) (numbers : List RowNo) → list_all (λ a. has_sound_deps count a.deps) assets ≡ true → are_bundles count (flat_map (deps_of_row assets) numbers) ≡ true
flat_map-within count assets [] sound = refl
flat_map-within count assets (n ∷ numbers) sound =
    let here = deps_of_row-within count assets n.0 sound in
    let rest = flat_map-within count assets numbers sound in
    list_all-append (λ (b : BundleNo). nat_lt b.0 count) (deps_of_row assets n) (flat_map (deps_of_row assets) numbers) ∙ rw (here, rest)

pub deps_of-within : (count : ℕ) (assets : List AssetRow) (numbers : List RowNo) → list_all (λ a. has_sound_deps count a.deps) assets ≡ true → are_bundles count (deps_of assets numbers) ≡ true
unfolding deps_of
deps_of-within count assets numbers sound = all-distinct (λ b. nat_lt b.0 count) (flat_map (deps_of_row assets) numbers) (flat_map-within count assets numbers sound)

pub deps_of-once : (assets : List AssetRow) (numbers : List RowNo) → no_repeats (deps_of assets numbers) ≡ true
unfolding deps_of
deps_of-once assets numbers = no_repeats-distinct (flat_map (deps_of_row assets) numbers)

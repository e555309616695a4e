-- The list of what a search found: in ascending order it is the list of the set, it has as many elements, and as many below a bound.
use Rattle.std.proofs.Common.{◌≡◌, ℕ, ◌+◌, ◌<◌, ◌⊎◌, inl, inr, Bool, true, false, nat_eq, nat_lt, List, [], ◌∷◌, length, get_or, refl, sym, ◌∙◌, arith}
use Rattle.std.proofs.lemmas.Bool.{false≢true, ne_eqb, eq-eqb, or_left, or_right, ltb-true, lt-ltb}
use Rattle.std.proofs.lemmas.Cmp.{nat_eq_equiv}
use Rattle.std.proofs.lemmas.List.Sums.{length-filter}
use Rattle.std.proofs.lemmas.List.FromFn.{get_or-range_with_len, length-range_with_len}
use Rattle.std.proofs.lemmas.List.Sorted.{IsNonDecreasingBy-from_sort, IsPermutation-sym, Contains-permutation}
use Rattle.std.proofs.lemmas.List.Kept.{IsStrictlySortedBy-filter}
use Rattle.std.proofs.lemmas.Map.Keys.{IsDistinct-IsPermutation, IsStrictlyIncreasing-from_distinct, sorted_from_strictly_increasing, IsDistinct-from_apart, below_from_sorted}
use Rattle.std.proofs.lemmas.Map.Made.{length-from_same_keys}
use Rattle.std.specs.List.{AllByRecursion, Contains, IsDistinct, count_by, list_any, filter, range_with_len}
use Rattle.std.specs.List.Sorted.{IsPermutation, IsSorted, IsStrictlySortedBy}
use Rattle.std.specs.Ordering.{nat_cmp}
use Rattle.addr_walks.specs.Marks.{Tracks}
use Rattle.addr_walks.specs.Rows.{Holds, IsSizeOf}
use Rattle.addr_walks.specs.Walks.{IsListOf}
use Rattle.addr_walks.proofs.Lists.{Contains-none, Contains-cases, Contains-filter, filter-Contains, IsListOf-filter, IsListOf-same}
use Rattle.addr_walks.proofs.MarkLemmas.{any-Contains, listed-below}

-- ---- the sorted list

pub tracks-sorted : (marks : List Bool) (queue sorted : List ℕ) → IsPermutation queue sorted → Tracks marks queue → Tracks marks sorted
tracks-sorted marks queue sorted moved tracks = record {
  once = IsDistinct-IsPermutation nat_eq (nat_eq_equiv.symm) queue sorted moved tracks.once;
  same = λ c. (
    λ marked. Contains-permutation queue sorted c moved ((tracks.same c).0 marked),
    λ here. (tracks.same c).1 (Contains-permutation sorted queue c (IsPermutation-sym queue sorted moved) here),
  );
}

pub sorted-list : (set : ℕ → Type 0) (queue sorted : List ℕ) → IsDistinct nat_eq queue → Holds queue set → IsPermutation queue sorted → IsSorted nat_cmp sorted → IsListOf nat_cmp set sorted
sorted-list set queue sorted once holds moved ascends = record {
  rising = sorted_from_strictly_increasing sorted (IsStrictlyIncreasing-from_distinct sorted (IsNonDecreasingBy-from_sort (λ x. x) sorted ascends)
      (IsDistinct-IsPermutation nat_eq (nat_eq_equiv.symm) queue sorted moved once));
  within = λ c here. (holds c).0 (Contains-permutation sorted queue c (IsPermutation-sym queue sorted moved) here);
  all = λ c is. Contains-permutation queue sorted c moved ((holds c).1 is);
}

-- ---- its length, where no sorted list is made

rising-range : (n : ℕ) → IsStrictlySortedBy nat_cmp (range_with_len 0 n)
rising-range n = sorted_from_strictly_increasing (range_with_len 0 n) (λ k within.
    (let long = length-range_with_len 0 n in
    let here = get_or-range_with_len 0 n k 0 (omega arith) in
    let next = get_or-range_with_len 0 n (k + 1) 0 (omega arith) in
    omega arith))

range-Contains : (n c : ℕ) → c < n → Contains (range_with_len 0 n) c
range-Contains n c within = (c, (let long = length-range_with_len 0 n in omega arith), (let here = get_or-range_with_len 0 n c c within in omega arith))

pub distinct-sorted : (xs : List ℕ) → IsStrictlySortedBy nat_cmp xs → IsDistinct nat_eq xs
distinct-sorted xs rising = IsDistinct-from_apart nat_eq xs (λ i j d before within. ne_eqb (get_or xs i d) (get_or xs j d)
    (λ same. (let below = below_from_sorted xs i j d rising before within in omega arith)))

Contains-passes : (c : ℕ) (xs : List ℕ) → Contains xs c → list_any (nat_eq c) xs ≡ true
Contains-passes c [] here = absurd (Contains-none c here)
Contains-passes c (x ∷ xs) here = by_case (Contains-cases x xs c here) (Contains-passes c xs)
  where
    by_case : (x ≡ c) ⊎ Contains xs c → (Contains xs c → list_any (nat_eq c) xs ≡ true) → list_any (nat_eq c) (x ∷ xs) ≡ true
    by_case (inl same) more = or_left (nat_eq c x) (list_any (nat_eq c) xs) (eq-eqb c x (sym same))
    by_case (inr later) more = or_right (nat_eq c x) (list_any (nat_eq c) xs) (more later)

pub same-answers : (xs ys : List ℕ) → ((c : ℕ) → Contains xs c → Contains ys c) → ((c : ℕ) → Contains ys c → Contains xs c) → (c : ℕ) → list_any (nat_eq c) xs ≡ list_any (nat_eq c) ys
same-answers xs ys to from c = by_test (list_any (nat_eq c) xs) refl (list_any (nat_eq c) ys) refl
  where
    by_test : (t : Bool) → list_any (nat_eq c) xs ≡ t → (u : Bool) → list_any (nat_eq c) ys ≡ u → list_any (nat_eq c) xs ≡ list_any (nat_eq c) ys
    by_test true here true there = here ∙ sym there
    by_test false here false there = here ∙ sym there
    by_test true here false there = absurd (false≢true (sym there ∙ Contains-passes c ys (to c (any-Contains c xs here))))
    by_test false here true there = absurd (false≢true (sym here ∙ Contains-passes c xs (from c (any-Contains c ys there))))

pub listed-size : (set : ℕ → Type 0) (marks : List Bool) (queue : List ℕ) → Tracks marks queue → Holds queue set → IsSizeOf set (length queue)
listed-size set marks queue tracks holds = (listed, list, length-from_same_keys nat_eq_equiv queue listed tracks.once (distinct-sorted listed list.rising) (same-answers queue listed all within))
  where
    marked : ℕ → Bool
    marked c = get_or marks c false

    listed : List ℕ
    listed = filter marked (range_with_len 0 (length marks))

    within : (c : ℕ) → Contains listed c → Contains queue c
    within c here = (tracks.same c).0 (filter-Contains marked (range_with_len 0 (length marks)) c here).1

    all : (c : ℕ) → Contains queue c → Contains listed c
    all c here = Contains-filter marked (range_with_len 0 (length marks)) c (range-Contains (length marks) c (listed-below marks queue tracks c here)) ((tracks.same c).1 here)

    list : IsListOf nat_cmp set listed
    list = record {
      rising = IsStrictlySortedBy-filter nat_cmp marked (range_with_len 0 (length marks)) (rising-range (length marks));
      within = λ c here. (holds c).0 (within c here);
      all = λ c is. all c ((holds c).1 is);
    }

-- ---- how many of it are below a bound

-- what holds of each of a list holds of each that is left, and what is left of a list without a repeat has none
all-left : (P : ℕ → Type 0) (p : ℕ → Bool) (xs : List ℕ) → AllByRecursion P xs → AllByRecursion P (filter p xs)
all-left P p [] all = all
all-left P p (x ∷ xs) all = by_test (p x) refl all.0 (all-left P p xs all.1)
  where
    by_test : (t : Bool) → p x ≡ t → P x → AllByRecursion P (filter p xs) → AllByRecursion P (filter p (x ∷ xs))
    by_test true is here rest = rw is (here, rest)
    by_test false is here rest = rw is rest

kept-step : (p : ℕ → Bool) (x : ℕ) (xs : List ℕ) (t : Bool) → p x ≡ t → AllByRecursion (λ y. nat_eq x y ≡ false) xs → IsDistinct nat_eq (filter p xs) → IsDistinct nat_eq (filter p (x ∷ xs))
unfolding IsDistinct
kept-step p x xs true is apart rest = rw is (all-left (λ y. nat_eq x y ≡ false) p xs apart, rest)
kept-step p x xs false is apart rest = rw is rest

distinct-filter : (p : ℕ → Bool) (xs : List ℕ) → IsDistinct nat_eq xs → IsDistinct nat_eq (filter p xs)
unfolding IsDistinct
distinct-filter p [] once = once
distinct-filter p (x ∷ xs) once = kept-step p x xs (p x) refl once.0 (distinct-filter p xs once.1)

pub listed-below-size : (set : ℕ → Type 0) (bound : ℕ) (marks : List Bool) (queue : List ℕ) → Tracks marks queue → Holds queue set → IsSizeOf (λ c. (c < bound) × set c) (count_by (λ c. nat_lt c bound) queue)
listed-below-size set bound marks queue tracks holds = (
  filter small listed,
  IsListOf-same (λ c. (small c ≡ true) × set c) (λ c. (c < bound) × set c) (λ c (is, led). (ltb-true c bound is, led)) (λ c (below, led). (lt-ltb c bound below, led)) (filter small listed) (IsListOf-filter set small listed list),
  sym (length-filter small queue) ∙ length-from_same_keys nat_eq_equiv (filter small queue) (filter small listed) (distinct-filter small queue tracks.once) (distinct-filter small listed (distinct-sorted listed list.rising)) (same-answers (filter small queue) (filter small listed) to from),
)
  where
    small : ℕ → Bool
    small c = nat_lt c bound

    listed : List ℕ
    listed = (listed-size set marks queue tracks holds).0

    list : IsListOf nat_cmp set listed
    list = (listed-size set marks queue tracks holds).1

    to : (c : ℕ) → Contains (filter small queue) c → Contains (filter small listed) c
    to c here = let (there, is) = filter-Contains small queue c here in Contains-filter small listed c (list.all c ((holds c).0 there)) is

    from : (c : ℕ) → Contains (filter small listed) c → Contains (filter small queue) c
    from c here = let (there, is) = filter-Contains small listed c here in Contains-filter small queue c ((holds c).1 (list.within c there)) is

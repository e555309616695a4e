-- Lists without a repeat: how often a number stands in one, one bundle more, and a greater number at the end.
use Rattle.std.proofs.Common.{◌≡◌, ℕ, ◌+◌, ◌<◌, ◌≤◌, ◌⊎◌, inl, inr, Bool, true, false, ◌||◌, cond, nat_eq, List, [], ◌∷◌, ◌++◌, length, get_or, map, take, refl, sym, ap, ◌∙◌, arith}
use Rattle.std.proofs.lemmas.Bool.{cases_lt, eqb-true}
use Rattle.std.proofs.lemmas.List.{append-nil, get_or_append_left, get_or_push, length_push, map-id, map_push}
use Rattle.std.proofs.lemmas.List.Elements.{Contains-get_or, filter-append}
use Rattle.std.proofs.lemmas.List.FromFn.{map-range_with_len_more}
use Rattle.std.proofs.lemmas.List.Sums.{count_by_more_no, count_by_more_yes, sum_by-cons}
use Rattle.std.proofs.lemmas.Map.Keys.{IsStrictlyIncreasing-from_sorted, sorted_from_strictly_increasing}
use Rattle.std.specs.List.{AllByRecursion, Contains, IsDistinct, count_by, filter, list_any, range_with_len}
use Rattle.std.specs.List.Sorted.{IsStrictlyIncreasing, IsStrictlySortedBy}
use Rattle.std.specs.Ordering.{nat_cmp}
use Rattle.addr_layout.specs.declared.model.LayBundle.{LayBundle}
use Rattle.addr_analyze.specs.Counting.{IsCounted, has_member}

-- ---- how often a number stands in a list

counted-more : (n x : ℕ) (xs : List ℕ) → count_by (nat_eq n) (x ∷ xs) ≡ cond (nat_eq n x) 1 0 + count_by (nat_eq n) xs
counted-more n x xs = sum_by-cons (λ y. cond (nat_eq n y) 1 0) x xs

none-counted : (n : ℕ) (xs : List ℕ) → AllByRecursion (λ y. nat_eq n y ≡ false) xs → count_by (nat_eq n) xs ≡ 0
none-counted n [] apart = refl
none-counted n (x ∷ xs) apart = first (count_by (nat_eq n) xs) (counted-more n x xs ∙ ap (λ t. cond t 1 0 + count_by (nat_eq n) xs) apart.0) (none-counted n xs apart.1)
  where
    first : (m : ℕ) → count_by (nat_eq n) (x ∷ xs) ≡ 0 + m → m ≡ 0 → count_by (nat_eq n) (x ∷ xs) ≡ 0
    first m is rest = omega (arith, is, rest)

counted-first : (n x : ℕ) (xs : List ℕ) (t : Bool) → nat_eq n x ≡ t → AllByRecursion (λ y. nat_eq x y ≡ false) xs → count_by (nat_eq n) xs ≡ cond (list_any (nat_eq n) xs) 1 0
    → count_by (nat_eq n) (x ∷ xs) ≡ cond (t || list_any (nat_eq n) xs) 1 0
counted-first n x xs true is apart rest =
    let same : n ≡ x = eqb-true n x is in
    let none : count_by (nat_eq n) xs ≡ 0 = ap (λ m. count_by (nat_eq m) xs) same ∙ none-counted x xs apart in
    counted-more n x xs ∙ (ap (λ t. cond t 1 0 + count_by (nat_eq n) xs) is ∙ ap (λ m. 1 + m) none)
counted-first n x xs false is apart rest =
    let none : 0 + count_by (nat_eq n) xs ≡ count_by (nat_eq n) xs = omega arith in
    counted-more n x xs ∙ (ap (λ t. cond t 1 0 + count_by (nat_eq n) xs) is ∙ (none ∙ rest))

pub once-counted : (n : ℕ) (xs : List ℕ) → IsDistinct nat_eq xs → count_by (nat_eq n) xs ≡ cond (list_any (nat_eq n) xs) 1 0
unfolding IsDistinct
once-counted n [] once = refl
once-counted n (x ∷ xs) once = counted-first n x xs (nat_eq n x) refl once.0 (once-counted n xs once.1)

-- ---- one number more

range-more : (n : ℕ) → range_with_len 0 (n + 1) ≡ range_with_len 0 n ++ n ∷ []
range-more n = sym (map-id (range_with_len 0 (n + 1))) ∙ (map-range_with_len_more (λ k. k) 0 n n (omega arith) ∙ ap (λ ks. ks ++ n ∷ []) (map-id (range_with_len 0 n)))

-- what a map makes of the numbers that pass a test
pub kept-more : {X : Type 0} (f : ℕ → X) (p : ℕ → Bool) (n : ℕ) (old new : List X) (t : Bool) → p n ≡ t → new ≡ cond t (old ++ f n ∷ []) old
    → old ≡ map f (filter p (range_with_len 0 n)) → new ≡ map f (filter p (range_with_len 0 (n + 1)))
kept-more {X} f p n old new t is grows before = grows ∙ by_test t is
  where
    more : filter p (range_with_len 0 (n + 1)) ≡ filter p (range_with_len 0 n) ++ cond (p n) (n ∷ []) []
    more = ap (filter p) (range-more n) ∙ filter-append p (range_with_len 0 n) (n ∷ [])

    by_test : (u : Bool) → p n ≡ u → cond u (old ++ f n ∷ []) old ≡ map f (filter p (range_with_len 0 (n + 1)))
    by_test true passes = ap (λ xs. xs ++ f n ∷ []) before ∙ (sym (map_push f (filter p (range_with_len 0 n)) n) ∙ sym (ap (map f) (more ∙ ap (λ b. filter p (range_with_len 0 n) ++ cond b (n ∷ []) []) passes)))
    by_test false fails = before ∙ sym (ap (map f) (more ∙ (ap (λ b. filter p (range_with_len 0 n) ++ cond b (n ∷ []) []) fails ∙ append-nil (filter p (range_with_len 0 n)))))

-- ---- one bundle more

pub counts-more : (bundles : List LayBundle) (k : ℕ) (lay : LayBundle) (old new : List ℕ) → k < length bundles → lay ≡ get_or bundles k lay → IsDistinct nat_eq lay.members
    → ((n : ℕ) → get_or old n 0 ≡ count_by (has_member n) (take k bundles)) → IsCounted old lay.members new → (n : ℕ) → get_or new n 0 ≡ count_by (has_member n) (take (k + 1) bundles)
counts-more bundles k lay old new within read once before counted n = by_test (has_member n lay) refl
  where
    total : get_or new n 0 ≡ count_by (has_member n) (take k bundles) + cond (has_member n lay) 1 0
    total = counted n ∙ (ap (λ m. m + count_by (nat_eq n) lay.members) (before n) ∙ ap (λ m. count_by (has_member n) (take k bundles) + m) (once-counted n lay.members once))

    by_test : (t : Bool) → has_member n lay ≡ t → get_or new n 0 ≡ count_by (has_member n) (take (k + 1) bundles)
    by_test true is =
        let more = count_by_more_yes (has_member n) bundles k lay within (ap (has_member n) (sym read) ∙ is) in
        total ∙ (ap (λ t. count_by (has_member n) (take k bundles) + cond t 1 0) is ∙ sym more)
    by_test false is =
        let more = count_by_more_no (has_member n) bundles k lay within (ap (has_member n) (sym read) ∙ is) in
        let none : count_by (has_member n) (take k bundles) + 0 ≡ count_by (has_member n) (take k bundles) = omega arith in
        total ∙ (ap (λ t. count_by (has_member n) (take k bundles) + cond t 1 0) is ∙ (none ∙ sym more))

-- ---- ascending numbers

pub rises-none : IsStrictlySortedBy nat_cmp []
unfolding IsStrictlySortedBy
rises-none = tt

pub rises-push : (xs : List ℕ) (n : ℕ) → IsStrictlySortedBy nat_cmp xs → ((x : ℕ) → Contains xs x → x < n) → IsStrictlySortedBy nat_cmp (xs ++ n ∷ [])
rises-push xs n rising below = sorted_from_strictly_increasing (xs ++ n ∷ []) (λ k within. by_place k (order k (omega (arith, length_push xs n))))
  where
    rises : IsStrictlyIncreasing xs
    rises = IsStrictlyIncreasing-from_sorted xs rising

    order : (k : ℕ) → k + 1 < length xs + 1 → (k + 1 < length xs) ⊎ (k + 1 ≡ length xs)
    order k within = by_order (cases_lt (k + 1) (length xs))
      where
        by_order : (k + 1 < length xs) ⊎ (length xs ≤ k + 1) → (k + 1 < length xs) ⊎ (k + 1 ≡ length xs)
        by_order (inl small) = inl small
        by_order (inr last) = inr (omega arith)

    by_place : (k : ℕ) → (k + 1 < length xs) ⊎ (k + 1 ≡ length xs) → get_or (xs ++ n ∷ []) k 0 < get_or (xs ++ n ∷ []) (k + 1) 0
    by_place k (inl small) =
        let less : k < length xs = omega arith in
        rw (get_or_append_left xs (n ∷ []) 0 k less, get_or_append_left xs (n ∷ []) 0 (k + 1) small) (rises k small)
    by_place k (inr last) =
        let small : k < length xs = omega arith in
        rw (get_or_append_left xs (n ∷ []) 0 k small, get_or_push xs n 0 (k + 1) (sym last)) (below (get_or xs k 0) (Contains-get_or xs k 0 small))

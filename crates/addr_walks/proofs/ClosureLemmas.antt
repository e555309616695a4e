-- Dependency lists: from what a search finds, their lengths, and that they have no repeat.
use Rattle.std.proofs.Common.{◌≡◌, ◌≢◌, ℕ, ◌+◌, ◌-◌, ◌*◌, ◌^◌, ◌<◌, ◌≤◌, ◌⊎◌, inl, inr, Bool, true, false, not, ◌==◌, nat_eq, List, [], ◌∷◌, ◌++◌, length, get_or, map, Some, refl, sym, ap, subst, ◌∙◌, arith}
use Rattle.std.proofs.lemmas.Bool.{false≢true, ne_eqb, not_from_false, cases_order}
use Rattle.std.proofs.lemmas.Bool.{cases_eq}
use Rattle.std.proofs.lemmas.Cmp.{nat_eq_equiv}
use Rattle.std.proofs.lemmas.List.{length-append, map-append}
use Rattle.std.proofs.lemmas.List.Elements.{recursion_from_All, Contains-get_or}
use Rattle.std.proofs.lemmas.List.Sums.{sum_by_push}
use Rattle.std.proofs.lemmas.Map.Keys.{IsDistinct-cons, apart_from_distinct}
use Rattle.std.proofs.lemmas.Map.Made.{length-from_same_keys}
use Rattle.std.proofs.lemmas.Map.Views.{length-le_from_below}
use Rattle.std.proofs.lemmas.Nat.{mul-le}
use Rattle.std.proofs.lemmas.Option.{slice_get_within, get_or_from_slice_get}
use Rattle.std.specs.List.{Contains, IsDistinct, filter, slice_get, sum}
use Rattle.std.specs.Ordering.{nat_cmp}
use Rattle.addr_walks.specs.Closure.{IsDeps, BeginsOnce, is_other}
use Rattle.addr_walks.specs.Once.{AreOnce}
use Rattle.addr_walks.specs.Places.{EachAt}
use Rattle.addr_walks.specs.Rows.{Edge, LedTo, AreBelow, IsSizeOf}
use Rattle.addr_walks.specs.Walks.{Leads, IsListOf}
use Rattle.addr_walks.specs.Walks.Leads.{stays}
use Rattle.addr_walks.proofs.FoundLemmas.{distinct-sorted, same-answers}
use Rattle.addr_walks.proofs.Lists.{Contains-here, Contains-later, Contains-none, Contains-cases, IsListOf-filter, IsListOf-same, EachAt-push}
use Rattle.addr_walks.proofs.Walking.{kept-along}

-- ---- the list of a search from one number

other-differs : (b c : ℕ) → is_other b c ≡ true → b ≢ c
other-differs b c other same = by_test (c == b) refl other
  where
    by_test : (t : Bool) → (c == b) ≡ t → not t ≡ true → ⊥
    by_test true is passes = false≢true passes
    by_test false is passes = false≢true (sym is ∙ (ap (λ d. d == b) (sym same) ∙ itself b))
      where
        itself : (n : ℕ) → (n == n) ≡ true
        itself n = nat_eq_equiv.refl n

differs-other : (b c : ℕ) → b ≢ c → is_other b c ≡ true
differs-other b c apart = not_from_false (c == b) (ne_eqb c b (λ same. apart (sym same)))

led-from-one : (rows : List (List ℕ)) (b c : ℕ) → LedTo rows (b ∷ []) c → Leads (Edge rows) b c
led-from-one rows b c (s, here, walk) = by_case (Contains-cases b [] s here)
  where
    by_case : (b ≡ s) ⊎ Contains [] s → Leads (Edge rows) b c
    by_case (inl same) = subst (λ x. Leads (Edge rows) x c) (sym same) walk
    by_case (inr none) = absurd (Contains-none s none)

one-leads : (rows : List (List ℕ)) (b c : ℕ) → Leads (Edge rows) b c → LedTo rows (b ∷ []) c
one-leads rows b c walk = (b, Contains-here b [], walk)

found-rest : (rows : List (List ℕ)) (b : ℕ) (found : List ℕ) → IsListOf nat_cmp (LedTo rows (b ∷ [])) found → IsListOf nat_cmp (λ c. (b ≢ c) × Leads (Edge rows) b c) (filter (is_other b) found)
found-rest rows b found list = IsListOf-same (λ c. (is_other b c ≡ true) × LedTo rows (b ∷ []) c) (λ c. (b ≢ c) × Leads (Edge rows) b c)
    (λ c (other, led). (other-differs b c other, led-from-one rows b c led))
    (λ c (apart, walk). (differs-other b c apart, one-leads rows b c walk))
    (filter (is_other b) found) (IsListOf-filter (LedTo rows (b ∷ [])) (is_other b) found list)

pub found-deps : (rows : List (List ℕ)) (b : ℕ) (found : List ℕ) → IsListOf nat_cmp (LedTo rows (b ∷ [])) found → IsDeps (Edge rows) b (b ∷ filter (is_other b) found)
found-deps rows b found list = (filter (is_other b) found, refl, found-rest rows b found list)

-- ---- no repeat

pub deps-distinct : (step : ℕ → ℕ → Type 0) (b : ℕ) (deps : List ℕ) → IsDeps step b deps → IsDistinct nat_eq deps
deps-distinct step b deps (rest, is, list) = subst (IsDistinct nat_eq) (sym is) (IsDistinct-cons nat_eq b rest
    (recursion_from_All (λ c. nat_eq b c ≡ false) rest (λ k d within. ne_eqb b (get_or rest k d) (list.within (get_or rest k d) (Contains-get_or rest k d within)).0))
    (distinct-sorted rest list.rising))

distinct-once : (xs : List ℕ) → IsDistinct nat_eq xs → AreOnce xs
distinct-once xs distinct i j x here there = by_order (cases_order i j)
  where
    apart : (m n : ℕ) → slice_get xs m ≡ Some x → slice_get xs n ≡ Some x → m < n → ⊥
    apart m n first second before =
        let differs = apart_from_distinct nat_eq xs m n 0 distinct before (slice_get_within xs n x second) in
        let same : get_or xs m 0 ≡ get_or xs n 0 = get_or_from_slice_get xs m x 0 first ∙ sym (get_or_from_slice_get xs n x 0 second) in
        false≢true (sym differs ∙ (ap (λ y. nat_eq (get_or xs m 0) y) (sym same) ∙ nat_eq_equiv.refl (get_or xs m 0)))

    by_order : (i ≡ j) ⊎ ((i < j) ⊎ (j < i)) → i ≡ j
    by_order (inl same) = same
    by_order (inr (inl before)) = absurd (apart i j here there before)
    by_order (inr (inr after)) = absurd (apart j i there here after)

pub deps-begin-once : (step : ℕ → ℕ → Type 0) (b : ℕ) (deps : List ℕ) → IsDeps step b deps → BeginsOnce b deps
deps-begin-once step b deps is-deps = (ap (λ xs. slice_get xs 0) is-deps.1, distinct-once deps (deps-distinct step b deps is-deps))

-- ---- lengths

led-below : (rows : List (List ℕ)) (b c : ℕ) → AreBelow rows (length rows) → b < length rows → LedTo rows (b ∷ []) c → c < length rows
led-below rows b c below within led = kept-along (Edge rows) (λ x. x < length rows) (λ x y here edge. below.each x y edge) b c within (led-from-one rows b c led)

-- as many as the search counts, and no more than there are rows
pub size-deps : (rows : List (List ℕ)) (b n : ℕ) → AreBelow rows (length rows) → b < length rows → IsSizeOf (LedTo rows (b ∷ [])) n → (n ≤ length rows) × ((deps : List ℕ) × IsDeps (Edge rows) b deps × (n ≡ length deps))
size-deps rows b n below within (found, list, is) = (few, (deps, deps-are, is ∙ same_length))
  where
    few : n ≤ length rows
    few = let small = length-le_from_below (length rows) found list.rising (λ k d inside. led-below rows b (get_or found k d) below within (list.within (get_or found k d) (Contains-get_or found k d inside))) in omega arith

    deps : List ℕ
    deps = b ∷ filter (is_other b) found

    deps-are : IsDeps (Edge rows) b deps
    deps-are = found-deps rows b found list

    into : (c : ℕ) → Contains found c → Contains deps c
    into c here = by_place (cases_eq b c)
      where
        by_place : (b ≡ c) ⊎ (b ≡ c → ⊥) → Contains deps c
        by_place (inl same) = subst (Contains deps) same (Contains-here b (filter (is_other b) found))
        by_place (inr apart) = Contains-later b (filter (is_other b) found) c ((found-rest rows b found list).all c (apart, led-from-one rows b c (list.within c here)))

    back : (c : ℕ) → Contains deps c → Contains found c
    back c here = by_case (Contains-cases b (filter (is_other b) found) c here)
      where
        by_case : (b ≡ c) ⊎ Contains (filter (is_other b) found) c → Contains found c
        by_case (inl same) = list.all c (one-leads rows b c (subst (Leads (Edge rows) b) same stays))
        by_case (inr later) = list.all c (one-leads rows b c ((found-rest rows b found list).within c later).1)

    same_length : length found ≡ length deps
    same_length = length-from_same_keys nat_eq_equiv found deps (distinct-sorted found list.rising) (deps-distinct (Edge rows) b deps deps-are) (same-answers found deps into back)

-- the dependency lists of the first rows, and the total of their lengths
pub record SumsTo (rows : List (List ℕ)) (n total : ℕ) : Type 0 where
  pub all : List (List ℕ)
  pub each : length all ≡ n
  pub deps : EachAt (IsDeps (Edge rows)) all
  pub is : total ≡ sum (map length all)

pub sums-more : (rows : List (List ℕ)) (n total : ℕ) (deps : List ℕ) (more : ℕ) → SumsTo rows n total → IsDeps (Edge rows) n deps → more ≡ length deps → SumsTo rows (n + 1) (total + more)
sums-more rows n total deps more sums is-deps is = record {
  all = sums.all ++ deps ∷ [];
  each = (let longer = length-append sums.all (deps ∷ []) in let old = sums.each in omega arith);
  deps = EachAt-push (IsDeps (Edge rows)) sums.all deps sums.deps (subst (λ b. IsDeps (Edge rows) b deps) (sym sums.each) is-deps);
  is =
      let pushed = sum_by_push (λ x. x) (map length sums.all) (length deps) in
      let mapped : sum (map length (sums.all ++ deps ∷ [])) ≡ sum (map length sums.all ++ length deps ∷ []) = ap sum (map-append length sums.all (deps ∷ [])) in
      let old = sums.is in
      omega arith;
}

pub small-square : (b n : ℕ) → b ≤ n → n < 2 ^ 32 → b * n < 2 ^ 64
small-square b n within few = let below = mul-le b n (2 ^ 32 - 1) (2 ^ 32 - 1) (omega arith) (omega arith) in omega arith

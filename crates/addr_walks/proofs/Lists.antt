-- Lists: what stands in them, what a filter keeps, and that a set has at most one ascending list.
use Rattle.std.proofs.Common.{◌≡◌, ℕ, zero, suc, ◌<◌, ◌⊎◌, inl, inr, Bool, true, false, cond, List, [], ◌∷◌, ◌++◌, length, get_or, map, Some, refl, sym, ap, subst, ◌∙◌, arith}
use Rattle.std.proofs.Common.{Less}
use Rattle.std.proofs.lemmas.Bool.{cases_order}
use Rattle.std.proofs.lemmas.Cmp.{tied_itself}
use Rattle.std.proofs.lemmas.List.Elements.{All-from_recursion, All-contains, recursion_from_All, Contains-get_or}
use Rattle.std.proofs.lemmas.List.Kept.{IsStrictlySortedBy-filter}
use Rattle.std.proofs.lemmas.Map.Keys.{sorted_head, sorted_tail, Less-from_sorted}
use Rattle.std.proofs.lemmas.Option.{slice_get-get_or, slice_get_within, get_or_from_slice_get}
use Rattle.std.specs.Cmp.{IsTotalOrder}
use Rattle.std.specs.List.{Contains, filter, slice_get}
use Rattle.std.specs.List.Sorted.{IsStrictlySortedBy}
use Rattle.std.specs.Ordering.{ordering_reverse}
use Rattle.std.specs.declared.cmp.Ordering.{Ordering}
use Rattle.addr_walks.specs.Once.{AreOnce}
use Rattle.addr_walks.specs.Places.{EachAt}
use Rattle.addr_walks.specs.Walks.{IsListOf}

-- ---- what stands in a list

pub Contains-here : {X : Type 0} (x : X) (xs : List X) → Contains (x ∷ xs) x
Contains-here x xs = (0, omega arith, refl)

pub Contains-later : {X : Type 0} (y : X) (xs : List X) (x : X) → Contains xs x → Contains (y ∷ xs) x
Contains-later y xs x (k, within, is) = (suc k, omega arith, is)

pub Contains-cases : {X : Type 0} (y : X) (xs : List X) (x : X) → Contains (y ∷ xs) x → (y ≡ x) ⊎ Contains xs x
Contains-cases y xs x (zero, within, is) = inl is
Contains-cases y xs x (suc k, within, is) = inr (k, omega arith, is)

pub Contains-none : {X : Type 0} (x : X) → Contains [] x → ⊥
Contains-none x (k, within, is) = omega arith

pub Contains-slice_get : {X : Type 0} (xs : List X) (k : ℕ) (x : X) → slice_get xs k ≡ Some x → Contains xs x
Contains-slice_get xs k x at = (k, slice_get_within xs k x at, get_or_from_slice_get xs k x x at)

pub slice_get-Contains : {X : Type 0} (xs : List X) (x : X) → Contains xs x → (k : ℕ) × (slice_get xs k ≡ Some x)
slice_get-Contains xs x (k, within, is) = (k, slice_get-get_or xs k x within ∙ ap Some is)

pub Contains-map : {X Y : Type 0} (f : X → Y) (xs : List X) (x : X) → Contains xs x → Contains (map f xs) (f x)
Contains-map f [] x h = absurd (Contains-none x h)
Contains-map f (y ∷ ys) x h = by_case (Contains-cases y ys x h) (λ later. Contains-map f ys x later)
  where
    by_case : (y ≡ x) ⊎ Contains ys x → (Contains ys x → Contains (map f ys) (f x)) → Contains (map f (y ∷ ys)) (f x)
    by_case (inl is) more = subst (λ z. Contains (map f (y ∷ ys)) (f z)) is (Contains-here (f y) (map f ys))
    by_case (inr later) more = Contains-later (f y) (map f ys) (f x) (more later)

pub map-Contains : {X Y : Type 0} (f : X → Y) (xs : List X) (y : Y) → Contains (map f xs) y → (x : X) × Contains xs x × (f x ≡ y)
map-Contains f [] y h = absurd (Contains-none y h)
map-Contains f (x ∷ xs) y h = by_case (Contains-cases (f x) (map f xs) y h) (λ later. map-Contains f xs y later)
  where
    by_case : (f x ≡ y) ⊎ Contains (map f xs) y → (Contains (map f xs) y → (z : _) × Contains xs z × (f z ≡ y)) → (z : _) × Contains (x ∷ xs) z × (f z ≡ y)
    by_case (inl is) more = (x, Contains-here x xs, is)
    by_case (inr later) more = let found = more later in (found.0, Contains-later x xs found.0 found.1, found.2)

-- ---- what a filter keeps

pub Contains-filter : {X : Type 0} (p : X → Bool) (xs : List X) (x : X) → Contains xs x → p x ≡ true → Contains (filter p xs) x
Contains-filter p [] x h passes = absurd (Contains-none x h)
Contains-filter p (y ∷ ys) x h passes = by_test (p y) refl (Contains-cases y ys x h) (λ later. Contains-filter p ys x later passes)
  where
    by_test : (t : Bool) → p y ≡ t → (y ≡ x) ⊎ Contains ys x → (Contains ys x → Contains (filter p ys) x) → Contains (cond t (y ∷ filter p ys) (filter p ys)) x
    by_test true is (inl same) more = subst (Contains (y ∷ filter p ys)) same (Contains-here y (filter p ys))
    by_test true is (inr later) more = Contains-later y (filter p ys) x (more later)
    by_test false is (inl same) more = absurd (cc (ap p same))
    by_test false is (inr later) more = more later

pub filter-Contains : {X : Type 0} (p : X → Bool) (xs : List X) (x : X) → Contains (filter p xs) x → Contains xs x × (p x ≡ true)
filter-Contains p [] x h = absurd (Contains-none x h)
filter-Contains p (y ∷ ys) x h = by_test (p y) refl h (λ later. filter-Contains p ys x later)
  where
    by_case : p y ≡ true → (y ≡ x) ⊎ Contains (filter p ys) x → (Contains (filter p ys) x → Contains ys x × (p x ≡ true)) → Contains (y ∷ ys) x × (p x ≡ true)
    by_case is (inl same) more = (subst (Contains (y ∷ ys)) same (Contains-here y ys), sym (ap p same) ∙ is)
    by_case is (inr later) more = let kept = more later in (Contains-later y ys x kept.0, kept.1)

    by_test : (t : Bool) → p y ≡ t → Contains (cond t (y ∷ filter p ys) (filter p ys)) x → (Contains (filter p ys) x → Contains ys x × (p x ≡ true)) → Contains (y ∷ ys) x × (p x ≡ true)
    by_test true is kept more = by_case is (Contains-cases y (filter p ys) x kept) more
    by_test false is kept more = let found = more kept in (Contains-later y ys x found.0, found.1)

-- ---- ascending lists

-- what stands behind the first element is above it
pub above-head : {X : Type 0} (cmp : X → X → Ordering) (x : X) (xs : List X) (y : X) → IsStrictlySortedBy cmp (x ∷ xs) → Contains xs y → cmp x y ≡ Less
above-head cmp x xs y rising h = All-contains (λ z. cmp x z ≡ Less) xs y (All-from_recursion (λ z. cmp x z ≡ Less) xs (sorted_head cmp x xs rising)) h

-- two ascending lists that hold the same are the same
pub same-sorted : {X : Type 0} {cmp : X → X → Ordering} → IsTotalOrder cmp → (xs ys : List X) → IsStrictlySortedBy cmp xs → IsStrictlySortedBy cmp ys
    → ((z : X) → Contains xs z → Contains ys z) → ((z : X) → Contains ys z → Contains xs z) → xs ≡ ys
same-sorted o [] [] up down to from = refl
same-sorted o [] (y ∷ ys) up down to from = absurd (Contains-none y (from y (Contains-here y ys)))
same-sorted o (x ∷ xs) [] up down to from = absurd (Contains-none x (to x (Contains-here x xs)))
same-sorted {X} {cmp} o (x ∷ xs) (y ∷ ys) up down to from =
    let same = heads (Contains-cases y ys x (to x (Contains-here x xs))) (Contains-cases x xs y (from y (Contains-here y ys))) in
    joined same (same-sorted o xs ys (sorted_tail cmp x xs up) (sorted_tail cmp y ys down)
    (λ z h. tail x xs y ys same up h (Contains-cases y ys z (to z (Contains-later x xs z h))))
    (λ z h. tail y ys x xs (sym same) down h (Contains-cases x xs z (from z (Contains-later y ys z h)))))
  where
    heads : (y ≡ x) ⊎ Contains ys x → (x ≡ y) ⊎ Contains xs y → x ≡ y
    heads (inl is) other = sym is
    heads (inr later) (inl is) = is
    heads (inr later) (inr behind) =
        let below = above-head cmp y ys x down later in
        let above = above-head cmp x xs y up behind in
        absurd (cc (o.antisymm x y, ap ordering_reverse below, above))

    tail : {z : X} (a : X) (as' : List X) (b : X) (bs : List X) → a ≡ b → IsStrictlySortedBy cmp (a ∷ as') → Contains as' z → (b ≡ z) ⊎ Contains bs z → Contains bs z
    tail {z} a as' b bs same rising h (inl is) =
        let itself : cmp a a ≡ Less = subst (λ w. cmp a w ≡ Less) (sym (same ∙ is)) (above-head cmp a as' z rising h) in
        absurd (cc (itself, tied_itself o a))
    tail a as' b bs same rising h (inr later) = later

    joined : x ≡ y → xs ≡ ys → x ∷ xs ≡ y ∷ ys
    joined e f = cc

-- two sets that have the same elements have the same list
pub same-list : {X : Type 0} {cmp : X → X → Ordering} → IsTotalOrder cmp → (set other : X → Type 0) → ((x : X) → set x → other x) → ((x : X) → other x → set x)
    → (xs ys : List X) → IsListOf cmp set xs → IsListOf cmp other ys → xs ≡ ys
same-list o set other to from xs ys here there =
    same-sorted o xs ys here.rising there.rising (λ z h. there.all z (to z (here.within z h))) (λ z h. here.all z (from z (there.within z h)))

pub one-list : {X : Type 0} {cmp : X → X → Ordering} → IsTotalOrder cmp → (set : X → Type 0) → (xs ys : List X) → IsListOf cmp set xs → IsListOf cmp set ys → xs ≡ ys
one-list o set = same-list o set set (λ x h. h) (λ x h. h)

-- a list of a set is one of each other saying of the set
pub IsListOf-same : {X : Type 0} {cmp : X → X → Ordering} (set other : X → Type 0) → ((x : X) → set x → other x) → ((x : X) → other x → set x) → (xs : List X) → IsListOf cmp set xs → IsListOf cmp other xs
IsListOf-same set other to from xs h = record { rising = h.rising; within = λ x here. to x (h.within x here); all = λ x is. h.all x (from x is) }

-- a filter leaves the list of those that pass
pub IsListOf-filter : {X : Type 0} {cmp : X → X → Ordering} (set : X → Type 0) (p : X → Bool) (xs : List X) → IsListOf cmp set xs → IsListOf cmp (λ x. (p x ≡ true) × set x) (filter p xs)
IsListOf-filter {X} {cmp} set p xs h = record {
  rising = IsStrictlySortedBy-filter cmp p xs h.rising;
  within = λ x here. (let kept = filter-Contains p xs x here in (kept.1, h.within x kept.0));
  all = λ x is. Contains-filter p xs x (h.all x is.1) is.0;
}

-- ---- places

pub slice_get-push_cases : {X : Type 0} (xs : List X) (x : X) (k : ℕ) (y : X) → slice_get (xs ++ x ∷ []) k ≡ Some y → (slice_get xs k ≡ Some y) ⊎ ((k ≡ length xs) × (x ≡ y))
slice_get-push_cases [] x zero y at = inr (refl, cc at)
slice_get-push_cases [] x (suc k) y at = absurd (cc at)
slice_get-push_cases (z ∷ zs) x zero y at = inl at
slice_get-push_cases (z ∷ zs) x (suc k) y at = further (slice_get-push_cases zs x k y at)
  where
    further : (slice_get zs k ≡ Some y) ⊎ ((k ≡ length zs) × (x ≡ y)) → (slice_get zs k ≡ Some y) ⊎ ((suc k ≡ suc (length zs)) × (x ≡ y))
    further (inl there) = inl there
    further (inr (last, same)) = inr (ap suc last, same)

pub slice_get-append_left : {X : Type 0} (xs ys : List X) (k : ℕ) (x : X) → slice_get xs k ≡ Some x → slice_get (xs ++ ys) k ≡ Some x
slice_get-append_left [] ys k x at = absurd (cc at)
slice_get-append_left (z ∷ zs) ys zero x at = at
slice_get-append_left (z ∷ zs) ys (suc k) x at = slice_get-append_left zs ys k x at

pub slice_get-push_last : {X : Type 0} (xs : List X) (x : X) → slice_get (xs ++ x ∷ []) (length xs) ≡ Some x
slice_get-push_last [] x = refl
slice_get-push_last (z ∷ zs) x = slice_get-push_last zs x

-- one more element that is as its place wants it
pub EachAt-push : {X : Type 0} (fits : ℕ → X → Type 0) (xs : List X) (x : X) → EachAt fits xs → fits (length xs) x → EachAt fits (xs ++ x ∷ [])
EachAt-push {X} fits xs x each last k y at = by_case (slice_get-push_cases xs x k y at)
  where
    by_case : (slice_get xs k ≡ Some y) ⊎ ((k ≡ length xs) × (x ≡ y)) → fits k y
    by_case (inl there) = each k y there
    by_case (inr (is, same)) = subst (λ i. fits i y) (sym is) (subst (fits (length xs)) same last)

pub EachAt-none : {X : Type 0} (fits : ℕ → X → Type 0) → EachAt fits []
EachAt-none fits k x at = absurd (cc at)

pub EachAt-same : {X : Type 0} (fits other : ℕ → X → Type 0) (xs : List X) → ((k : ℕ) (x : X) → fits k x → other k x) → EachAt fits xs → EachAt other xs
EachAt-same fits other xs takes each k x at = takes k x (each k x at)

-- an ascending list has nothing at two places
pub sorted-once : {X : Type 0} {cmp : X → X → Ordering} → IsTotalOrder cmp → (xs : List X) → IsStrictlySortedBy cmp xs → AreOnce xs
sorted-once {X} {cmp} o xs rising i j x here there = by_order (cases_order i j)
  where
    apart : (m n : ℕ) → slice_get xs m ≡ Some x → slice_get xs n ≡ Some x → m < n → ⊥
    apart m n first second before =
        let less = Less-from_sorted cmp xs m n x rising before (slice_get_within xs n x second) in
        cc (sym less ∙ (ap (λ y. cmp y (get_or xs n x)) (get_or_from_slice_get xs m x x first) ∙ (ap (cmp x) (get_or_from_slice_get xs n x x second) ∙ tied_itself o x)))

    by_order : (i ≡ j) ⊎ ((i < j) ⊎ (j < i)) → i ≡ j
    by_order (inl same) = same
    by_order (inr (inl before)) = absurd (apart i j here there before)
    by_order (inr (inr after)) = absurd (apart j i there here after)

-- a map that keeps what is below another keeps the order
pub sorted-map : {X Y : Type 0} (cmp : X → X → Ordering) (other : Y → Y → Ordering) (f : X → Y) (xs : List X) → ((x y : X) → Contains xs x → Contains xs y → cmp x y ≡ Less → other (f x) (f y) ≡ Less)
    → IsStrictlySortedBy cmp xs → IsStrictlySortedBy other (map f xs)
unfolding IsStrictlySortedBy
sorted-map cmp other f [] keeps rising = tt
sorted-map {X} {Y} cmp other f (x ∷ xs) keeps rising = (
  recursion_from_All (λ y. other (f x) y ≡ Less) (map f xs) (λ k d within. above (get_or (map f xs) k d) (Contains-get_or (map f xs) k d within)),
  sorted-map cmp other f xs (λ y z here there. keeps y z (Contains-later x xs y here) (Contains-later x xs z there)) rising.1,
)
  where
    above : (y : Y) → Contains (map f xs) y → other (f x) y ≡ Less
    above y here =
        let from = map-Contains f xs y here in
        subst (λ z. other (f x) z ≡ Less) from.2 (keeps x from.0 (Contains-here x xs) (Contains-later x xs from.0 from.1)
        (All-contains (λ z. cmp x z ≡ Less) xs from.0 (All-from_recursion (λ z. cmp x z ≡ Less) xs rising.0) from.1))

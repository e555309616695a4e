-- A walk that finds the first repeat of a list by a map of what came before it: for the tests of keys and dependencies.
use Rattle.std.proofs.Common.{◌≡◌, ◌==◌, ℕ, ◌+◌, ◌&&◌, ◌||◌, not, Bool, true, false, cond, List, [], ◌∷◌, ◌++◌, take, drop, Some, BTreeMap, is_some, refl, sym, ap, ◌∙◌, arith, nat_cmp}
use Rattle.std.proofs.lemmas.Bool.Decides.{nat_tests}
use Rattle.std.proofs.lemmas.List.{take-append-drop}
use Rattle.std.proofs.lemmas.List.Folds.{list_any-append}
use Rattle.std.specs.BTreeMap.{get, Updates, is_at}
use Rattle.std.specs.List.{list_any}
use Rattle.std.specs.Str.{bytes_eq}
use Rattle.addr_base.specs.declared.ids.BundleNo.{BundleNo}
use Rattle.addr_locate.specs.Rows.{no_repeats, no_text_twice}
use Rattle.addr_locate.proofs.NumberLemmas.{bytes_eq-sym}

-- a test of lists that says that no element stands twice
record TestsOnce {A : Type 0} (same : A → A → Bool) (once : List A → Bool) : Type 0 where
  turn : (a b : A) → same a b ≡ same b a
  none : once [] ≡ true
  more : (x : A) (xs : List A) → once (x ∷ xs) ≡ (not (list_any (λ u. same u x) xs) && once xs)

push_table : (a b e n : Bool) → (not (a || (e || false)) && (n && not b)) ≡ ((not a && n) && not (e || b))
push_table true b e n = refl
push_table false true true true = refl
push_table false true true false = refl
push_table false true false true = refl
push_table false true false false = refl
push_table false false true true = refl
push_table false false true false = refl
push_table false false false true = refl
push_table false false false false = refl

once-push : {A : Type 0} (same : A → A → Bool) (once : List A → Bool) → TestsOnce same once → (xs : List A) (x : A) → once (xs ++ x ∷ []) ≡ (once xs && not (list_any (λ u. same u x) xs))
once-push same once tests [] x = rw (tests.more x [], tests.none) refl
once-push same once tests (y ∷ xs) x =
    let rest = once-push same once tests xs x in
    let here = list_any-append (λ u. same u y) xs (x ∷ []) in
    rw (tests.more y (xs ++ x ∷ []), tests.more y xs, rest, here, tests.turn x y) (push_table (list_any (λ u. same u y) xs) (list_any (λ u. same u x) xs) (same y x) (once xs))

prefix_table : (a b n m : Bool) → (n ≡ false → m ≡ false) → (not a && n) ≡ false → (not (a || b) && m) ≡ false
prefix_table true b n m step e = refl
prefix_table false true n m step e = refl
prefix_table false false n m step e = step e

once-prefix : {A : Type 0} (same : A → A → Bool) (once : List A → Bool) → TestsOnce same once → (xs ys : List A) → once xs ≡ false → once (xs ++ ys) ≡ false
once-prefix same once tests [] ys e = let clash : true ≡ false = sym tests.none ∙ e in cc
once-prefix same once tests (x ∷ xs) ys e =
    let rest = once-prefix same once tests xs ys in
    let here = list_any-append (λ u. same u x) xs ys in
    rw (tests.more x (xs ++ ys), here) (prefix_table (list_any (λ u. same u x) xs) (list_any (λ u. same u x) ys) (once xs) (once (xs ++ ys)) rest (rw (tests.more x xs) at e))

-- the steps of the walk
and_false : (b : Bool) → (b && false) ≡ false
and_false true = refl
and_false false = refl

once_more : {A : Type 0} (same : A → A → Bool) (once : List A → Bool) → TestsOnce same once → (xs before : List A) (x : A) → xs ≡ before ++ x ∷ [] → once before ≡ true → list_any (λ u. same u x) before ≡ false → once xs ≡ true
once_more same once tests xs before x more so_far new = rw (more, once-push same once tests before x, so_far, new) refl

once_found : {A : Type 0} (same : A → A → Bool) (once : List A → Bool) → TestsOnce same once → (xs before : List A) (i : ℕ) (x : A) → take (i + 1) xs ≡ before ++ x ∷ [] → list_any (λ u. same u x) before ≡ true → false ≡ once xs
once_found same once tests xs before i x more there =
    let broken : once (take (i + 1) xs) ≡ false = rw (more, once-push same once tests before x, there) (and_false (once before)) in
    sym (ap once (sym (take-append-drop (i + 1) xs)) ∙ once-prefix same once tests (take (i + 1) xs) (drop (i + 1) xs) broken)

-- dependencies: the map has the numbers that came before
repeats-tests : TestsOnce (λ (u b : BundleNo). u.0 == b.0) no_repeats
repeats-tests = record { turn = λ a b. grind (arith, nat_tests); none = refl; more = λ x xs. refl }

pub number_more : (deps before : List BundleNo) (b : BundleNo) → deps ≡ before ++ b ∷ [] → no_repeats before ≡ true → list_any (λ u. u.0 == b.0) before ≡ false → no_repeats deps ≡ true
number_more = once_more (λ (u b : BundleNo). u.0 == b.0) no_repeats repeats-tests

pub number_found : (deps before : List BundleNo) (i : ℕ) (b : BundleNo) → take (i + 1) deps ≡ before ++ b ∷ [] → list_any (λ u. u.0 == b.0) before ≡ true → false ≡ no_repeats deps
number_found = once_found (λ (u b : BundleNo). u.0 == b.0) no_repeats repeats-tests

at_number : (a q : ℕ) → is_at (nat_cmp a) q ≡ (a == q)
at_number a q = grind (arith, nat_tests)

or_false : (b : Bool) → b ≡ (b || false)
or_false true = refl
or_false false = refl

or_true : (b : Bool) → true ≡ (b || true)
or_true true = refl
or_true false = refl

pub numbers_more : {X : Type 0} (before : List BundleNo) (b : BundleNo) (x : X) (m n : BTreeMap ℕ X) → ((k : ℕ) → is_some (get nat_cmp m k) ≡ list_any (λ c. c.0 == k) before)
    → Updates nat_cmp m n b.0 (Some x) → (k : ℕ) → is_some (get nat_cmp n k) ≡ list_any (λ c. c.0 == k) (before ++ b ∷ [])
numbers_more {X} before b x m n holds updates k = ap is_some (updates.0 k ∙ ap (λ t. cond t (Some x) (get nat_cmp m k)) (at_number b.0 k)) ∙ by_test (b.0 == k) refl ∙ sym (list_any-append (λ c. c.0 == k) before (b ∷ []))
  where
    by_test : (t : Bool) → (b.0 == k) ≡ t → is_some (cond (b.0 == k) (Some x) (get nat_cmp m k)) ≡ (list_any (λ c. c.0 == k) before || ((b.0 == k) || false))
    by_test true same = rw same (or_true (list_any (λ c. c.0 == k) before))
    by_test false other = rw other (holds k ∙ or_false (list_any (λ c. c.0 == k) before))

-- keys
texts-tests : TestsOnce (λ u t. bytes_eq u t) no_text_twice
texts-tests = record { turn = bytes_eq-sym; none = refl; more = λ x xs. refl }

pub text_more : (keys before : List (List ℕ)) (t : List ℕ) → keys ≡ before ++ t ∷ [] → no_text_twice before ≡ true → list_any (λ u. bytes_eq u t) before ≡ false → no_text_twice keys ≡ true
text_more = once_more (λ u t. bytes_eq u t) no_text_twice texts-tests

pub text_found : (keys before : List (List ℕ)) (i : ℕ) (t : List ℕ) → take (i + 1) keys ≡ before ++ t ∷ [] → list_any (λ u. bytes_eq u t) before ≡ true → false ≡ no_text_twice keys
text_found = once_found (λ u t. bytes_eq u t) no_text_twice texts-tests

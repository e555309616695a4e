-- First rows in a loop: what one more row adds, that a first row of the front is the first row of all, and what a first row is.
use Rattle.std.proofs.Common.{◌≡◌, ℕ, suc, ◌+◌, ◌<◌, Bool, true, false, cond, List, [], ◌∷◌, ◌++◌, length, get_or, take, drop, Option, Some, None, refl, sym, ap, subst, ◌∙◌, arith, append_assoc, take-append-drop, length-append}
use Rattle.std.proofs.lemmas.List.{append-nil, take_more, length-take-le}
use Rattle.std.specs.Option.{option_or}
use Rattle.addr_project_rows.specs.Firsts.{first_from, first_where, number_if}

option_or-assoc : {A : Type 0} (a b c : Option A) → option_or (option_or a b) c ≡ option_or a (option_or b c)
option_or-assoc None b c = refl
option_or-assoc (Some x) b c = refl

pub option_or-none : {A : Type 0} (a : Option A) → option_or a None ≡ a
option_or-none None = refl
option_or-none (Some x) = refl

module _ {A B : Type 0} (answer : List A → A → Option B) where
  pub first_from-append : (before xs ys : List A) → first_from answer before (xs ++ ys) ≡ option_or (first_from answer before xs) (first_from answer (before ++ xs) ys)
  unfolding first_from
  first_from-append before [] ys = ap (λ (b : List A). first_from answer b ys) (sym (append-nil before))
  first_from-append before (x ∷ xs) ys =
      ap (option_or (answer before x)) (first_from-append (before ++ x ∷ []) xs ys ∙ ap (λ (b : List A). option_or (first_from answer (before ++ x ∷ []) xs) (first_from answer b ys)) (append_assoc before (x ∷ []) xs))
      ∙ sym (option_or-assoc (answer before x) (first_from answer (before ++ x ∷ []) xs) (first_from answer (before ++ (x ∷ xs)) ys))

  pub first_from-one : (before : List A) (x : A) → first_from answer before (x ∷ []) ≡ answer before x
  unfolding first_from
  first_from-one before x = option_or-none (answer before x)

  -- one more row
  pub first_from-more : (xs : List A) (i : ℕ) (d : A) → i < length xs → first_from answer [] (take (i + 1) xs) ≡ option_or (first_from answer [] (take i xs)) (answer (take i xs) (get_or xs i d))
  first_from-more xs i d small =
      ap (first_from answer []) (take_more xs i d small)
      ∙ first_from-append [] (take i xs) (get_or xs i d ∷ [])
      ∙ ap (option_or (first_from answer [] (take i xs))) (first_from-one (take i xs) (get_or xs i d))

  -- a first answer of the front is the first of all
  pub first_from-front : (xs : List A) (n : ℕ) (b : B) → first_from answer [] (take n xs) ≡ Some b → first_from answer [] xs ≡ Some b
  first_from-front xs n b found =
      ap (first_from answer []) (sym (take-append-drop n xs))
      ∙ first_from-append [] (take n xs) (drop n xs)
      ∙ ap (λ o. option_or o (first_from answer (take n xs) (drop n xs))) found

  pub first_from-found : (xs : List A) (i : ℕ) (d : A) (b : B) → i < length xs → first_from answer [] (take i xs) ≡ None → answer (take i xs) (get_or xs i d) ≡ Some b → first_from answer [] xs ≡ Some b
  first_from-found xs i d b small none here =
      first_from-front xs (i + 1) b (first_from-more xs i d small ∙ ap (λ o. option_or o (answer (take i xs) (get_or xs i d))) none ∙ here)

  pub first_from-pass : (xs : List A) (i : ℕ) (d : A) → i < length xs → first_from answer [] (take i xs) ≡ None → answer (take i xs) (get_or xs i d) ≡ None → first_from answer [] (take (i + 1) xs) ≡ None
  first_from-pass xs i d small none here = first_from-more xs i d small ∙ ap (λ o. option_or o (answer (take i xs) (get_or xs i d))) none ∙ here

  pub first_from-none : first_from answer [] [] ≡ None
  unfolding first_from
  first_from-none = refl

module _ {A : Type 0} (test : List A → A → Bool) where
  pub first_where-pass : (xs : List A) (i : ℕ) (d : A) → i < length xs → first_where test (take i xs) ≡ None → test (take i xs) (get_or xs i d) ≡ false → first_where test (take (i + 1) xs) ≡ None
  first_where-pass xs i d small none here = first_from-pass (number_if test) xs i d small none (ap (λ b. cond b (Some (length (take i xs))) None) here)

  pub first_where-found : (xs : List A) (i : ℕ) (d : A) → i < length xs → first_where test (take i xs) ≡ None → test (take i xs) (get_or xs i d) ≡ true → first_where test xs ≡ Some i
  first_where-found xs i d small none here =
      let len : length (take i xs) ≡ i = length-take-le i xs (omega arith) in
      first_from-found (number_if test) xs i d i small none (ap (λ b. cond b (Some (length (take i xs))) None) here ∙ ap Some len)

-- a row is the first that passes a test
pub record IsFirst {A : Type 0} (test : List A → A → Bool) (before xs : List A) (k : ℕ) : Type 0 where
  pub small : k < length xs
  pub none : first_from (number_if test) before (take k xs) ≡ None
  pub passes : (d : A) → test (before ++ take k xs) (get_or xs k d) ≡ true

module _ {A : Type 0} (test : List A → A → Bool) where
  first-here : (before : List A) (x : A) (xs : List A) → test before x ≡ true → IsFirst test before (x ∷ xs) 0
  unfolding first_from
  first-here before x xs is = record {
    small = omega arith;
    none = refl;
    passes = λ d. ap (λ b. test b x) (append-nil before) ∙ is;
  }

  first-later : (before : List A) (x : A) (xs : List A) (k : ℕ) → test before x ≡ false → IsFirst test (before ++ x ∷ []) xs k → IsFirst test before (x ∷ xs) (suc k)
  unfolding first_from
  first-later before x xs k fails later = record {
    small = omega (arith, later.small);
    none = ap (λ b. option_or (cond b (Some (length before)) None) (first_from (number_if test) (before ++ x ∷ []) (take k xs))) fails ∙ later.none;
    passes = λ d. ap (λ b. test b (get_or xs k d)) (sym (append_assoc before (x ∷ []) (take k xs))) ∙ later.passes d;
  }

  first-step : (before : List A) (x : A) (xs : List A) (n : ℕ)
      → ((m : ℕ) → first_from (number_if test) (before ++ x ∷ []) xs ≡ Some m → (k : ℕ) × (m ≡ length (before ++ x ∷ []) + k) × IsFirst test (before ++ x ∷ []) xs k)
      → (t : Bool) → test before x ≡ t → first_from (number_if test) before (x ∷ xs) ≡ Some n → (k : ℕ) × (n ≡ length before + k) × IsFirst test before (x ∷ xs) k
  unfolding first_from
  first-step before x xs n later true is found =
      let here : Some (length before) ≡ Some n = sym (ap (λ b. option_or (cond b (Some (length before)) None) (first_from (number_if test) (before ++ x ∷ []) xs)) is) ∙ found in
      let same : length before ≡ n = cc in
      (0, omega (arith, same), first-here before x xs is)
  first-step before x xs n later false is found =
      let (k, place, first) = later n (sym (ap (λ b. option_or (cond b (Some (length before)) None) (first_from (number_if test) (before ++ x ∷ []) xs)) is) ∙ found) in
      let long : length (before ++ x ∷ []) ≡ length before + 1 = length-append before (x ∷ []) in
      (suc k, omega (arith, place, long), first-later before x xs k is first)

  first_from-is : (before xs : List A) (n : ℕ) → first_from (number_if test) before xs ≡ Some n → (k : ℕ) × (n ≡ length before + k) × IsFirst test before xs k
  unfolding first_from
  first_from-is before [] n is = absurd (cc)
  first_from-is before (x ∷ xs) n is = first-step before x xs n (first_from-is (before ++ x ∷ []) xs) (test before x) refl is

  -- the first row that the test finds passes it, and none before it does
  pub first_where-is : (xs : List A) (n : ℕ) → first_where test xs ≡ Some n → IsFirst test [] xs n
  first_where-is xs n is =
      let (k, place, first) = first_from-is [] xs n is in
      let same : k ≡ n = omega (arith, place) in
      subst (IsFirst test [] xs) same first

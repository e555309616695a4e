-- Keys of which none is repeated stand once, and what is among keys has a place among them.
use Rattle.std.proofs.Common.{◌≡◌, ℕ, zero, suc, ◌+◌, ◌<◌, Bool, true, false, ◌||◌, cond, List, [], ◌∷◌, ◌++◌, length, take, map, Option, Some, None, inl, inr, refl, sym, ap, ◌∙◌, arith, append_assoc, length-append}
use Rattle.std.proofs.lemmas.Bool.{false≢true, cases_order}
use Rattle.std.proofs.lemmas.List.{append-nil}
use Rattle.std.proofs.lemmas.Option.{slice_get_within, slice_get_read, get_or_from_slice_get}
use Rattle.std.specs.Cmp.Lexicographic.{bytes_decides}
use Rattle.std.specs.List.{list_any, slice_get, Contains}
use Rattle.std.specs.Option.{option_or, is_some, unwrap_or}
use Rattle.std.specs.Str.{bytes_eq}
use Rattle.addr_walks.specs.Once.{AreOnce}
use Rattle.addr_project_rows.specs.Firsts.{first_from, first_repeat, is_among, number_if, place_of}
use Rattle.addr_project.specs.Reading.{place}
use Rattle.addr_project_rows.proofs.KeyLemmas.{among_place}

pub none-parts : {A : Type 0} (a b : Option A) → option_or a b ≡ None → (a ≡ None) × (b ≡ None)
none-parts None b is = (refl, is)
none-parts (Some x) b is = absurd (cc)

no_number : (t : Bool) (n : ℕ) → cond t (Some n) None ≡ None → t ≡ false
no_number true n is = absurd (cc)
no_number false n is = refl

or_later : (a b : Bool) → b ≡ true → (a || b) ≡ true
or_later true b is = refl
or_later false b is = is

-- a key at a place is among the keys up to any later place
among_front : (keys : List (List ℕ)) (i j : ℕ) (key : List ℕ) → i < j → slice_get keys i ≡ Some key → is_among (take j keys) key ≡ true
among_front [] i j key below at = absurd (cc)
among_front (k ∷ keys) zero zero key below at = absurd (omega arith)
among_front (k ∷ keys) zero (suc j) key below at =
    let same : k ≡ key = cc in
    ap (λ (b : Bool). b || is_among (take j keys) key) ((bytes_decides k key).1 same)
among_front (k ∷ keys) (suc i) zero key below at = absurd (omega arith)
among_front (k ∷ keys) (suc i) (suc j) key below at =
    let small : i < j = omega arith in
    or_later (bytes_eq k key) (is_among (take j keys) key) (among_front keys i j key small at)

-- a key at a place is none of those before it, where no key repeats an earlier one
later_new : (before keys : List (List ℕ)) (j : ℕ) (key : List ℕ) → first_from (number_if is_among) before keys ≡ None → slice_get keys j ≡ Some key → is_among (before ++ take j keys) key ≡ false
unfolding first_from
later_new before [] j key none at = absurd (cc)
later_new before (k ∷ keys) zero key none at =
    let same : k ≡ key = cc in
    let parts = none-parts _ _ none in
    ap (λ (b : List (List ℕ)). is_among b key) (append-nil before) ∙ ap (is_among before) (sym same) ∙ no_number (is_among before k) (length before) parts.0
later_new before (k ∷ keys) (suc j) key none at =
    let parts = none-parts _ _ none in
    ap (λ (b : List (List ℕ)). is_among b key) (sym (append_assoc before (k ∷ []) (take j keys))) ∙ later_new (before ++ k ∷ []) keys j key parts.1 at

pub once_from : (keys : List (List ℕ)) → first_repeat keys ≡ None → AreOnce keys
once_from keys none i j key at_i at_j =
    elim (cases_order i j) [
      | inl same ↦ same
      | inr (inl below) ↦ absurd (false≢true (sym (later_new [] keys j key none at_j) ∙ among_front keys i j key below at_i))
      | inr (inr above) ↦ absurd (false≢true (sym (later_new [] keys i key none at_i) ∙ among_front keys j i key above at_j))
    ]

found_at : (test : List ℕ → Bool) (before keys : List (List ℕ)) (n : ℕ) → first_from (number_if (λ b k. test k)) before keys ≡ Some n
    → (m : ℕ) × (k : List ℕ) × (n ≡ length before + m) × (slice_get keys m ≡ Some k) × (test k ≡ true)
unfolding first_from
found_at test before [] n is = absurd (cc)
found_at test before (k ∷ keys) n is = by_test (test k) refl (found_at test (before ++ k ∷ []) keys n)
  where
    rest : Option ℕ
    rest = first_from (number_if (λ b x. test x)) (before ++ k ∷ []) keys

    by_test : (t : Bool) → test k ≡ t → (rest ≡ Some n → (m : ℕ) × (x : List ℕ) × (n ≡ length (before ++ k ∷ []) + m) × (slice_get keys m ≡ Some x) × (test x ≡ true))
        → (m : ℕ) × (x : List ℕ) × (n ≡ length before + m) × (slice_get (k ∷ keys) m ≡ Some x) × (test x ≡ true)
    by_test true equal later =
        let found : Some (length before) ≡ Some n = sym (ap (λ (b : Bool). option_or (cond b (Some (length before)) None) rest) equal) ∙ is in
        let same : length before ≡ n = cc in
        (0, k, omega arith, refl, equal)
    by_test false other later =
        let found = later (sym (ap (λ (b : Bool). option_or (cond b (Some (length before)) None) rest) other) ∙ is) in
        let long = length-append before (k ∷ []) in
        (suc found.0, found.1, omega (arith, found.2, long), found.3, found.4)

-- a key that is among the keys stands at its place
pub known_at : (keys : List (List ℕ)) (key : List ℕ) → is_among keys key ≡ true → slice_get keys (place keys key) ≡ Some key
known_at keys key known = by_place (place_of keys key) refl
  where
    by_place : (o : Option ℕ) → place_of keys key ≡ o → slice_get keys (place keys key) ≡ Some key
    by_place None is = absurd (false≢true (sym (among_place keys key ∙ ap is_some is) ∙ known))
    by_place (Some n) is =
        let (m, k, number, at, equal) = found_at (λ x. bytes_eq x key) [] keys n is in
        let same : k ≡ key = (bytes_decides k key).0 equal in
        let first : n ≡ m = omega arith in
        let here : place keys key ≡ m = ap (λ (o : Option ℕ). unwrap_or o 0) is ∙ first in
        ap (slice_get keys) here ∙ at ∙ ap Some same

pub known_place : (keys : List (List ℕ)) (key : List ℕ) → is_among keys key ≡ true → place keys key < length keys
known_place keys key known = slice_get_within keys (place keys key) key (known_at keys key known)

-- an element of a mapped list is that of an element
pub from_map : {X Y : Type 0} (f : X → Y) (xs : List X) (i : ℕ) (y : Y) → slice_get (map f xs) i ≡ Some y → (x : X) × (slice_get xs i ≡ Some x) × (f x ≡ y)
from_map f [] i y at = absurd (cc)
from_map f (x ∷ xs) zero y at = (x, refl, cc)
from_map f (x ∷ xs) (suc i) y at = from_map f xs i y at

pub to_map : {X Y : Type 0} (f : X → Y) (xs : List X) (i : ℕ) (x : X) → slice_get xs i ≡ Some x → slice_get (map f xs) i ≡ Some (f x)
to_map f [] i x at = absurd (cc)
to_map f (k ∷ xs) zero x at = let same : k ≡ x = cc in ap (λ (k : _). Some (f k)) same
to_map f (k ∷ xs) (suc i) x at = to_map f xs i x at

pub get_contained : {X : Type 0} (xs : List X) (x : X) → Contains xs x → (i : ℕ) × (slice_get xs i ≡ Some x)
get_contained xs x (i, small, at) = (i, slice_get_read xs (length xs) i x refl small (sym at))

pub contained_get : {X : Type 0} (xs : List X) (i : ℕ) (x : X) → slice_get xs i ≡ Some x → Contains xs x
contained_get xs i x at = (i, slice_get_within xs i x at, get_or_from_slice_get xs i x x at)

-- where a test finds no element, each fails it
pub any_fails : {X : Type 0} (test : X → Bool) (xs : List X) (i : ℕ) (x : X) → list_any test xs ≡ false → slice_get xs i ≡ Some x → test x ≡ false
any_fails test [] i x none at = absurd (cc)
any_fails test (k ∷ xs) i x none at = by_test (test k) refl i at (any_fails test xs)
  where
    by_test : (t : Bool) → test k ≡ t → (i : ℕ) → slice_get (k ∷ xs) i ≡ Some x → ((j : ℕ) (y : _) → list_any test xs ≡ false → slice_get xs j ≡ Some y → test y ≡ false) → test x ≡ false
    by_test true passes i at later = absurd (false≢true (sym none ∙ ap (λ (b : Bool). b || list_any test xs) passes))
    by_test false fails zero at later = let same : k ≡ x = cc in ap test (sym same) ∙ fails
    by_test false fails (suc j) at later = later j x (sym (ap (λ (b : Bool). b || list_any test xs) fails) ∙ none) at

-- More names than there are different ones: one of them comes twice.
use Rattle.std.proofs.Common.{◌≡◌, ℕ, suc, ◌<◌, Bool, true, false, cond, List, [], ◌∷◌, length, ◌⊎◌, inl, inr, refl, sym, ap, ◌∙◌, arith}
use Rattle.std.specs.Cmp.Lexicographic.{bytes_decides}
use Rattle.std.specs.List.{AllByRecursion}
use Rattle.std.specs.Str.{bytes_eq}

-- the name is one of the names
abbrev pub Has : List (List ℕ) → List ℕ → Type 0
Has [] name = ⊥
Has (k ∷ names) name = (k ≡ name) ⊎ Has names name

-- a name comes twice
abbrev pub Repeats : List (List ℕ) → Type 0
Repeats [] = ⊥
Repeats (name ∷ names) = Has names name ⊎ Repeats names

same_or_not : (x y : List ℕ) → (x ≡ y) ⊎ (x ≡ y → ⊥)
same_or_not x y = by_test (bytes_eq x y) refl
  where
    by_test : (t : Bool) → bytes_eq x y ≡ t → (x ≡ y) ⊎ (x ≡ y → ⊥)
    by_test true is = inl ((bytes_decides x y).0 is)
    by_test false is = inr (λ same. (let yes : bytes_eq x y ≡ true = (bytes_decides x y).1 same in cc))

has_or_not : (names : List (List ℕ)) (name : List ℕ) → Has names name ⊎ (Has names name → ⊥)
has_or_not [] name = inr (λ none. none)
has_or_not (k ∷ names) name =
    elim (same_or_not k name) [
      | inl same ↦ inl (inl same)
      | inr other ↦ (elim (has_or_not names name) [
        | inl later ↦ inl (inr later)
        | inr none ↦ inr (λ h. (elim h [ inl same ↦ other same | inr later ↦ none later ]))
      ])
    ]

-- the names without one of them
abbrev without : List ℕ → List (List ℕ) → List (List ℕ)
without name [] = []
without name (k ∷ names) = cond (bytes_eq k name) names (k ∷ without name names)

length-without : (name : List ℕ) (names : List (List ℕ)) → Has names name → length names ≡ suc (length (without name names))
length-without name [] held = absurd held
length-without name (k ∷ names) held = by_test (bytes_eq k name) refl held (length-without name names)
  where
    by_test : (t : Bool) → bytes_eq k name ≡ t → (k ≡ name) ⊎ Has names name → (Has names name → length names ≡ suc (length (without name names))) → length (k ∷ names) ≡ suc (length (without name (k ∷ names)))
    by_test true is h rest = rw is
    by_test false is (inl same) rest = let equal : bytes_eq k name ≡ true = (bytes_decides k name).1 same in absurd (cc)
    by_test false is (inr later) rest = rw is (ap suc (rest later))

kept : (name other : List ℕ) (names : List (List ℕ)) → Has names other → (name ≡ other → ⊥) → Has (without name names) other
kept name other [] held differ = held
kept name other (k ∷ names) held differ = by_test (bytes_eq k name) refl held (λ later. kept name other names later differ)
  where
    by_test : (t : Bool) → bytes_eq k name ≡ t → (k ≡ other) ⊎ Has names other → (Has names other → Has (without name names) other) → Has (without name (k ∷ names)) other
    by_test true is (inl same) rest = absurd (differ (sym ((bytes_decides k name).0 is) ∙ same))
    by_test true is (inr later) rest = rw is later
    by_test false is (inl same) rest = rw is (inl same)
    by_test false is (inr later) rest = rw is (inr (rest later))

all_kept : (name : List ℕ) (names keys : List (List ℕ)) → (Has names name → ⊥) → AllByRecursion (Has keys) names → AllByRecursion (Has (without name keys)) names
all_kept name [] keys none all = tt
all_kept name (k ∷ names) keys none (first, rest) =
    (kept name k keys first (λ same. none (inl (sym same))), all_kept name names keys (λ later. none (inr later)) rest)

-- names that are all among fewer keys repeat one
pub pigeon : (names keys : List (List ℕ)) → AllByRecursion (Has keys) names → length keys < length names → Repeats names
pigeon [] keys all more = absurd (omega arith)
pigeon (name ∷ names) keys (first, rest) more =
    elim (has_or_not names name) [
      | inl twice ↦ inl twice
      | inr none ↦ (
          let one = length-without name keys first in
          inr (pigeon names (without name keys) (all_kept name names keys none rest) (omega (arith, one))))
    ]

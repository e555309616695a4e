-- First rows: the first row that a test finds, where the test sees the rows before it.
use Rattle.std.specs.Prelude.{ℕ, List, [], ◌∷◌, ◌++◌, length, Bool, if◌then◌else◌, Option, Some, None}
use Rattle.std.specs.List.{list_any}
use Rattle.std.specs.Option.{option_or}
use Rattle.std.specs.Str.{bytes_eq}

-- the first of some answers
abbrev pub first_some : {A : Type 0} → List (Option A) → Option A
first_some [] = None
first_some (answer ∷ answers) = option_or answer (first_some answers)

-- the first answer that a row gives
abbrev pub first_of : {A B : Type 0} → (A → Option B) → List A → Option B
first_of answer [] = None
first_of answer (x ∷ xs) = option_or (answer x) (first_of answer xs)

-- the first answer that a row gives beside the rows before it, of which the first list stands before all
unfoldable pub first_from : {A B : Type 0} → (List A → A → Option B) → List A → List A → Option B
first_from answer before [] = None
first_from answer before (x ∷ xs) = option_or (answer before x) (first_from answer (before ++ x ∷ []) xs)

-- a row's number, where the test finds it
abbrev pub number_if : {A : Type 0} → (List A → A → Bool) → List A → A → Option ℕ
number_if test before x = if test before x then Some (length before) else None

-- the number of the first row that the test finds
abbrev pub first_where : {A : Type 0} → (List A → A → Bool) → List A → Option ℕ
first_where test xs = first_from (number_if test) [] xs

-- a key is one of some keys
abbrev pub is_among : List (List ℕ) → List ℕ → Bool
is_among keys key = list_any (λ k. bytes_eq k key) keys

-- the first key that is one of those before it
abbrev pub first_repeat : List (List ℕ) → Option ℕ
first_repeat keys = first_where is_among keys

-- the place of a key among the keys
abbrev pub place_of : List (List ℕ) → List ℕ → Option ℕ
place_of keys key = first_where (λ before k. bytes_eq k key) keys

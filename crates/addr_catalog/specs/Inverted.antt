-- Lists of numbers turned round: for each number, which of the lists have it.
use Rattle.std.specs.Prelude.{ℕ, ◌==◌, ◌++◌, List, [], ◌∷◌, length, filter, nat_lt, Bool, IsTrue, if◌then◌else◌, unwrap_or, slice_get}
use Rattle.std.specs.List.{list_all, list_any, range_with_len}

-- whether the number is among the numbers
abbrev pub is_among : List ℕ → ℕ → Bool
is_among ns n = list_any (λ m. m == n) ns

-- the list with that number
abbrev pub list_at : List (List ℕ) → ℕ → List ℕ
list_at lists k = unwrap_or (slice_get lists k) []

-- the numbers of those of the first lists that have a number, ascending
unfoldable pub first_with : List (List ℕ) → ℕ → ℕ → List ℕ
first_with lists count n = filter (λ k. is_among (list_at lists k) n) (range_with_len 0 count)

-- the numbers of the lists that have a number, ascending
abbrev pub lists_with : List (List ℕ) → ℕ → List ℕ
lists_with lists n = first_with lists (length lists) n

-- each number is below a bound
abbrev pub AreNumbersBelow : ℕ → List ℕ → Type 0
AreNumbersBelow bound ns = IsTrue (list_all (λ n. nat_lt n bound) ns)

-- the lists that each number has, and one more for the numbers of a list
abbrev pub with_list : ℕ → List ℕ → (ℕ → List ℕ) → ℕ → List ℕ
with_list k list lists n = lists n ++ (if is_among list n then k ∷ [] else [])

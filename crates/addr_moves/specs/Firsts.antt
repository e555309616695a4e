-- The first of some texts, each found by its bytes.
use Rattle.std.specs.Prelude.{ℕ, ◌≡◌, ◌<◌, List, map, Option, Some, None}
use Rattle.std.specs.Borrow.{Bor}
use Rattle.std.specs.BTreeMap.{BTreeMap, get_by}
use Rattle.std.specs.Cmp.Lexicographic.{slice_cmp}
use Rattle.std.specs.List.{Contains, slice_get}
use Rattle.std.specs.Ordering.{nat_cmp}

-- the number that a map has under a text
abbrev pub number_under : BTreeMap (Bor (List ℕ)) ℕ → List ℕ → Option ℕ
number_under numbers text = get_by (λ key. slice_cmp nat_cmp text key.now) numbers

-- the number of the first text that is the same, if there is one
abbrev pub IsFirstAt : List (List ℕ) → List ℕ → Option ℕ → Type 0
IsFirstAt texts text None = Contains texts text → ⊥
IsFirstAt texts text (Some n) = (slice_get texts n ≡ Some text) × ((k : ℕ) → k < n → slice_get texts k ≡ Some text → ⊥)

-- each text is found at its first place
abbrev pub AreFirsts : List (List ℕ) → (List ℕ → Option ℕ) → Type 0
AreFirsts texts find = (text : List ℕ) → IsFirstAt texts text (find text)

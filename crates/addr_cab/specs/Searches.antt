-- Lists that ascend, and what a search by halving finds in them: what a search from the front finds.
use Rattle.std.specs.Prelude.{◌≡◌, ℕ, ◌<◌, List, Bool, true, false, None, Result, length, find, slice_get, slice_index_or}
use Rattle.std.specs.List.{list_any, position_or_len}
use Rattle.std.specs.Result.{MatchResult}
use Rattle.addr_cab.specs.Spelling.{is_below}

-- the bytes of each element stand below those of each later one
abbrev pub Ascend : {X : Type 0} → (X → List ℕ) → List X → Type 0
Ascend {X} key xs = (j k : ℕ) (d : X) → j < k → k < length xs → is_below (key (slice_index_or xs j d)) (key (slice_index_or xs k d)) ≡ true

abbrev pub Finds : {X : Type 0} → (X → Bool) → List X → Result ℕ ℕ → Type 0
Finds test xs r = MatchResult r (λ i. (i < length xs) × (find test xs ≡ slice_get xs i) × (list_any test xs ≡ true)) (λ i. (find test xs ≡ None) × (list_any test xs ≡ false))

-- the first place at which a test passes, or that it passes at none
abbrev pub FindsPlace : {X : Type 0} → (X → Bool) → List X → Result ℕ ℕ → Type 0
FindsPlace test xs r = MatchResult r (λ i. position_or_len test xs ≡ i) (λ i. position_or_len test xs ≡ length xs)

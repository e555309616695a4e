-- Lists by places: what holds of each element and its place.
use Rattle.std.specs.Prelude.{ℕ, ◌≡◌, List, Some}
use Rattle.std.specs.List.{slice_get}

-- each element is as its place wants it
abbrev pub EachAt : {X : Type 0} → (ℕ → X → Type 0) → List X → Type 0
EachAt {X} fits xs = (k : ℕ) (x : X) → slice_get xs k ≡ Some x → fits k x

-- Lists without a repeat.
use Rattle.std.specs.Prelude.{ℕ, ◌≡◌, List, Some}
use Rattle.std.specs.List.{slice_get}

-- no element stands at two places
abbrev pub AreOnce : {X : Type 0} → List X → Type 0
AreOnce {X} xs = (i j : ℕ) (x : X) → slice_get xs i ≡ Some x → slice_get xs j ≡ Some x → i ≡ j

-- The lines of a text: each ends with a line end, which the last one may lack. A text of no bytes has no line.
use Rattle.std.specs.Prelude.{ℕ, ◌==◌, List, [], ◌∷◌, cond}
use Rattle.std.specs.List.{onto_first}

abbrev pub lines_of : List ℕ → List (List ℕ)
lines_of [] = []
lines_of (b ∷ bytes) = cond (b == 10) ([] ∷ lines_of bytes) (onto_first b (lines_of bytes))

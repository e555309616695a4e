-- What a look-up of texts finds.
use Rattle.std.specs.Prelude.{ℕ, ◌≡◌, List, [], ◌∷◌, ◌++◌, Option, position, cond}
use Rattle.std.specs.List.{list_any}
use Rattle.std.specs.Str.{bytes_eq}

-- each text's first place in a list, and none for another text
abbrev pub FindsPlaces : List (List ℕ) → (List ℕ → Option ℕ) → Type 0
FindsPlaces texts find = (text : List ℕ) → find text ≡ position (λ t. bytes_eq t text) texts

-- the texts with one more behind them where it isn't among them
abbrev pub with_text : List (List ℕ) → List ℕ → List (List ℕ)
with_text texts text = texts ++ cond (list_any (λ t. bytes_eq t text) texts) [] (text ∷ [])

-- the same for several, one after another
abbrev pub with_texts : List (List ℕ) → List (List ℕ) → List (List ℕ)
with_texts texts [] = texts
with_texts texts (t ∷ ts) = with_texts (with_text texts t) ts

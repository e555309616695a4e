-- The parts of a line: numbers and what a mark parts. Each part has one spelling.
use Rattle.std.specs.Prelude.{ℕ, ◌≡◌, ◌==◌, ◌<◌, ◌^◌, Bool, false, List, ◌∷◌, ◌++◌, decimal}
use Rattle.std.specs.List.{list_any}

-- whether the byte stands in the bytes
abbrev pub has_byte : ℕ → List ℕ → Bool
has_byte mark bytes = list_any (λ b. b == mark) bytes

-- the text is one piece without the mark, the mark, and another piece
pub record IsCut (mark : ℕ) (text before after : List ℕ) : Type 0 where
  pub whole : text ≡ before ++ mark ∷ after
  pub first : has_byte mark before ≡ false

-- the text spells a number below 2 to that power, in digits without a sign or a leading zero
abbrev pub IsNumber : ℕ → List ℕ → ℕ → Type 0
IsNumber bits text n = (n < 2 ^ bits) × (text ≡ decimal n)

-- the text is a number below 2 to the 32nd, a space, and the rest
abbrev pub IsNumberThen : List ℕ → ℕ → List ℕ → Type 0
IsNumberThen text n rest = (n < 2 ^ 32) × (text ≡ decimal n ++ 32 ∷ rest)

-- a word and then such a number; a word, two numbers below 2 to the 32nd and a space between them
abbrev pub IsWordNumber : ℕ → List ℕ → List ℕ → ℕ → Type 0
IsWordNumber bits word text n = (n < 2 ^ bits) × (text ≡ word ++ decimal n)

abbrev pub IsWordPair : List ℕ → List ℕ → ℕ → ℕ → Type 0
IsWordPair word text a b = (a < 2 ^ 32) × (b < 2 ^ 32) × (text ≡ word ++ (decimal a ++ 32 ∷ decimal b))

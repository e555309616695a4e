-- What the reader of tokens makes of any bytes before it writes the text again and compares. No promise rests on it.
use Rattle.std.specs.Prelude.{ℕ, ◌+◌, ◌*◌, ◌%◌, ◌==◌, if◌then◌else◌, List, [], ◌∷◌, ◌++◌, unwrap_or}
use Rattle.hex.specs.Hex.{hex_digit_value}
use Rattle.addr_base.specs.declared.tokens.Place.{Place}
use Rattle.addr_base.specs.declared.tokens.Place.TheVariants.{Plain, AfterPercent, AfterDigit}

-- a digit's value, and 0 of any other byte
abbrev pub loose_digit : ℕ → ℕ
loose_digit b = unwrap_or (hex_digit_value b) 0

-- the text that a byte adds at a place
abbrev pub loose_byte : Place → ℕ → List ℕ
loose_byte Plain b = if b == 37 then [] else b ∷ []
loose_byte AfterPercent b = []
loose_byte (AfterDigit high) b = ((high * 16 % 256 + loose_digit b) % 256) ∷ []

-- the place after a byte
abbrev pub loose_place : Place → ℕ → Place
loose_place Plain b = if b == 37 then AfterPercent else Plain
loose_place AfterPercent b = AfterDigit (loose_digit b)
loose_place (AfterDigit high) b = Plain

-- the text of all bytes from a place on
unfoldable pub loose_text : Place → List ℕ → List ℕ
loose_text place [] = []
loose_text place (b ∷ rest) = loose_byte place b ++ loose_text (loose_place place b) rest

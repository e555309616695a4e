-- Tokens: how a text is written as one field of a line, where spaces, commas and line ends part the fields.
use Rattle.std.specs.Prelude.{ℕ, ◌≡◌, ◌/◌, ◌%◌, ◌==◌, ◌&&◌, not, nat_le, Bool, if◌then◌else◌, List, [], ◌∷◌, slice_index, Option, Some, None, codes}
use Rattle.std.specs.List.{flat_map}
use Rattle.std.specs.Str.{IsUtf8}
use Rattle.hex.specs.Hex.{upper_digits}

-- whether a byte stands for itself: 0x21 to 0x7e, other than '%' (37) and ',' (44)
abbrev pub is_plain : ℕ → Bool
is_plain b = nat_le 0x21 b && nat_le b 0x7e && not (b == 37) && not (b == 44)

-- the escape of a byte: '%' and its two upper-case hex digits
abbrev pub escape_of : ℕ → List ℕ
escape_of b = 37 ∷ slice_index upper_digits (b / 16) ∷ slice_index upper_digits (b % 16) ∷ []

-- a byte as a token has it
abbrev pub token_byte : ℕ → List ℕ
token_byte b = if is_plain b then b ∷ [] else escape_of b

-- the token of a text: its bytes one after the other, and a lone '%' where it has none
unfoldable pub token_of : List ℕ → List ℕ
token_of [] = codes "%"
token_of (b ∷ rest) = flat_map token_byte (b ∷ rest)

-- what bytes are read as: the text in UTF-8 whose token they are, or None where they are the token of none
abbrev pub ReadsToken : List ℕ → Option (List ℕ) → Type 0
ReadsToken bytes (Some text) = IsUtf8 text × (bytes ≡ token_of text)
ReadsToken bytes None = (text : List ℕ) → IsUtf8 text → bytes ≡ token_of text → ⊥

-- whether a byte may stand in a token: 0x21 to 0x7e other than ','
abbrev pub is_token_byte : ℕ → Bool
is_token_byte b = nat_le 0x21 b && nat_le b 0x7e && not (b == 44)

-- '%' and one more byte, as the marks "%-", "%*" and "%?" are
abbrev pub IsMark : List ℕ → Type 0
IsMark bytes = (b : ℕ) × (bytes ≡ 37 ∷ b ∷ [])

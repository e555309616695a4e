-- The spelling of a text inside names of bundles and files: letters, digits and `-` stand for themselves, and every other
-- byte is `~` and two lower-case hex digits.
use Rattle.std.specs.Prelude.{ℕ, ◌+◌, ◌/◌, ◌%◌, ◌==◌, ◌&&◌, ◌||◌, nat_le, nat_lt, Bool, if◌then◌else◌, List, [], ◌∷◌}
use Rattle.std.specs.List.{flat_map}

-- whether a byte stands for itself in a name: `A` to `Z`, `a` to `z`, `0` to `9` and `-`
abbrev pub is_name_byte : ℕ → Bool
is_name_byte b = (nat_le 65 b && nat_le b 90) || (nat_le 97 b && nat_le b 122) || (nat_le 48 b && nat_le b 57) || b == 45

-- the lower-case hex digit of a number below 16
abbrev pub hex_digit : ℕ → ℕ
hex_digit n = if nat_lt n 10 then 48 + n else 87 + n

-- a byte that stands for itself, and else `~` and the byte's two hex digits
unfoldable pub escaped_byte : ℕ → List ℕ
escaped_byte b = if is_name_byte b then b ∷ [] else 126 ∷ hex_digit (b / 16) ∷ hex_digit (b % 16) ∷ []

-- the escaped bytes of a text, one after the other
abbrev pub escaped : List ℕ → List ℕ
escaped text = flat_map escaped_byte text

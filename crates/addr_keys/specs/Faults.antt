-- What reading a key from left to right gives: the key and the bytes after it, or the first fault that is met.
use Rattle.std.specs.Prelude.{ℕ, ◌-◌, ◌^◌, ◌%◌, List, [], ◌∷◌, length, take, drop, Result, Ok, Err, nat_lt, ◌==◌, ◌||◌, encode_utf8_all, if◌then◌else◌}
use Rattle.std.specs.Int.{Width, w16, w32, byte_len, from_le_bytes, cast_signed}
use Rattle.std.specs.Char.Utf16.{has_unpaired_surrogate, utf16_lossy_chars}
use Rattle.addr_reading.specs.Steps.{◌>>=◌}
use Rattle.addr_keys.specs.declared.key.Key.{Key}
use Rattle.addr_keys.specs.declared.key.Key.TheVariants as keys
use Rattle.addr_keys.specs.declared.error.KeyErr.{KeyErr}
use Rattle.addr_keys.specs.declared.error.KeyErr.TheVariants.{Short, Kind, NotAscii, Surrogate, Negative}
use Rattle.addr_keys.specs.Format.{is_ascii}

-- a byte, and the bytes after it
unfoldable pub byte_at : List ℕ → Result (ℕ × List ℕ) KeyErr
byte_at [] = Err Short
byte_at (b ∷ rest) = Ok (b, rest)

-- a number of 2 or 4 bytes, and the bytes after it
unfoldable pub number_at : Width → List ℕ → Result (ℕ × List ℕ) KeyErr
number_at w bytes = if nat_lt (length bytes) (byte_len w) then Err Short else Ok (from_le_bytes w (take (byte_len w) bytes), drop (byte_len w) bytes)

-- a length of four bytes, which isn't below zero
unfoldable pub length_at : List ℕ → Result (ℕ × List ℕ) KeyErr
length_at bytes = do
  n ← number_at w32 bytes
  if nat_lt n.0 (2 ^ 31) then Ok n else Err Negative

-- a body of so many bytes
unfoldable pub body_at : ℕ → List ℕ → Result (List ℕ × List ℕ) KeyErr
body_at n bytes = if nat_lt (length bytes) n then Err Short else Ok (take n bytes, drop n bytes)

-- the text of a body in ASCII
unfoldable pub ascii_of : List ℕ → Result (List ℕ) KeyErr
ascii_of body = if is_ascii body then Ok body else Err NotAscii

-- the units of a body, two bytes each
unfoldable pub units_of : List ℕ → List ℕ
units_of (low ∷ high ∷ rest) = from_le_bytes w16 (low ∷ high ∷ []) ∷ units_of rest
units_of _ = []

-- the text of a body in UTF-16
unfoldable pub utf16_of : List ℕ → Result (List ℕ) KeyErr
utf16_of body = if length body % 2 == 1 || has_unpaired_surrogate (units_of body) then Err Surrogate else Ok (encode_utf8_all (utf16_lossy_chars (units_of body)))

-- a text in ASCII after one byte of length
unfoldable pub short_at : List ℕ → Result (List ℕ × List ℕ) KeyErr
short_at bytes = do
  n ← byte_at bytes
  body ← body_at n.0 n.1
  text ← ascii_of body.0
  Ok (text, body.1)

-- a text in ASCII after four bytes of length
unfoldable pub ascii_at : List ℕ → Result (List ℕ × List ℕ) KeyErr
ascii_at bytes = do
  n ← length_at bytes
  body ← body_at n.0 n.1
  text ← ascii_of body.0
  Ok (text, body.1)

-- a text in UTF-16 after four bytes of length
unfoldable pub utf16_at : List ℕ → Result (List ℕ × List ℕ) KeyErr
utf16_at bytes = do
  n ← length_at bytes
  body ← body_at n.0 n.1
  text ← utf16_of body.0
  Ok (text, body.1)

-- the names of an assembly and a class, and a text
unfoldable pub json_at : List ℕ → Result (Key × List ℕ) KeyErr
json_at bytes = do
  assembly ← short_at bytes
  class ← short_at assembly.1
  text ← utf16_at class.1
  Ok (keys.Json assembly.0 class.0 text.0, text.1)

-- the key of a body that was read
abbrev pub made : {A : Type 0} → (A → Key) → Result (A × List ℕ) KeyErr → Result (Key × List ℕ) KeyErr
made key read = read >>= λ x. Ok (key x.0, x.1)

-- the key of a kind
unfoldable pub body_of_kind : ℕ → List ℕ → Result (Key × List ℕ) KeyErr
body_of_kind kind bytes =
    if kind == 0 then made keys.Text (ascii_at bytes)
    else if kind == 1 then made keys.Text (utf16_at bytes)
    else if kind == 2 then made keys.U16 (number_at w16 bytes)
    else if kind == 3 then made keys.U32 (number_at w32 bytes)
    else if kind == 4 then made (λ n. keys.I32 (cast_signed w32 n)) (number_at w32 bytes)
    else if kind == 5 then made keys.Hash (short_at bytes)
    else if kind == 6 then made keys.TypeId (short_at bytes)
    else if kind == 7 then json_at bytes
    else Err (Kind kind)

-- a key at the front, and the bytes after it
unfoldable pub key_first : List ℕ → Result (Key × List ℕ) KeyErr
key_first bytes = do
  kind ← byte_at bytes
  body_of_kind kind.0 kind.1

-- the key at a place, and the place where it ends; past the end of the bytes nothing is left to read
unfoldable pub key_read : List ℕ → ℕ → Result (Key × ℕ) KeyErr
key_read bytes at = do
  key ← key_first (drop at bytes)
  Ok (key.0, length bytes - length key.1)

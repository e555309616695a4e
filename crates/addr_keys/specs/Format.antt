-- Serialized keys: what a form of a key is, which form is written, and where one stands among other bytes. The rule is this
-- project's profile after the key objects of Unity's ContentCatalogData; integers are little-endian.
use Rattle.std.specs.Prelude.{◌≡◌, ℕ, ◌<◌, ◌≤◌, ◌^◌, ◌&&◌, ◌||◌, Bool, true, false, List, Some, nat_le, slice_get, ◌∷◌, ◌++◌, ◌⊎◌, length, chars, IsUtf8, nat_lt, FitsSigned, if◌then◌else◌, slice_range}
use Rattle.std.proofs.Common.{get_or}
use Rattle.std.specs.List.{flat_map, list_all}
use Rattle.std.specs.Char.Escape.{encode_utf16}
use Rattle.std.specs.Int.{w16, w32, to_le_bytes, cast_unsigned}
use Rattle.addr_keys.specs.declared.key.Key.{Key}
use Rattle.addr_keys.specs.declared.key.Key.TheVariants.{Text, U16, U32, I32, Hash, TypeId, Json}

-- each number of a list is a byte
abbrev pub IsBytes : List ℕ → Type 0
IsBytes bytes = (i : ℕ) → get_or bytes i 0 < 256

-- each byte of the text is below 128
unfoldable pub is_ascii : List ℕ → Bool
is_ascii text = list_all (λ b. nat_lt b 128) text

-- the 16-bit units of a text in UTF-16: one for each character, or two for one above 0xffff
unfoldable pub utf16_units : List ℕ → List ℕ
utf16_units text = flat_map encode_utf16 (chars text)

-- a text in UTF-16, the low byte of each unit first
unfoldable pub utf16_bytes : List ℕ → List ℕ
utf16_bytes text = flat_map (to_le_bytes w16) (utf16_units text)

-- a body after one byte that says its length
abbrev pub short : List ℕ → List ℕ
short body = length body ∷ body

-- a body after four bytes that say its length
abbrev pub long : List ℕ → List ℕ
long body = to_le_bytes w32 (length body) ++ body

-- the one written form: a kind byte and a body; a text is written in ASCII exactly where it is ASCII
unfoldable pub key_text : Key → List ℕ
key_text (Text text) = if is_ascii text then 0 ∷ long text else 1 ∷ long (utf16_bytes text)
key_text (U16 n) = 2 ∷ to_le_bytes w16 n
key_text (U32 n) = 3 ∷ to_le_bytes w32 n
key_text (I32 z) = 4 ∷ to_le_bytes w32 (cast_unsigned w32 z)
key_text (Hash text) = 5 ∷ short text
key_text (TypeId text) = 6 ∷ short text
key_text (Json assembly class text) = 7 ∷ (short assembly ++ (short class ++ long (utf16_bytes text)))

-- an ASCII text whose length fits one byte
abbrev pub IsShort : List ℕ → Type 0
IsShort text = (is_ascii text ≡ true) × (length text < 256)

-- a body whose length fits four bytes and isn't negative
abbrev pub IsLong : List ℕ → Type 0
IsLong body = length body < 2 ^ 31

-- a text that has a form in UTF-16
abbrev pub IsWide : List ℕ → Type 0
IsWide text = IsUtf8 text × IsLong (utf16_bytes text)

-- the bytes are a form of the key: an ASCII text has two forms, every other key one
abbrev pub IsForm : Key → List ℕ → Type 0
IsForm (Text text) form = ((is_ascii text ≡ true) × IsLong text × (form ≡ 0 ∷ long text)) ⊎ (IsWide text × (form ≡ 1 ∷ long (utf16_bytes text)))
IsForm (U16 n) form = (n < 2 ^ 16) × (form ≡ 2 ∷ to_le_bytes w16 n)
IsForm (U32 n) form = (n < 2 ^ 32) × (form ≡ 3 ∷ to_le_bytes w32 n)
IsForm (I32 z) form = FitsSigned w32 z × (form ≡ 4 ∷ to_le_bytes w32 (cast_unsigned w32 z))
IsForm (Hash text) form = IsShort text × (form ≡ 5 ∷ short text)
IsForm (TypeId text) form = IsShort text × (form ≡ 6 ∷ short text)
IsForm (Json assembly class text) form = IsShort assembly × IsShort class × IsWide text × (form ≡ 7 ∷ (short assembly ++ (short class ++ long (utf16_bytes text))))

-- the bytes from a place to an end are a form of the key
abbrev pub KeyAt : List ℕ → ℕ → Key → ℕ → Type 0
KeyAt bytes at key end = (at ≤ end) × (end ≤ length bytes) × IsForm key (slice_range bytes at end)

-- what can be written: short texts are short ASCII, and the body of each other text is below 2^31 bytes
abbrev pub IsWritable : Key → Type 0
IsWritable (Text text) = IsLong (if is_ascii text then text else utf16_bytes text)
IsWritable (Hash text) = IsShort text
IsWritable (TypeId text) = IsShort text
IsWritable (Json assembly class text) = IsShort assembly × IsShort class × IsLong (utf16_bytes text)
IsWritable _ = Unit {0}

-- whether keys of a kind hold a text: a text, a hash, a type id, or an object of a class
abbrev pub has_text : ℕ → Bool
has_text kind = nat_lt kind 2 || (nat_le 5 kind && nat_le kind 7)

-- no key that holds a text begins at a place
abbrev pub HasNoText : List ℕ → ℕ → Type 0
HasNoText bytes at = (kind : ℕ) → slice_get bytes at ≡ Some kind → has_text kind ≡ false

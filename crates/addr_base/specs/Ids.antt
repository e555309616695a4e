-- GUIDs and digests: 16 bytes each, and how they are written.
use Rattle.std.specs.Prelude.{ℕ, ◌≡◌, List, Option, Some, None, length, take}
use Rattle.hex.specs.Hex.{IsBytes, encode_lower}
use Rattle.sha2.specs.Sha256.{sha256}

-- a list of 16 bytes
pub record Are16Bytes (bytes : List ℕ) : Type 0 where
  pub sixteen : length bytes ≡ 16
  pub small : IsBytes bytes

-- the lower-case hex digits that spell bytes, two for each, the high four bits first
abbrev pub hex_of : List ℕ → List ℕ
hex_of bytes = encode_lower bytes

-- what a text of hex digits is read as: the 16 bytes that it spells, or None where it spells none
abbrev pub ReadsHex : List ℕ → Option (List ℕ) → Type 0
ReadsHex text (Some bytes) = Are16Bytes bytes × (text ≡ hex_of bytes)
ReadsHex text None = (bytes : List ℕ) → Are16Bytes bytes → text ≡ hex_of bytes → ⊥

-- the digest of bytes: the first 16 bytes of their SHA-256 (FIPS 180-4)
abbrev pub digest_of : List ℕ → List ℕ
digest_of bytes = take 16 (sha256 bytes)

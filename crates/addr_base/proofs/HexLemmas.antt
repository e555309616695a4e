-- Hex digits of 16 bytes: a text that spells them reads as them, and only as them.
use Rattle.std.proofs.Common.{◌≡◌, ℕ, Bool, true, ◌&&◌, nat_lt, List, [], ◌∷◌, Result, Ok, refl, sym, ap, ◌∙◌}
use Rattle.std.proofs.lemmas.Bool.{and_parts}
use Rattle.std.proofs.lemmas.Str.Ascii.{IsAscii-nil, IsAscii-cons}
use Rattle.std.specs.Result.{result_unwrap_or}
use Rattle.std.specs.Str.{IsAscii}
use Rattle.hex.specs.Hex.{decode_sized, lower_digits}
use Rattle.hex.specs.declared.error.FromHexError.{FromHexError}
use Rattle.hex.proofs.HexLemmas.{IsAscii-encode_with, decode_sized-encode_lower}
use Rattle.addr_base.specs.Ids.{Are16Bytes, hex_of}
use borrow.Author.Tests.{ltb-true}

-- what spells 16 bytes decodes to them
pub spelled_decodes : (text bytes : List ℕ) → Are16Bytes bytes → text ≡ hex_of bytes → decode_sized text 16 ≡ Ok bytes
spelled_decodes text bytes are e = rw e (decode_sized-encode_lower bytes 16 are.sixteen are.small)

-- what decodes to some bytes spells no others
pub decoded_same : (text read bytes : List ℕ) → decode_sized text 16 ≡ Ok read → Are16Bytes bytes → text ≡ hex_of bytes → read ≡ bytes
decoded_same text read bytes decoded are e =
    ap (λ (r : Result (List ℕ) FromHexError). result_unwrap_or r []) (sym decoded ∙ spelled_decodes text bytes are e)

-- the test of a text's bytes, which computes
abbrev all_ascii : List ℕ → Bool
all_ascii [] = true
all_ascii (b ∷ bs) = nat_lt b 128 && all_ascii bs

ascii_from_test : (bs : List ℕ) → all_ascii bs ≡ true → IsAscii bs
ascii_from_test [] passed = IsAscii-nil
ascii_from_test (b ∷ bs) passed =
    let parts = and_parts (nat_lt b 128) (all_ascii bs) passed in
    IsAscii-cons b bs (ltb-true b 128 parts.0) (ascii_from_test bs parts.1)

-- the digits are ASCII
pub hex_ascii : (bytes : List ℕ) → IsAscii (hex_of bytes)
hex_ascii bytes = IsAscii-encode_with lower_digits bytes (ascii_from_test lower_digits refl)

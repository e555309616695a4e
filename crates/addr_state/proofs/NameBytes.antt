-- A spelling, and the digits of bytes, have only bytes that a bundle's name may have.
use Rattle.std.proofs.Common.{◌≡◌, ℕ, suc, ◌+◌, ◌<◌, ◌/◌, ◌%◌, true, List, [], ◌∷◌, ◌++◌, length, slice_index, refl, ◌∙◌, arith, length-append}
use Rattle.std.proofs.lemmas.Bool.{and_from, agree_below_at}
use Rattle.std.proofs.lemmas.List.Folds.{list_all-append}
use Rattle.std.proofs.lemmas.List.Sums.{AllPass-from_list_all, list_all-from_AllPass}
use Rattle.std.specs.List.{AllByRecursion, AllPass, list_all, flat_map}
use Rattle.std.specs.Str.{IsUtf8}
use Rattle.hex.specs.Hex.{IsBytes, encode_with, lower_digits}
use Rattle.hex.proofs.HexLemmas.{length-encode_with}
use Rattle.addr_base.specs.Escapes.{escaped_byte, escaped}
use Rattle.addr_base.specs.Ids.{hex_of}
use Rattle.addr_base.proofs.TokenLemmas.{utf8_bytes}
use Rattle.addr_state.specs.Files.{is_bundle_byte}

byte_spelled : (b : ℕ) → b < 256 → list_all is_bundle_byte (escaped_byte b) ≡ true
unfolding escaped_byte
byte_spelled b small = agree_below_at (λ k. list_all is_bundle_byte (escaped_byte k)) (λ k. true) 256 b refl small

bytes_spelled : (text : List ℕ) → AllByRecursion (λ b. b < 256) text → list_all is_bundle_byte (escaped text) ≡ true
bytes_spelled [] small = refl
bytes_spelled (b ∷ rest) small =
    list_all-append is_bundle_byte (escaped_byte b) (flat_map escaped_byte rest)
    ∙ and_from (list_all is_bundle_byte (escaped_byte b)) _ (byte_spelled b small.0) (bytes_spelled rest small.1)

pub text_spelled : (text : List ℕ) → IsUtf8 text → AllPass is_bundle_byte (escaped text)
text_spelled text utf8 = AllPass-from_list_all is_bundle_byte (escaped text) (bytes_spelled text (utf8_bytes text utf8))

digit_below : (d : ℕ) → d < 16 → is_bundle_byte (slice_index lower_digits d) ≡ true
digit_below d small = agree_below_at (λ k. is_bundle_byte (slice_index lower_digits k)) (λ k. true) 16 d refl small

bytes_digits : (bytes : List ℕ) → IsBytes bytes → list_all is_bundle_byte (hex_of bytes) ≡ true
unfolding encode_with
bytes_digits [] small = refl
bytes_digits (b ∷ bytes) small =
    let byte : b < 256 = small 0 in
    and_from (is_bundle_byte (slice_index lower_digits (b / 16))) _ (digit_below (b / 16) (omega arith))
    (and_from (is_bundle_byte (slice_index lower_digits (b % 16))) _ (digit_below (b % 16) (omega arith)) (bytes_digits bytes (λ i. small (suc i))))

pub digits_named : (bytes : List ℕ) → IsBytes bytes → AllPass is_bundle_byte (hex_of bytes)
digits_named bytes small = AllPass-from_list_all is_bundle_byte (hex_of bytes) (bytes_digits bytes small)

pub parts_named : (a b : List ℕ) → AllPass is_bundle_byte a → AllPass is_bundle_byte b → AllPass is_bundle_byte (a ++ b)
parts_named a b in_a in_b =
    AllPass-from_list_all is_bundle_byte (a ++ b) (list_all-append is_bundle_byte a b ∙ and_from (list_all is_bundle_byte a) _ (list_all-from_AllPass is_bundle_byte a in_a) (list_all-from_AllPass is_bundle_byte b in_b))

pub digits_len : (bytes : List ℕ) → length bytes ≡ 16 → length (hex_of bytes) ≡ 32
digits_len bytes sixteen = let twice = length-encode_with lower_digits bytes in omega (arith, twice, sixteen)

-- a name, one byte, the digits and the ending
pub file_len : (name digits ending : List ℕ) → length digits ≡ 32 → length ending ≡ 7 → length (name ++ (95 ∷ (digits ++ ending))) ≡ length name + 40
file_len name digits ending digits_are ending_is =
    let all = length-append name (95 ∷ (digits ++ ending)) in
    let rest = length-append digits ending in
    omega (arith, all, rest, digits_are, ending_is)

-- The sizes of written forms by the texts of their keys, as they are measured.
use Rattle.std.proofs.Common.{◌≡◌, ℕ, suc, ◌+◌, ◌-◌, ◌^◌, true, false, List, ◌++◌, length, arith, length-append}
use Rattle.std.specs.Prelude.{min}
use Rattle.std.specs.Int.{w32, to_le_bytes}
use Rattle.addr_keys.specs.declared.key.Key.TheVariants.{Text, Json}
use Rattle.addr_keys.specs.Format.{key_text, is_ascii, utf16_bytes, short, long}

-- a size, or the greatest number of 64 bits where it is greater
abbrev pub saturated : ℕ → ℕ
saturated n = min n (2 ^ 64 - 1)

long-size : (body : List ℕ) → length (long body) ≡ 4 + length body
long-size body = length-append (to_le_bytes w32 (length body)) body

pub ascii-size : (t : List ℕ) → is_ascii t ≡ true → length (key_text (Text t)) ≡ 5 + length t
unfolding key_text
ascii-size t plain = let size = long-size t in rw plain (omega (arith, size))

pub wide-size : (t : List ℕ) → is_ascii t ≡ false → length (key_text (Text t)) ≡ 5 + length (utf16_bytes t)
unfolding key_text
wide-size t plain = let size = long-size (utf16_bytes t) in rw plain (omega (arith, size))

pub json-size : (assembly class t : List ℕ) → length (key_text (Json assembly class t)) ≡ 7 + length assembly + length class + length (utf16_bytes t)
unfolding key_text
json-size assembly class t =
    let size = long-size (utf16_bytes t) in
    let inner = length-append (short class) (long (utf16_bytes t)) in
    let outer = length-append (short assembly) (short class ++ long (utf16_bytes t)) in
    omega (arith, size, inner, outer)

-- one more unit of so many
pub counted : (count more left after whole : ℕ) → left ≡ suc after → saturated (count + left) ≡ saturated whole → more ≡ saturated (count + 1) → saturated (more + after) ≡ saturated whole
counted count more left after whole len so_far is = omega (arith, len, so_far, is)

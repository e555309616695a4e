-- The first line of a text ends at its first line end, or with the text.
use Rattle.std.proofs.Common.{◌≡◌, ◌==◌, ◌<◌, ◌+◌, ◌≤◌, ℕ, List, [], ◌∷◌, ◌++◌, false, refl, arith, length, length-append, ap, ◌∙◌}
use Rattle.std.proofs.lemmas.Bool.Decides.{nat_tests}
use Rattle.std.specs.List.{onto_first}
use Rattle.addr_fields.specs.Fields.{has_byte, IsCut}
use Rattle.addr_fields.specs.Lines.{lines_of}

lines_of_first : (before after : List ℕ) → has_byte 10 before ≡ false → lines_of (before ++ 10 ∷ after) ≡ before ∷ lines_of after
lines_of_first [] after free = refl
lines_of_first (b ∷ before) after free =
    let here : (b == 10) ≡ false = grind (arith, nat_tests) in
    let rest : has_byte 10 before ≡ false = grind (arith, nat_tests) in
    rw here (ap (onto_first b) (lines_of_first before after rest))

pub lines_of_cut : (bytes before after : List ℕ) → IsCut 10 bytes before after → lines_of bytes ≡ before ∷ lines_of after
lines_of_cut bytes before after cut = ap lines_of cut.whole ∙ lines_of_first before after cut.first

one_line : (b : ℕ) (bytes : List ℕ) → has_byte 10 (b ∷ bytes) ≡ false → lines_of (b ∷ bytes) ≡ (b ∷ bytes) ∷ []
one_line b [] free = let here : (b == 10) ≡ false = grind (arith, nat_tests) in rw here refl
one_line b (c ∷ bytes) free =
    let here : (b == 10) ≡ false = grind (arith, nat_tests) in
    let rest : has_byte 10 (c ∷ bytes) ≡ false = grind (arith, nat_tests) in
    rw here (ap (onto_first b) (one_line c bytes rest))

pub lines_of_one : (bytes : List ℕ) → 0 < length bytes → has_byte 10 bytes ≡ false → lines_of bytes ≡ bytes ∷ []
lines_of_one [] filled free = absurd (omega arith)
lines_of_one (b ∷ bytes) filled free = one_line b bytes free

pub rest_is_shorter : (bytes before after : List ℕ) → IsCut 10 bytes before after → length after < length bytes
rest_is_shorter bytes before after cut = rw cut.whole (omega (arith, length-append before (10 ∷ after)))

pub parts_are_shorter : (bytes before after : List ℕ) → IsCut 10 bytes before after → length before + length after ≤ length bytes
parts_are_shorter bytes before after cut = rw cut.whole (omega (arith, length-append before (10 ∷ after)))

-- Fields of a line: no field but the last has a space, so a line is cut into its fields in one way.
use Rattle.std.proofs.Common.{ℕ, ◌≡◌, ◌==◌, ◌∙◌, ◌/◌, ◌%◌, true, false, not, zero, suc, List, [], ◌∷◌, ◌++◌, slice_index, refl, ap, sym, arith}
use Rattle.std.specs.List.{list_all, join_with_byte}
use Rattle.std.specs.Str.{IsUtf8}
use Rattle.std.proofs.lemmas.Bool.{false≢true, and_parts, or_parts, ne_eqb}
use Rattle.std.proofs.lemmas.Bool.Decides.{nat_tests}
use Rattle.std.proofs.lemmas.List.Folds.{list_any-append}
use Rattle.std.proofs.lemmas.List.Sums.{list_all-from_AllPass}
use Rattle.hex.specs.Hex.{encode_with, lower_digits}
use Rattle.addr_base.specs.Ids.{hex_of}
use Rattle.addr_base.specs.Tokens.{token_of, is_token_byte}
use Rattle.addr_base.proofs.TokenLemmas.{token_bytes_stand}
use Rattle.addr_fields.specs.Fields.{has_byte, IsCut}
use Rattle.addr_fields.proofs.CutLemmas.{same_cut, has_mark}

pub cut_is : (mark : ℕ) (text before after b a : List ℕ) → IsCut mark text before after → has_byte mark b ≡ false → text ≡ b ++ mark ∷ a → (before ≡ b) × (after ≡ a)
cut_is mark text before after b a cut free is = same_cut mark before after b a cut.first free (sym cut.whole ∙ is)

pub no_cut : (mark : ℕ) (text b a : List ℕ) → has_byte mark text ≡ false → text ≡ b ++ mark ∷ a → ⊥
no_cut mark text b a none is = false≢true (sym none ∙ (ap (has_byte mark) is ∙ has_mark mark b a))

free_of : (mark : ℕ) → is_token_byte mark ≡ false → (bytes : List ℕ) → list_all is_token_byte bytes ≡ true → has_byte mark bytes ≡ false
free_of mark no_byte [] all = refl
free_of mark no_byte (b ∷ bytes) all =
    let parts = and_parts (is_token_byte b) (list_all is_token_byte bytes) all in
    let here : (b == mark) ≡ false = ne_eqb b mark (λ e. false≢true (sym no_byte ∙ (ap is_token_byte (sym e) ∙ parts.0))) in
    rw (here, free_of mark no_byte bytes parts.1) refl

pub token_free : (mark : ℕ) → is_token_byte mark ≡ false → (text : List ℕ) → IsUtf8 text → has_byte mark (token_of text) ≡ false
token_free mark no_byte text utf8 = free_of mark no_byte (token_of text) (list_all-from_AllPass is_token_byte (token_of text) (token_bytes_stand text utf8))

pub token_free_of_space : (text : List ℕ) → IsUtf8 text → has_byte 32 (token_of text) ≡ false
token_free_of_space = token_free 32 refl

pub token_free_of_comma : (text : List ℕ) → IsUtf8 text → has_byte 44 (token_of text) ≡ false
token_free_of_comma = token_free 44 refl

digit_free : (mark : ℕ) → (0 == mark) ≡ false → (digits : List ℕ) (i : ℕ) → has_byte mark digits ≡ false → (slice_index digits i == mark) ≡ false
digit_free mark other [] i free = other
digit_free mark other (d ∷ digits) zero free = (or_parts (d == mark) (has_byte mark digits) free).0
digit_free mark other (d ∷ digits) (suc i) free = digit_free mark other digits i (or_parts (d == mark) (has_byte mark digits) free).1

pub hex_free : (mark : ℕ) → (0 == mark) ≡ false → has_byte mark lower_digits ≡ false → (bytes : List ℕ) → has_byte mark (hex_of bytes) ≡ false
unfolding encode_with
hex_free mark other free [] = refl
hex_free mark other free (b ∷ bytes) =
    let high = digit_free mark other lower_digits (b / 16) free in
    let low = digit_free mark other lower_digits (b % 16) free in
    rw (high, low) (hex_free mark other free bytes)

pub hex_free_of_space : (bytes : List ℕ) → has_byte 32 (hex_of bytes) ≡ false
hex_free_of_space = hex_free 32 refl refl

-- parts without the mark, joined by another one, have no mark
pub join_free : (mark : ℕ) (parts : List (List ℕ)) → (44 == mark) ≡ false → list_all (λ p. not (has_byte mark p)) parts ≡ true → has_byte mark (join_with_byte 44 parts) ≡ false
join_free mark [] other free = refl
join_free mark (p ∷ []) other free = grind (arith, nat_tests)
join_free mark (p ∷ q ∷ parts) other free =
    let rest = join_free mark (q ∷ parts) other (grind (arith, nat_tests)) in
    let here : has_byte mark p ≡ false = grind (arith, nat_tests) in
    list_any-append (λ b. b == mark) p (44 ∷ join_with_byte 44 (q ∷ parts)) ∙ rw (here, other, rest)

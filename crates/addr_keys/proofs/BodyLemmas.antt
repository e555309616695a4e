-- The body of a text: what is read from a body has that body, and what a text's body holds reads as the text.
use Rattle.std.proofs.Common.{◌≡◌, ℕ, zero, suc, ◌*◌, ◌%◌, ◌^◌, ◌<◌, true, false, eqb, List, [], ◌∷◌, ◌++◌, length, Ok, refl, sym, ap, subst, ◌∙◌, arith, inl, inr}
use Rattle.std.specs.Prelude.{◌||◌, IsUtf8, chars, encode_utf8_all}
use Rattle.std.specs.List.{flat_map}
use Rattle.std.specs.Int.{w16, to_le_bytes, from_le_bytes}
use Rattle.std.specs.Char.Escape.{encode_utf16}
use Rattle.std.specs.Char.Utf16.{utf16_lossy_chars, has_unpaired_surrogate}
use Rattle.std.proofs.Math.Utf8.{scalar, scalars, scalar_cases}
use Rattle.std.proofs.str.Utf16.{one_unit, two_units}
use Rattle.std.proofs.lemmas.Bool.{cases_lt, eqb-false}
use Rattle.std.proofs.lemmas.Nat.{le_bytes_2, from_le_bytes-to_le_bytes_2}
use Rattle.std.proofs.lemmas.Str.{scalars-chars, chars-encodes}
use Rattle.std.proofs.lemmas.List.Concat.{flat_map-cons}
use Rattle.addr_reading.proofs.StepLaws.{ok_is, chosen, guarded}
use Rattle.addr_keys.specs.declared.error.KeyErr.TheVariants.{NotAscii, Surrogate}
use Rattle.addr_keys.specs.Format.{IsBytes, is_ascii, utf16_units, utf16_bytes}
use Rattle.addr_keys.specs.Faults.{ascii_of, units_of, utf16_of}
use Rattle.addr_keys.proofs.TextLemmas.{both_true}
use Rattle.addr_keys.proofs.Utf16Lemmas.{AreUnits, reads_as, are_spelled, either_false}

-- ---- ASCII

pub ascii_takes : (body text : List ℕ) → ascii_of body ≡ Ok text → (is_ascii text ≡ true) × (body ≡ text)
unfolding ascii_of
ascii_takes body text e =
    let g = chosen (is_ascii body) NotAscii body text e in
    (ap is_ascii (sym g.1) ∙ g.0, g.1)

pub ascii_again : (text : List ℕ) → is_ascii text ≡ true → ascii_of text ≡ Ok text
unfolding ascii_of
ascii_again text e = rw e refl

-- ---- units in bytes

IsBytes-pair : (a b : ℕ) → a < 256 → b < 256 → IsBytes (a ∷ b ∷ [])
IsBytes-pair a b p q zero = p
IsBytes-pair a b p q (suc zero) = q
IsBytes-pair a b p q (suc (suc i)) = omega arith

units_again : (us : List ℕ) → AreUnits us → units_of (flat_map (to_le_bytes w16) us) ≡ us
unfolding units_of
units_again [] small = refl
units_again (u ∷ us) small =
    let k : u < 2 ^ 16 = small.0 in
    ap units_of (flat_map-cons (to_le_bytes w16) u us) ∙ rw (from_le_bytes-to_le_bytes_2 u k, units_again us small.1) refl

even_rest : (n : ℕ) → suc (suc n) % 2 ≡ 0 → n % 2 ≡ 0
even_rest n e = omega arith

bytes_again : (body : List ℕ) → IsBytes body → length body % 2 ≡ 0 → flat_map (to_le_bytes w16) (units_of body) ≡ body
unfolding units_of
bytes_again [] fits even = refl
bytes_again (a ∷ []) fits even = absurd (omega arith)
bytes_again (a ∷ b ∷ rest) fits even =
    let unit = from_le_bytes w16 (a ∷ b ∷ []) in
    let back : to_le_bytes w16 unit ≡ a ∷ b ∷ [] = le_bytes_2 (a ∷ b ∷ []) unit refl (IsBytes-pair a b (fits 0) (fits 1)) refl in
    let others = bytes_again rest (λ i. fits (suc (suc i))) (even_rest (length rest) even) in
    flat_map-cons (to_le_bytes w16) unit (units_of rest) ∙ ap (λ (x : List ℕ). x ++ flat_map (to_le_bytes w16) (units_of rest)) back ∙ ap (λ (x : List ℕ). a ∷ b ∷ x) others

units_small : (body : List ℕ) → IsBytes body → AreUnits (units_of body)
unfolding units_of
units_small [] fits = tt
units_small (a ∷ []) fits = tt
units_small (a ∷ b ∷ rest) fits = (omega (arith, fits 0, fits 1), units_small rest (λ i. fits (suc (suc i))))

-- ---- UTF-16

are_units-append : (xs ys : List ℕ) → AreUnits xs → AreUnits ys → AreUnits (xs ++ ys)
are_units-append [] ys p q = q
are_units-append (x ∷ xs) ys p q = (p.0, are_units-append xs ys p.1 q)

units_of_char : (c : ℕ) → scalar c ≡ true → AreUnits (encode_utf16 c)
units_of_char c e =
    elim (cases_lt c 0x1_0000) [
      | inl small ↦ subst AreUnits (sym (one_unit c small)) (small, tt)
      | inr from ↦
          let below : c < 1114112 = elim (scalar_cases c e) [ inl low ↦ omega arith | inr high ↦ high.1 ] in
          subst AreUnits (sym (two_units c from)) (omega arith, (omega arith, tt))
    ]

units_of_chars : (cs : List ℕ) → scalars cs ≡ true → AreUnits (flat_map encode_utf16 cs)
units_of_chars [] e = tt
units_of_chars (c ∷ cs) e =
    let parts = both_true (scalar c) (scalars cs) e in
    subst AreUnits (sym (flat_map-cons encode_utf16 c cs)) (are_units-append (encode_utf16 c) (flat_map encode_utf16 cs) (units_of_char c parts.0) (units_of_chars cs parts.1))

even_bytes : (us : List ℕ) → length (flat_map (to_le_bytes w16) us) % 2 ≡ 0
even_bytes [] = refl
even_bytes (u ∷ us) = let other = even_bytes us in ap (λ (x : List ℕ). length x % 2) (flat_map-cons (to_le_bytes w16) u us) ∙ omega arith

is_even : (n : ℕ) → eqb (n % 2) 1 ≡ false → n % 2 ≡ 0
is_even n e = let other = eqb-false (n % 2) 1 e in omega arith

units_of_text : (text : List ℕ) → IsUtf8 text → AreUnits (utf16_units text)
unfolding utf16_units
units_of_text text u = units_of_chars (chars text) (scalars-chars text u)

pub utf16_takes : (body text : List ℕ) → IsBytes body → utf16_of body ≡ Ok text → IsUtf8 text × (utf16_bytes text ≡ body)
unfolding utf16_of utf16_bytes utf16_units
utf16_takes body text fits e =
    let us = units_of body in
    let g = guarded (eqb (length body % 2) 1 || has_unpaired_surrogate us) Surrogate (Ok (encode_utf8_all (utf16_lossy_chars us))) text e in
    let is = ok_is (encode_utf8_all (utf16_lossy_chars us)) text g.1 in
    let parts = either_false (eqb (length body % 2) 1) (has_unpaired_surrogate us) g.0 in
    let even : length body % 2 ≡ 0 = is_even (length body) parts.0 in
    let spelled = are_spelled us (units_small body fits) parts.1 in
    let chars-is : chars text ≡ utf16_lossy_chars us = ap chars (sym is) ∙ chars-encodes (utf16_lossy_chars us) spelled.scalar in
    ((utf16_lossy_chars us, (spelled.scalar, is)), rw (chars-is, spelled.units) (bytes_again body fits even))

pub utf16_again : (text : List ℕ) → IsUtf8 text → utf16_of (utf16_bytes text) ≡ Ok text
unfolding utf16_of utf16_bytes
utf16_again text u =
    let us = utf16_units text in
    let reads = reads_as text u in
    rw (even_bytes us, units_again us (units_of_text text u), reads.paired) (ap (λ (t : List ℕ). Ok t) reads.spelled)

-- each unit has two bytes
pub double_units : (text : List ℕ) → length (utf16_bytes text) ≡ 2 * length (utf16_units text)
unfolding utf16_bytes
double_units text = twice (utf16_units text)
  where
    twice : (us : List ℕ) → length (flat_map (to_le_bytes w16) us) ≡ 2 * length us
    twice [] = refl
    twice (u ∷ us) = let other = twice us in ap length (flat_map-cons (to_le_bytes w16) u us) ∙ omega arith

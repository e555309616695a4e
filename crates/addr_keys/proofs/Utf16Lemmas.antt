-- UTF-16 both ways: the units of a text spell the text, and units in which each surrogate has its partner are those of one.
use Rattle.std.proofs.Common.{◌≡◌, ℕ, ◌+◌, ◌-◌, ◌*◌, ◌/◌, ◌%◌, ◌<◌, ◌≤◌, Bool, true, false, ltb, leb, List, [], ◌∷◌, ◌++◌, map, Option, Some, refl, sym, ap, ◌∙◌, arith, inl, inr}
use Rattle.std.specs.Prelude.{◌&&◌, ◌||◌, not, is_some, IsUtf8, chars, encode_utf8_all}
use Rattle.std.specs.Option.{unwrap_or}
use Rattle.std.specs.List.{flat_map, list_any, AllByRecursion}
use Rattle.std.specs.Char.Escape.{encode_utf16}
use Rattle.std.specs.Char.Utf16.{utf16_chars, utf16_lossy_chars, has_unpaired_surrogate, lone_unit_char, surrogate_pair_char, is_high_surrogate, is_low_surrogate}
use Rattle.std.proofs.Math.Utf8.{scalar, scalars, scalar_cases, low_scalar}
use Rattle.std.proofs.str.Utf16.{IsPair, one_unit, two_units, pair_units, lone_unit_char_low, lone_unit_char_high, lone_unit_char_surrogate}
use Rattle.std.proofs.lemmas.Bool.{ltb-true, leb-true, cases_lt, lt-ltb, le-ltb, le-leb, false≢true}
use Rattle.std.proofs.lemmas.Str.{utf16_chars-nil, utf16_chars_lone, utf16_chars_pair, encodes-chars, scalars-chars}
use Rattle.std.proofs.lemmas.List.Concat.{flat_map-cons}
use Rattle.addr_keys.specs.Format.{utf16_units}
use Rattle.addr_keys.proofs.TextLemmas.{both_true}

-- ---- from characters to units, and back

lone_low : (c : ℕ) (us : List ℕ) (rest : List (Option ℕ)) → c < 0xD800 → utf16_chars us ≡ rest → utf16_chars (encode_utf16 c ++ us) ≡ Some c ∷ rest
lone_low c us rest low again =
    let small : c < 0x1_0000 = omega arith in
    rw (one_unit c small, utf16_chars_lone c us (λ p. absurd (omega (arith, p.0))), lone_unit_char_low c low, again) refl

lone_high : (c : ℕ) (us : List ℕ) (rest : List (Option ℕ)) → c < 0x1_0000 → 0xE000 ≤ c → utf16_chars us ≡ rest → utf16_chars (encode_utf16 c ++ us) ≡ Some c ∷ rest
lone_high c us rest small from again =
    rw (one_unit c small, utf16_chars_lone c us (λ p. absurd (omega (arith, p.1))), lone_unit_char_high c from, again) refl

pair_of : (c : ℕ) (us : List ℕ) (rest : List (Option ℕ)) → 0x1_0000 ≤ c → c < 1114112 → utf16_chars us ≡ rest → utf16_chars (encode_utf16 c ++ us) ≡ Some c ∷ rest
pair_of c us rest from below again =
    let u = 0xD800 + (c - 0x1_0000) / 0x400 in
    let v = 0xDC00 + (c - 0x1_0000) % 0x400 in
    let pair : IsPair u v = (omega arith, omega arith, omega arith, omega arith) in
    let is : surrogate_pair_char u v ≡ c = omega arith in
    ap (λ (x : List ℕ). utf16_chars (x ++ us)) (two_units c from) ∙ utf16_chars_pair u v us pair ∙ rw (is, again) refl

first_again : (c : ℕ) (us : List ℕ) (rest : List (Option ℕ)) → scalar c ≡ true → utf16_chars us ≡ rest → utf16_chars (encode_utf16 c ++ us) ≡ Some c ∷ rest
first_again c us rest e again =
    elim (scalar_cases c e) [
      | inl low ↦ lone_low c us rest low again
      | inr high ↦ elim (cases_lt c 0x1_0000) [ inl small ↦ lone_high c us rest small high.0 again | inr from ↦ pair_of c us rest from high.1 again ]
    ]

-- the units of characters spell exactly these
chars_again : (cs : List ℕ) → scalars cs ≡ true → utf16_chars (flat_map encode_utf16 cs) ≡ map Some cs
chars_again [] e = utf16_chars-nil
chars_again (c ∷ cs) e =
    let parts = both_true (scalar c) (scalars cs) e in
    ap utf16_chars (flat_map-cons encode_utf16 c cs) ∙ first_again c (flat_map encode_utf16 cs) (map Some cs) parts.0 (chars_again cs parts.1)

none_unpaired : (cs : List ℕ) → list_any (λ o. not (is_some o)) (map Some cs) ≡ false
none_unpaired [] = refl
none_unpaired (c ∷ cs) = none_unpaired cs

all_kept : (cs : List ℕ) → map (λ o. unwrap_or o 0xFFFD) (map Some cs) ≡ cs
all_kept [] = refl
all_kept (c ∷ cs) = ap (λ (x : List ℕ). c ∷ x) (all_kept cs)

-- the units of a text read as the text
pub record ReadsAs (text : List ℕ) : Type 0 where
  pub paired : has_unpaired_surrogate (utf16_units text) ≡ false
  pub spelled : encode_utf8_all (utf16_lossy_chars (utf16_units text)) ≡ text

pub reads_as : (text : List ℕ) → IsUtf8 text → ReadsAs text
unfolding utf16_units
reads_as text u =
    let again = chars_again (chars text) (scalars-chars text u) in
    record {
      paired = ap (list_any (λ (o : Option ℕ). not (is_some o))) again ∙ none_unpaired (chars text);
      spelled = ap encode_utf8_all (ap (map (λ (o : Option ℕ). unwrap_or o 0xFFFD)) again ∙ all_kept (chars text)) ∙ encodes-chars text u;
    }

-- ---- from units to characters, and back

abbrev pub AreUnits : List ℕ → Type 0
AreUnits us = AllByRecursion (λ u. u < 0x1_0000) us

-- the units are those of the characters that they spell
pub record AreSpelled (us : List ℕ) : Type 0 where
  pub scalar : scalars (utf16_lossy_chars us) ≡ true
  pub units : flat_map encode_utf16 (utf16_lossy_chars us) ≡ us

pub either_false : (a b : Bool) → (a || b) ≡ false → (a ≡ false) × (b ≡ false)
either_false true b e = absurd cc
either_false false b e = (refl, e)

scalar_high : (u : ℕ) → 0xE000 ≤ u → u < 1114112 → scalar u ≡ true
scalar_high u from below = let past : 55296 ≤ u = omega arith in rw (le-ltb u 55296 past, le-leb 57344 u from, lt-ltb u 1114112 below) refl

-- a unit that is a character by itself
pub record IsAlone (u : ℕ) : Type 0 where
  pub char : lone_unit_char u ≡ Some u
  pub scalar : scalar u ≡ true

is_alone : (u : ℕ) → u < 0x1_0000 → not (is_some (lone_unit_char u)) ≡ false → IsAlone u
is_alone u small e =
    elim (cases_lt u 0xD800) [
      | inl low ↦ record { char = lone_unit_char_low u low; scalar = low_scalar u low }
      | inr from ↦ elim (cases_lt u 0xE000) [
        | inl below ↦ absurd (false≢true (sym e ∙ ap (λ (o : Option ℕ). not (is_some o)) (lone_unit_char_surrogate u from below)))
        | inr past ↦ record { char = lone_unit_char_high u past; scalar = scalar_high u past (omega arith) }
      ]
    ]

abbrev unpaired : List (Option ℕ) → Bool
unpaired os = list_any (λ o. not (is_some o)) os

abbrev lossy : List (Option ℕ) → List ℕ
lossy os = map (λ o. unwrap_or o 0xFFFD) os

step_alone : (u : ℕ) (us : List ℕ) → u < 0x1_0000 → utf16_chars (u ∷ us) ≡ lone_unit_char u ∷ utf16_chars us
    → has_unpaired_surrogate (u ∷ us) ≡ false → (has_unpaired_surrogate us ≡ false → AreSpelled us) → AreSpelled (u ∷ us)
step_alone u us small first e others =
    let parts = either_false (not (is_some (lone_unit_char u))) (unpaired (utf16_chars us)) (sym (ap unpaired first) ∙ e) in
    let one = is_alone u small parts.0 in
    let rest = others parts.1 in
    let is : utf16_lossy_chars (u ∷ us) ≡ u ∷ utf16_lossy_chars us = ap lossy first ∙ ap (λ (o : Option ℕ). unwrap_or o 0xFFFD ∷ lossy (utf16_chars us)) one.char in
    record {
      scalar = ap scalars is ∙ rw (one.scalar, rest.scalar) refl;
      units = ap (flat_map encode_utf16) is ∙ flat_map-cons encode_utf16 u (utf16_lossy_chars us) ∙ rw (one_unit u small, rest.units) refl;
    }

step_pair : (u v : ℕ) (us : List ℕ) → IsPair u v → has_unpaired_surrogate (u ∷ v ∷ us) ≡ false → (has_unpaired_surrogate us ≡ false → AreSpelled us) → AreSpelled (u ∷ v ∷ us)
step_pair u v us pair e others =
    let first = utf16_chars_pair u v us pair in
    let rest = others (sym (ap unpaired first) ∙ e) in
    let c = surrogate_pair_char u v in
    let is : utf16_lossy_chars (u ∷ v ∷ us) ≡ c ∷ utf16_lossy_chars us = ap lossy first in
    let bound : (0xE000 ≤ c) × (c < 1114112) = (omega (arith, pair.0, pair.1, pair.2, pair.3), omega (arith, pair.0, pair.1, pair.2, pair.3)) in
    let same : c ≡ 0x1_0000 + ((u - 0xD800) * 0x400 + (v - 0xDC00)) = omega arith in
    let two : encode_utf16 c ≡ u ∷ v ∷ [] = ap encode_utf16 same ∙ pair_units u v pair.0 pair.2 pair.3 in
    record {
      scalar = ap scalars is ∙ rw (scalar_high c bound.0 bound.1, rest.scalar) refl;
      units = ap (flat_map encode_utf16) is ∙ flat_map-cons encode_utf16 c (utf16_lossy_chars us) ∙ rw (two, rest.units) refl;
    }

pair_from_test : (u v : ℕ) → (is_high_surrogate u && is_low_surrogate v) ≡ true → IsPair u v
pair_from_test u v e =
    let parts = both_true (is_high_surrogate u) (is_low_surrogate v) e in
    let high = both_true (leb 0xD800 u) (ltb u 0xDC00) parts.0 in
    let low = both_true (leb 0xDC00 v) (ltb v 0xE000) parts.1 in
    (leb-true _ _ high.0, ltb-true _ _ high.1, leb-true _ _ low.0, ltb-true _ _ low.1)

test_from_pair : (u v : ℕ) → IsPair u v → (is_high_surrogate u && is_low_surrogate v) ≡ true
test_from_pair u v pair = rw (le-leb 0xD800 u pair.0, lt-ltb u 0xDC00 pair.1, le-leb 0xDC00 v pair.2, lt-ltb v 0xE000 pair.3) refl

step : (u v : ℕ) (us : List ℕ) (t : Bool) → (is_high_surrogate u && is_low_surrogate v) ≡ t → u < 0x1_0000 → has_unpaired_surrogate (u ∷ v ∷ us) ≡ false
    → (has_unpaired_surrogate us ≡ false → AreSpelled us) → (has_unpaired_surrogate (v ∷ us) ≡ false → AreSpelled (v ∷ us)) → AreSpelled (u ∷ v ∷ us)
step u v us true is small e after_pair after_one = step_pair u v us (pair_from_test u v is) e after_pair
step u v us false is small e after_pair after_one =
    step_alone u (v ∷ us) small (utf16_chars_lone u (v ∷ us) (λ pair. false≢true (sym is ∙ test_from_pair u v pair))) e after_one

-- units in which each surrogate has its partner are those of the characters that they spell
pub are_spelled : (us : List ℕ) → AreUnits us → has_unpaired_surrogate us ≡ false → AreSpelled us
are_spelled [] small e = record { scalar = ap scalars (ap lossy utf16_chars-nil); units = ap (flat_map encode_utf16) (ap lossy utf16_chars-nil) }
are_spelled (u ∷ []) small e =
    step_alone u [] small.0 (utf16_chars_lone u [] (λ pair. omega (arith, pair.2))) e (λ _. record { scalar = ap scalars (ap lossy utf16_chars-nil); units = ap (flat_map encode_utf16) (ap lossy utf16_chars-nil) })
are_spelled (u ∷ v ∷ us) small e = step u v us (is_high_surrogate u && is_low_surrogate v) refl small.0 e (are_spelled us small.1.1) (are_spelled (v ∷ us) small.1)

-- What is written of a key that can be written is a form of it, what has a form can be written, and two keys with one written
-- form are one key.
use Rattle.std.proofs.Common.{◌≡◌, ◌≤◌, Bool, true, false, cond, List, ℕ, [], ◌∷◌, length, refl, sym, ap, subst, ◌∙◌, arith, inl, inr}
use Rattle.std.specs.Prelude.{IsUtf8, chars}
use Rattle.std.specs.List.{flat_map}
use Rattle.std.specs.Char.Escape.{encode_utf16}
use Rattle.std.specs.Int.{w32, to_le_bytes}
use Rattle.std.proofs.str.Utf16.{one_unit, two_units}
use Rattle.std.proofs.lemmas.Bool.{cases_lt}
use Rattle.std.proofs.lemmas.Str.{chars-IsAscii}
use Rattle.std.proofs.lemmas.List.{length-append}
use Rattle.std.proofs.lemmas.List.Concat.{flat_map-cons}
use Rattle.addr_keys.specs.declared.key.Key.{Key}
use Rattle.addr_keys.specs.declared.key.Key.TheVariants as keys
use Rattle.addr_keys.specs.Format.{is_ascii, utf16_units, utf16_bytes, long, key_text, IsForm, IsLong, IsWritable}
use Rattle.addr_keys.proofs.TextLemmas.{IsAscii-from_test, utf8_of_ascii}
use Rattle.addr_keys.proofs.BodyLemmas.{double_units}
use Rattle.addr_reading.proofs.StepLaws.{ok_is}
use Rattle.addr_keys.proofs.KeyLemmas.{key_again}

pub is_text_form : (text : List ℕ) → IsUtf8 text → IsWritable (keys.Text text) → IsForm (keys.Text text) (key_text (keys.Text text))
unfolding key_text
is_text_form text u fits = by_test (is_ascii text) refl fits
  where
    by_test : (t : Bool) → is_ascii text ≡ t → IsLong (cond t text (utf16_bytes text)) → IsForm (keys.Text text) (cond t (0 ∷ long text) (1 ∷ long (utf16_bytes text)))
    by_test true ascii len = inl (ascii, len, refl)
    by_test false ascii len = inr ((u, len), refl)

pub is_json_form : (assembly class text : List ℕ) → IsUtf8 text → IsWritable (keys.Json assembly class text) → IsForm (keys.Json assembly class text) (key_text (keys.Json assembly class text))
unfolding key_text
is_json_form assembly class text u fits = (fits.0, fits.1, (u, fits.2), refl)

-- ---- what has a form can be written

units_of_one : (c : ℕ) → 1 ≤ length (encode_utf16 c)
units_of_one c = elim (cases_lt c 0x1_0000) [
  | inl small ↦ subst (λ (x : List ℕ). 1 ≤ length x) (sym (one_unit c small)) (omega arith)
  | inr from ↦ subst (λ (x : List ℕ). 1 ≤ length x) (sym (two_units c from)) (omega arith)
]

as_many_units : (cs : List ℕ) → length cs ≤ length (flat_map encode_utf16 cs)
as_many_units [] = omega arith
as_many_units (c ∷ cs) =
    let len = ap length (flat_map-cons encode_utf16 c cs) ∙ length-append (encode_utf16 c) (flat_map encode_utf16 cs) in
    omega (arith, units_of_one c, as_many_units cs)

ascii_shorter : (text : List ℕ) → is_ascii text ≡ true → length text ≤ length (utf16_bytes text)
unfolding utf16_units
ascii_shorter text ascii =
    let same = ap length (chars-IsAscii text (IsAscii-from_test text ascii)) in
    omega (arith, double_units text, as_many_units (chars text))

pub is_writable : (key : Key) (form : List ℕ) → IsForm key form → IsWritable key
is_writable (keys.Text text) form (inl is) = subst (λ (t : Bool). IsLong (cond t text (utf16_bytes text))) (sym is.0) is.1
is_writable (keys.Text text) form (inr is) = by_test (is_ascii text) refl
  where
    by_test : (t : Bool) → is_ascii text ≡ t → IsLong (cond t text (utf16_bytes text))
    by_test true ascii = omega (arith, ascii_shorter text ascii, is.0.1)
    by_test false ascii = is.0.1
is_writable (keys.U16 n) form is = tt
is_writable (keys.U32 n) form is = tt
is_writable (keys.I32 z) form is = tt
is_writable (keys.Hash text) form is = is.0
is_writable (keys.TypeId text) form is = is.0
is_writable (keys.Json assembly class text) form is = (is.0, is.1, is.2.1)

-- what has a form has the written one
pub is_written_form : (key : Key) (form : List ℕ) → IsForm key form → IsForm key (key_text key)
unfolding key_text
is_written_form (keys.Text text) form (inl is) = is_text_form text (utf8_of_ascii text is.0) (is_writable (keys.Text text) form (inl is))
is_written_form (keys.Text text) form (inr is) = is_text_form text is.0.0 (is_writable (keys.Text text) form (inr is))
is_written_form (keys.U16 n) form is = (is.0, refl)
is_written_form (keys.U32 n) form is = (is.0, refl)
is_written_form (keys.I32 z) form is = (is.0, refl)
is_written_form (keys.Hash text) form is = (is.0, refl)
is_written_form (keys.TypeId text) form is = (is.0, refl)
is_written_form (keys.Json assembly class text) form is = (is.0, is.1, is.2, refl)

-- no form is shorter than the written one
pub written_shortest : (key : Key) (form : List ℕ) → IsForm key form → length (key_text key) ≤ length form
unfolding key_text
written_shortest (keys.Text text) form (inl is) = subst (λ (t : Bool). length (cond t (0 ∷ long text) (1 ∷ long (utf16_bytes text))) ≤ length form) (sym is.0) (omega (arith, ap length is.2))
written_shortest (keys.Text text) form (inr is) = by_test (is_ascii text) refl
  where
    by_test : (t : Bool) → is_ascii text ≡ t → length (cond t (0 ∷ long text) (1 ∷ long (utf16_bytes text))) ≤ length form
    by_test true ascii = omega (arith, ap length is.1, ascii_shorter text ascii, length-append (to_le_bytes w32 (length text)) text, length-append (to_le_bytes w32 (length (utf16_bytes text))) (utf16_bytes text))
    by_test false ascii = omega (arith, ap length is.1)
written_shortest (keys.U16 n) form is = omega (arith, ap length is.1)
written_shortest (keys.U32 n) form is = omega (arith, ap length is.1)
written_shortest (keys.I32 z) form is = omega (arith, ap length is.1)
written_shortest (keys.Hash text) form is = omega (arith, ap length is.1)
written_shortest (keys.TypeId text) form is = omega (arith, ap length is.1)
written_shortest (keys.Json assembly class text) form is = omega (arith, ap length is.3)

-- one form belongs to one key
pub one_key : (a b : Key) (form : List ℕ) → IsForm a form → IsForm b form → a ≡ b
one_key a b form first second = ap (λ (x : Key × List ℕ). x.0) (ok_is (a, []) (b, []) (sym (key_again a form [] first) ∙ key_again b form [] second))

-- The units that an iterator over a text in UTF-16 still has to give.
use Rattle.std.proofs.Common.{◌≡◌, ℕ, ◌+◌, List, [], ◌∷◌, ◌++◌, length, Some, None, refl, sym, ap, subst, ◌∙◌, append_assoc, arith, inl, inr}
use Rattle.std.specs.Prelude.{IsUtf8, chars}
use Rattle.std.specs.List.{flat_map}
use Rattle.std.specs.Int.{w16, to_le_bytes}
use Rattle.std.specs.Char.Escape.{encode_utf16}
use Rattle.std.specs.declared.str.EncodeUtf16.{EncodeUtf16}
use Rattle.std.specs.Str.Iter.{encode_utf16_rest, encode_utf16_pending, encode_utf16_steps}
use Rattle.std.proofs.lemmas.Str.{chars-nil, chars_past_char, IsUtf8-past_char}
use Rattle.std.proofs.lemmas.List.{nil_from_length}
use Rattle.std.proofs.lemmas.List.Concat.{flat_map-cons}
use Rattle.addr_keys.specs.Format.{utf16_units, utf16_bytes}

unfoldable pub units_left : EncodeUtf16 → List ℕ
units_left it = encode_utf16_pending it ++ flat_map encode_utf16 (chars (encode_utf16_rest it))

pub record IsNext (s : EncodeUtf16) (unit : ℕ) (t : EncodeUtf16) : Type 0 where
  pub left : units_left s ≡ unit ∷ units_left t
  pub utf8 : IsUtf8 (encode_utf16_rest t)

joined : (pending after text later : List ℕ) (unit : ℕ) → pending ≡ unit ∷ [] → after ≡ [] → later ≡ text → pending ++ flat_map encode_utf16 (chars text) ≡ unit ∷ (after ++ flat_map encode_utf16 (chars later))
joined pending after text later unit first none same = rw (first, none, same) refl

split : (pending after text later : List ℕ) (c unit : ℕ) → pending ≡ [] → chars text ≡ c ∷ chars later → encode_utf16 c ≡ unit ∷ after → pending ++ flat_map encode_utf16 (chars text) ≡ unit ∷ (after ++ flat_map encode_utf16 (chars later))
split pending after text later c unit none first units =
    ap (λ (p : List ℕ). p ++ flat_map encode_utf16 (chars text)) none ∙ ap (flat_map encode_utf16) first ∙ flat_map-cons encode_utf16 c (chars later) ∙ ap (λ (p : List ℕ). p ++ flat_map encode_utf16 (chars later)) units

pub is_next : (s t : EncodeUtf16) (unit : ℕ) → IsUtf8 (encode_utf16_rest s) → encode_utf16_steps s (Some unit) t → IsNext s unit t
unfolding units_left
is_next s t unit u (inl (first, none, same)) = record {
  left = joined (encode_utf16_pending s) (encode_utf16_pending t) (encode_utf16_rest s) (encode_utf16_rest t) unit first none same;
  utf8 = subst IsUtf8 (sym same) u;
}
is_next s t unit u (inr (none, (c, front, units))) =
    let first : chars (encode_utf16_rest s) ≡ c ∷ chars (encode_utf16_rest t) = chars_past_char (encode_utf16_rest s) (encode_utf16_rest t) c u front in
    record { left = split (encode_utf16_pending s) (encode_utf16_pending t) (encode_utf16_rest s) (encode_utf16_rest t) c unit none first units; utf8 = IsUtf8-past_char (encode_utf16_rest s) (encode_utf16_rest t) c u front }

left_is : (pending rest text : List ℕ) → pending ≡ [] → rest ≡ text → pending ++ flat_map encode_utf16 (chars rest) ≡ flat_map encode_utf16 (chars text)
left_is pending rest text none same = rw (none, same) refl

pub none_left : (s t : EncodeUtf16) → encode_utf16_steps s None t → units_left s ≡ []
unfolding units_left
none_left s t (none, empty, same) =
    left_is (encode_utf16_pending s) (encode_utf16_rest s) [] none (nil_from_length (encode_utf16_rest s) empty) ∙ ap (flat_map encode_utf16) chars-nil

pub all_left : (s : EncodeUtf16) (text : List ℕ) → encode_utf16_pending s ≡ [] → encode_utf16_rest s ≡ text → units_left s ≡ utf16_units text
unfolding units_left utf16_units
all_left s text none rest = left_is (encode_utf16_pending s) (encode_utf16_rest s) text none rest

-- at the start all units are left
pub record Starts (it : EncodeUtf16) (text : List ℕ) : Type 0 where
  pub left : units_left it ≡ utf16_units text
  pub bytes : flat_map (to_le_bytes w16) (units_left it) ≡ utf16_bytes text
  pub utf8 : IsUtf8 (encode_utf16_rest it)

pub starts : (made it : EncodeUtf16) (text : List ℕ) → it ≡ made → encode_utf16_pending made ≡ [] → encode_utf16_rest made ≡ text → IsUtf8 text → Starts it text
unfolding utf16_bytes
starts made it text same none rest u =
    let all = all_left made text none rest in
    subst (λ (x : EncodeUtf16). Starts x text) (sym same) (record { left = all; bytes = ap (flat_map (to_le_bytes w16)) all; utf8 = subst IsUtf8 (sym rest) u })

-- ---- the steps of the loops over such an iterator

pub counted : (count : ℕ) (before after : List ℕ) (unit total : ℕ) → before ≡ unit ∷ after → count + length before ≡ total → count + 1 + length after ≡ total
counted count before after unit total next so_far = let len = ap length next in omega arith

pub written : (into new : List ℕ) (before after : List ℕ) (unit : ℕ) (whole : List ℕ) → before ≡ unit ∷ after → new ≡ into ++ to_le_bytes w16 unit
    → into ++ flat_map (to_le_bytes w16) before ≡ whole → new ++ flat_map (to_le_bytes w16) after ≡ whole
written into new before after unit whole next put so_far =
    ap (λ (x : List ℕ). x ++ flat_map (to_le_bytes w16) after) put ∙ append_assoc into (to_le_bytes w16 unit) (flat_map (to_le_bytes w16) after)
    ∙ ap (λ (x : List ℕ). into ++ x) (sym (flat_map-cons (to_le_bytes w16) unit after) ∙ ap (flat_map (to_le_bytes w16)) (sym next)) ∙ so_far

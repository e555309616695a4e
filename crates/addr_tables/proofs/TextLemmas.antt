-- What a text in base64 encodes is bytes, where the text itself is.
use Rattle.std.proofs.Common.{◌≡◌, ℕ, zero, suc, ◌+◌, ◌-◌, ◌*◌, ◌<◌, ◌≤◌, Bool, true, List, [], ◌∷◌, length, drop, slice_index, Option, Some, None, Result, Ok, Err, refl, sym, subst, arith, inl, inr, ◌⊎◌}
use Rattle.base64.specs.Decode.{or_else, symbol_error, group_error, group_bytes, groups_error, groups_bytes, groups_before_last, decode_group, scan_last, no_leftover, suffix_error, suffix_bytes, lone_error, decode_error, decode_outcome, decoded_bytes}
use Rattle.base64.specs.GeneralPurpose.{IsBytes, decode_of}
use Rattle.base64.specs.Tables.{is_inverse}
use Rattle.base64.specs.declared.decode.DecodeError.{DecodeError}
use Rattle.base64.specs.declared.engine.DecodePaddingMode.{DecodePaddingMode}
use Rattle.base64.specs.declared.engine.general_purpose.GeneralPurpose.{GeneralPurpose}
use Rattle.std.proofs.lemmas.List.{length-drop}
use Rattle.base64.proofs.Canonical.{IsScanned-scan}
use Rattle.base64.proofs.Decoding.{suffix_bytes_of}
use Rattle.base64.proofs.Tables.{encode-decode_table, are_tables_inverse}
use Rattle.addr_keys.proofs.FieldLemmas.{IsBytes-drop, IsBytes-take}
use Rattle.addr_keys.proofs.PlaceLemmas.{IsBytes-append}

or_else_none : (x y : Option DecodeError) → or_else x y ≡ None → (x ≡ None) × (y ≡ None)
or_else_none None y none = (refl, none)
or_else_none (Some e) y none = cc none

result_cases : {A : Type 0} (r : Result A DecodeError) → ((x : A) × (r ≡ Ok x)) ⊎ ((e : DecodeError) × (r ≡ Err e))
result_cases (Ok x) = inl (x, refl)
result_cases (Err e) = inr (e, refl)

-- a symbol's value has six bits
symbol_small : (enc dec s : List ℕ) (i : ℕ) → is_inverse enc dec ≡ true → slice_index s i < 256 → symbol_error dec s i ≡ None → slice_index dec (slice_index s i) < 64
symbol_small enc dec s i inverse byte none = elim (encode-decode_table enc dec inverse (slice_index s i) byte) [
  | inl bad ↦ cc (rw bad at none)
  | inr good ↦ good.0
]

IsBytes-group : (a b c d : ℕ) → a < 64 → b < 64 → c < 64 → d < 64 → IsBytes (decode_group a b c d)
IsBytes-group a b c d p q r s zero = omega arith
IsBytes-group a b c d p q r s (suc zero) = omega arith
IsBytes-group a b c d p q r s (suc (suc zero)) = omega arith
IsBytes-group a b c d p q r s (suc (suc (suc i))) = omega arith

groups_are_bytes : (enc dec s : List ℕ) (q : ℕ) → is_inverse enc dec ≡ true → IsBytes s → groups_error dec s q ≡ None → IsBytes (groups_bytes dec s q)
unfolding groups_error groups_bytes
groups_are_bytes enc dec s zero inverse fits none = λ i. omega arith
groups_are_bytes enc dec s (suc q) inverse fits none =
    let i : ℕ = 4 * q in
    let parts = or_else_none (groups_error dec s q) (group_error dec s i) none in
    let first = or_else_none (symbol_error dec s i) _ parts.1 in
    let second = or_else_none (symbol_error dec s (i + 1)) _ first.1 in
    let last = or_else_none (symbol_error dec s (i + 2)) (symbol_error dec s (i + 3)) second.1 in
    let a = symbol_small enc dec s i inverse (fits i) first.0 in
    let b = symbol_small enc dec s (i + 1) inverse (fits (i + 1)) second.0 in
    let c = symbol_small enc dec s (i + 2) inverse (fits (i + 2)) last.0 in
    let d = symbol_small enc dec s (i + 3) inverse (fits (i + 3)) last.1 in
    IsBytes-append (groups_bytes dec s q) (group_bytes dec s i) (groups_are_bytes enc dec s q inverse fits parts.0) (IsBytes-group _ _ _ _ a b c d)

zeros_small : (k : ℕ) → slice_index (0 ∷ 0 ∷ 0 ∷ 0 ∷ []) k < 64
zeros_small zero = omega arith
zeros_small (suc zero) = omega arith
zeros_small (suc (suc zero)) = omega arith
zeros_small (suc (suc (suc zero))) = omega arith
zeros_small (suc (suc (suc (suc k)))) = omega arith

suffix_is_bytes : (enc dec s : List ℕ) (pad at : ℕ) (allow : Bool) (mode : DecodePaddingMode) → is_inverse enc dec ≡ true → IsBytes s → length s ≤ at + 4 → suffix_error dec pad allow mode at s ≡ None → IsBytes (suffix_bytes dec pad at s)
suffix_is_bytes enc dec s pad at allow mode inverse fits short none = elim (result_cases (scan_last dec pad at s)) [
  | inl ok ↦
      let rest : List ℕ = drop at s in
      let len : length rest ≡ length s - at = length-drop at s in
      let held = IsScanned-scan enc dec rest pad at rest no_leftover ok.0 0 inverse (IsBytes-drop at s fits) (omega arith) (omega arith) refl
      ((refl, refl, λ j lt. absurd (omega arith), λ j low lt. absurd (omega arith)), (omega arith, omega arith, omega arith, zeros_small)) ok.1 in
      let small = held.1.3 in
      subst IsBytes (sym (suffix_bytes_of dec s pad at ok.0 ok.1)) (IsBytes-take _ _ (IsBytes-group _ _ _ _ (small 0) (small 1) (small 2) (small 3)))
  | inr err ↦ cc (rw err.1 at none)
]

all_are_bytes : (enc dec s : List ℕ) (pad : ℕ) (allow : Bool) (mode : DecodePaddingMode) → is_inverse enc dec ≡ true → IsBytes s → decode_error dec pad allow mode s ≡ None → IsBytes (decoded_bytes dec pad s)
all_are_bytes enc dec s pad allow mode inverse fits none =
    let q : ℕ = groups_before_last (length s) in
    let front = or_else_none (lone_error dec pad s) (or_else (groups_error dec s q) (suffix_error dec pad allow mode (4 * q) s)) none in
    let parts = or_else_none (groups_error dec s q) (suffix_error dec pad allow mode (4 * q) s) front.1 in
    IsBytes-append (groups_bytes dec s q) (suffix_bytes dec pad (4 * q) s) (groups_are_bytes enc dec s q inverse fits parts.0) (suffix_is_bytes enc dec s pad (4 * q) allow mode inverse fits (omega arith) parts.1)

outcome_ok : (x : Option DecodeError) (d b : List ℕ) → decode_outcome x d ≡ Ok b → (x ≡ None) × (d ≡ b)
outcome_ok None d b ok = (refl, cc ok)
outcome_ok (Some e) d b ok = cc ok

pub decoded_is_bytes : (e : GeneralPurpose) (s b : List ℕ) → IsBytes s → decode_of e s ≡ Ok b → IsBytes b
decoded_is_bytes e s b fits ok =
    let parts = outcome_ok _ _ b ok in
    let inverse = are_tables_inverse e.encode_table e.decode_table e.padding.value e.tables in
    subst IsBytes parts.1 (all_are_bytes e.encode_table e.decode_table s e.padding.value e.config.decode_allow_trailing_bits e.config.decode_padding_mode inverse fits parts.0)

-- Texts, and numbers in bytes both ways.
use Rattle.std.proofs.Common.{◌≡◌, ℕ, zero, suc, ◌%◌, ◌^◌, ◌<◌, Bool, true, false, List, [], ◌∷◌, ◌++◌, length, Result, Ok, Err, refl, sym, ap, subst, ◌∙◌, arith}
use Rattle.std.specs.Prelude.{◌&&◌}
use Rattle.std.specs.List.{flat_map}
use Rattle.std.specs.Int.{w32, to_le_bytes, from_le_bytes}
use Rattle.std.proofs.lemmas.Nat.{le_bytes_4, from_le_bytes-to_le_bytes_4}
use Rattle.std.proofs.lemmas.List.Concat.{flat_map-cons}
use Rattle.base64.specs.GeneralPurpose.{decode_of, encode_of, IsBytes}
use Rattle.base64.specs.Engines.{standard}
use Rattle.base64.specs.declared.decode.DecodeError.{DecodeError}
use Rattle.base64.proofs.EngineFacts.{decode_of-encode_of, decode_of_strict}
use Rattle.addr_keys.proofs.PlaceLemmas.{IsBytes-append, four_bytes}
use Rattle.addr_reading.proofs.StepLaws.{ok_is}
use Rattle.addr_tables.specs.Format.{table_of}
use Rattle.addr_tables.specs.Faults.{bytes_or, text_bytes, numbers_of}
use Rattle.addr_tables.specs.Rows.{AreNumbers}
use Rattle.addr_tables.proofs.TextLemmas.{decoded_is_bytes}

pub both_true : (a b : Bool) → (a && b) ≡ true → (a ≡ true) × (b ≡ true)
both_true true b e = (refl, e)
both_true false b e = absurd cc

-- ---- texts

text_taken_by : (which : ℕ) (r : Result (List ℕ) DecodeError) (bytes : List ℕ) → bytes_or which r ≡ Ok bytes → r ≡ Ok bytes
text_taken_by which (Ok x) bytes e = ap (λ (b : List ℕ). Ok b) (ok_is x bytes e)
text_taken_by which (Err d) bytes e = absurd cc

pub text_taken : (which : ℕ) (text bytes : List ℕ) → IsBytes text → text_bytes which text ≡ Ok bytes → text ≡ encode_of standard bytes
unfolding text_bytes
text_taken which text bytes fits e = decode_of_strict standard text bytes (refl, refl) fits (text_taken_by which (decode_of standard text) bytes e)

-- what a text encodes is bytes
pub text_holds_bytes : (which : ℕ) (text bytes : List ℕ) → IsBytes text → text_bytes which text ≡ Ok bytes → IsBytes bytes
unfolding text_bytes
text_holds_bytes which text bytes fits e = decoded_is_bytes standard text bytes fits (text_taken_by which (decode_of standard text) bytes e)

pub text_again : (which : ℕ) (text bytes : List ℕ) → IsBytes bytes → text ≡ encode_of standard bytes → text_bytes which text ≡ Ok bytes
unfolding text_bytes
text_again which text bytes fits is = ap (λ (t : List ℕ). bytes_or which (decode_of standard t)) is ∙ ap (bytes_or which) (decode_of-encode_of standard bytes refl fits)

-- ---- numbers

pub numbers_again : (ns : List ℕ) → AreNumbers ns → numbers_of (table_of ns) ≡ ns
unfolding numbers_of table_of
numbers_again [] small = refl
numbers_again (n ∷ ns) small =
    let lt : n < 2 ^ 32 = small.0 in
    ap numbers_of (flat_map-cons (to_le_bytes w32) n ns) ∙ rw (from_le_bytes-to_le_bytes_4 n lt, numbers_again ns small.1) refl

pub even_table : (ns : List ℕ) → length (table_of ns) % 4 ≡ 0
unfolding table_of
even_table [] = refl
even_table (n ∷ ns) = let other = even_table ns in ap (λ (x : List ℕ). length x % 4) (flat_map-cons (to_le_bytes w32) n ns) ∙ omega arith

IsBytes-four : (a b c d : ℕ) → a < 256 → b < 256 → c < 256 → d < 256 → IsBytes (a ∷ b ∷ c ∷ d ∷ [])
IsBytes-four a b c d p q r s zero = p
IsBytes-four a b c d p q r s (suc zero) = q
IsBytes-four a b c d p q r s (suc (suc zero)) = r
IsBytes-four a b c d p q r s (suc (suc (suc zero))) = s
IsBytes-four a b c d p q r s (suc (suc (suc (suc i)))) = omega arith

fewer : (n : ℕ) → suc (suc (suc (suc n))) % 4 ≡ 0 → n % 4 ≡ 0
fewer n e = omega arith

pub table_again : (bytes : List ℕ) → IsBytes bytes → length bytes % 4 ≡ 0 → table_of (numbers_of bytes) ≡ bytes
unfolding numbers_of table_of
table_again [] fits even = refl
table_again (a ∷ []) fits even = absurd (omega arith)
table_again (a ∷ b ∷ []) fits even = absurd (omega arith)
table_again (a ∷ b ∷ c ∷ []) fits even = absurd (omega arith)
table_again (a ∷ b ∷ c ∷ d ∷ rest) fits even =
    let n = from_le_bytes w32 (a ∷ b ∷ c ∷ d ∷ []) in
    let back : to_le_bytes w32 n ≡ a ∷ b ∷ c ∷ d ∷ [] = le_bytes_4 (a ∷ b ∷ c ∷ d ∷ []) n refl (IsBytes-four a b c d (fits 0) (fits 1) (fits 2) (fits 3)) refl in
    let others = table_again rest (λ i. fits (suc (suc (suc (suc i))))) (fewer (length rest) even) in
    flat_map-cons (to_le_bytes w32) n (numbers_of rest) ∙ ap (λ (x : List ℕ). x ++ flat_map (to_le_bytes w32) (numbers_of rest)) back ∙ ap (λ (x : List ℕ). a ∷ b ∷ c ∷ d ∷ x) others

pub numbers_small : (bytes : List ℕ) → IsBytes bytes → AreNumbers (numbers_of bytes)
unfolding numbers_of
numbers_small [] fits = tt
numbers_small (a ∷ []) fits = tt
numbers_small (a ∷ b ∷ []) fits = tt
numbers_small (a ∷ b ∷ c ∷ []) fits = tt
numbers_small (a ∷ b ∷ c ∷ d ∷ rest) fits = (omega (arith, fits 0, fits 1, fits 2, fits 3), numbers_small rest (λ i. fits (suc (suc (suc (suc i))))))

pub IsBytes-table : (ns : List ℕ) → IsBytes (table_of ns)
unfolding table_of
IsBytes-table [] = λ i. omega arith
IsBytes-table (n ∷ ns) = subst IsBytes (sym (flat_map-cons (to_le_bytes w32) n ns)) (IsBytes-append (to_le_bytes w32 n) (flat_map (to_le_bytes w32) ns) (four_bytes n) (IsBytes-table ns))

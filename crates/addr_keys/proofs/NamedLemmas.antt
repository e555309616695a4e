-- No fault of a key is want of memory.
use Rattle.std.proofs.Common.{ℕ, eqb, List, [], ◌∷◌, Result}
use Rattle.std.specs.Prelude.{◌≢◌}
use Rattle.std.specs.Int.{Width, w16, w32, cast_signed}
use Rattle.addr_reading.specs.Gives.{IsNamed}
use Rattle.addr_reading.proofs.StepLaws.{ok_named, err_named, if_named, then_named}
use Rattle.addr_keys.specs.declared.key.Key.{Key}
use Rattle.addr_keys.specs.declared.key.Key.TheVariants as keys
use Rattle.addr_keys.specs.declared.error.KeyErr.{KeyErr}
use Rattle.addr_keys.specs.declared.error.KeyErr.TheVariants.{Short, Kind, NotAscii, Surrogate, Negative, NoMemory}
use Rattle.addr_keys.specs.Faults.{made, byte_at, number_at, length_at, body_at, ascii_of, utf16_of, short_at, ascii_at, utf16_at, json_at, body_of_kind, key_first, key_read}

not_short : Short ≢ NoMemory
not_short same = absurd cc

not_kind : (k : ℕ) → Kind k ≢ NoMemory
not_kind k same = absurd cc

not_ascii : NotAscii ≢ NoMemory
not_ascii same = absurd cc

not_surrogate : Surrogate ≢ NoMemory
not_surrogate same = absurd cc

not_negative : Negative ≢ NoMemory
not_negative same = absurd cc

named_made : {A : Type 0} (key : A → Key) (read : Result (A × List ℕ) KeyErr) → IsNamed NoMemory read → IsNamed NoMemory (made key read)
named_made key read named = then_named NoMemory read _ named (λ x. ok_named NoMemory _)

-- ---- fields

byte_named : (bytes : List ℕ) → IsNamed NoMemory (byte_at bytes)
unfolding byte_at
byte_named [] = err_named NoMemory _ not_short
byte_named (b ∷ rest) = ok_named NoMemory _

number_named : (w : Width) (bytes : List ℕ) → IsNamed NoMemory (number_at w bytes)
unfolding number_at
number_named w bytes = if_named NoMemory _ _ _ (err_named NoMemory _ not_short) (ok_named NoMemory _)

length_named : (bytes : List ℕ) → IsNamed NoMemory (length_at bytes)
unfolding length_at
length_named bytes = then_named NoMemory _ _ (number_named w32 bytes) (λ n. if_named NoMemory _ _ _ (ok_named NoMemory _) (err_named NoMemory _ not_negative))

body_named : (n : ℕ) (bytes : List ℕ) → IsNamed NoMemory (body_at n bytes)
unfolding body_at
body_named n bytes = if_named NoMemory _ _ _ (err_named NoMemory _ not_short) (ok_named NoMemory _)

ascii_named : (body : List ℕ) → IsNamed NoMemory (ascii_of body)
unfolding ascii_of
ascii_named body = if_named NoMemory _ _ _ (ok_named NoMemory _) (err_named NoMemory _ not_ascii)

utf16_named : (body : List ℕ) → IsNamed NoMemory (utf16_of body)
unfolding utf16_of
utf16_named body = if_named NoMemory _ _ _ (err_named NoMemory _ not_surrogate) (ok_named NoMemory _)

-- ---- texts and keys

short_named : (bytes : List ℕ) → IsNamed NoMemory (short_at bytes)
unfolding short_at
short_named bytes = then_named NoMemory _ _ (byte_named bytes) (λ n. then_named NoMemory _ _ (body_named n.0 n.1) (λ body. then_named NoMemory _ _ (ascii_named body.0) (λ text. ok_named NoMemory _)))

ascii_at_named : (bytes : List ℕ) → IsNamed NoMemory (ascii_at bytes)
unfolding ascii_at
ascii_at_named bytes = then_named NoMemory _ _ (length_named bytes) (λ n. then_named NoMemory _ _ (body_named n.0 n.1) (λ body. then_named NoMemory _ _ (ascii_named body.0) (λ text. ok_named NoMemory _)))

utf16_at_named : (bytes : List ℕ) → IsNamed NoMemory (utf16_at bytes)
unfolding utf16_at
utf16_at_named bytes = then_named NoMemory _ _ (length_named bytes) (λ n. then_named NoMemory _ _ (body_named n.0 n.1) (λ body. then_named NoMemory _ _ (utf16_named body.0) (λ text. ok_named NoMemory _)))

json_named : (bytes : List ℕ) → IsNamed NoMemory (json_at bytes)
unfolding json_at
json_named bytes = then_named NoMemory _ _ (short_named bytes) (λ assembly. then_named NoMemory _ _ (short_named assembly.1) (λ class. then_named NoMemory _ _ (utf16_at_named class.1) (λ text. ok_named NoMemory _)))

kind_named : (kind : ℕ) (bytes : List ℕ) → IsNamed NoMemory (body_of_kind kind bytes)
unfolding body_of_kind
kind_named kind bytes =
    if_named NoMemory (eqb kind 0) _ _ (named_made keys.Text (ascii_at bytes) (ascii_at_named bytes))
    (if_named NoMemory (eqb kind 1) _ _ (named_made keys.Text (utf16_at bytes) (utf16_at_named bytes))
    (if_named NoMemory (eqb kind 2) _ _ (named_made keys.U16 (number_at w16 bytes) (number_named w16 bytes))
    (if_named NoMemory (eqb kind 3) _ _ (named_made keys.U32 (number_at w32 bytes) (number_named w32 bytes))
    (if_named NoMemory (eqb kind 4) _ _ (named_made (λ n. keys.I32 (cast_signed w32 n)) (number_at w32 bytes) (number_named w32 bytes))
    (if_named NoMemory (eqb kind 5) _ _ (named_made keys.Hash (short_at bytes) (short_named bytes))
    (if_named NoMemory (eqb kind 6) _ _ (named_made keys.TypeId (short_at bytes) (short_named bytes))
    (if_named NoMemory (eqb kind 7) _ _ (json_named bytes) (err_named NoMemory _ (not_kind kind)))))))))

first_named : (bytes : List ℕ) → IsNamed NoMemory (key_first bytes)
unfolding key_first
first_named bytes = then_named NoMemory _ _ (byte_named bytes) (λ kind. kind_named kind.0 kind.1)

pub key_named : (bytes : List ℕ) (at : ℕ) → IsNamed NoMemory (key_read bytes at)
unfolding key_read
key_named bytes at = then_named NoMemory _ _ (first_named _) (λ key. ok_named NoMemory _)

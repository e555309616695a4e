-- A form of a key is bytes, and where it stands among other bytes the key stands and is read: for what writes keys.
use Rattle.std.proofs.Common.{◌≡◌, ℕ, zero, suc, ◌+◌, ◌-◌, ◌<◌, true, List, [], ◌∷◌, ◌++◌, length, Ok, refl, sym, ap, subst, ◌∙◌, arith, inl, inr, append-nil}
use Rattle.std.specs.Prelude.{slice_range}
use Rattle.std.specs.List.{flat_map}
use Rattle.std.specs.Int.{w16, w32, to_le_bytes}
use Rattle.std.proofs.lemmas.List.{length-append, drop_at, take_at}
use Rattle.std.proofs.lemmas.List.Concat.{flat_map-cons}
use Rattle.addr_keys.specs.declared.key.Key.{Key}
use Rattle.addr_keys.specs.declared.key.Key.TheVariants as keys
use Rattle.addr_keys.specs.Faults.{key_read}
use Rattle.addr_keys.specs.Format.{IsBytes, key_text, is_ascii, utf16_units, utf16_bytes, short, long, IsForm, IsShort, KeyAt}
use Rattle.addr_keys.proofs.KeyLemmas.{is_read}
use Rattle.addr_keys.proofs.TextLemmas.{IsAscii-from_test}

IsBytes-cons : (b : ℕ) (bs : List ℕ) → b < 256 → IsBytes bs → IsBytes (b ∷ bs)
IsBytes-cons b bs small others zero = small
IsBytes-cons b bs small others (suc i) = others i

pub IsBytes-append : (xs ys : List ℕ) → IsBytes xs → IsBytes ys → IsBytes (xs ++ ys)
IsBytes-append [] ys p q i = q i
IsBytes-append (x ∷ xs) ys p q zero = p 0
IsBytes-append (x ∷ xs) ys p q (suc i) = IsBytes-append xs ys (λ k. p (suc k)) q i

two_bytes : (n : ℕ) → IsBytes (to_le_bytes w16 n)
two_bytes n zero = omega arith
two_bytes n (suc zero) = omega arith
two_bytes n (suc (suc i)) = omega arith

pub four_bytes : (n : ℕ) → IsBytes (to_le_bytes w32 n)
four_bytes n zero = omega arith
four_bytes n (suc zero) = omega arith
four_bytes n (suc (suc zero)) = omega arith
four_bytes n (suc (suc (suc zero))) = omega arith
four_bytes n (suc (suc (suc (suc i)))) = omega arith

IsBytes-units : (units : List ℕ) → IsBytes (flat_map (to_le_bytes w16) units)
IsBytes-units [] = λ i. omega arith
IsBytes-units (u ∷ us) = subst IsBytes (sym (flat_map-cons (to_le_bytes w16) u us)) (IsBytes-append (to_le_bytes w16 u) (flat_map (to_le_bytes w16) us) (two_bytes u) (IsBytes-units us))

IsBytes-utf16 : (text : List ℕ) → IsBytes (utf16_bytes text)
unfolding utf16_bytes
IsBytes-utf16 text = IsBytes-units (utf16_units text)

IsBytes-ascii : (text : List ℕ) → is_ascii text ≡ true → IsBytes text
IsBytes-ascii text ascii i = let small = IsAscii-from_test text ascii i in omega arith

IsBytes-short : (text : List ℕ) → IsShort text → IsBytes (short text)
IsBytes-short text is = IsBytes-cons (length text) text is.1 (IsBytes-ascii text is.0)

IsBytes-long : (body : List ℕ) → IsBytes body → IsBytes (long body)
IsBytes-long body fits = IsBytes-append (to_le_bytes w32 (length body)) body (four_bytes (length body)) fits

-- a form with its kind byte
of_kind : (kind : ℕ) (body form : List ℕ) → kind < 256 → form ≡ kind ∷ body → IsBytes body → IsBytes form
of_kind kind body form small is fits = subst IsBytes (sym is) (IsBytes-cons kind body small fits)

pub form_is_bytes : (key : Key) (form : List ℕ) → IsForm key form → IsBytes form
form_is_bytes (keys.Text text) form (inl is) = of_kind 0 (long text) form (omega arith) is.2 (IsBytes-long text (IsBytes-ascii text is.0))
form_is_bytes (keys.Text text) form (inr is) = of_kind 1 (long (utf16_bytes text)) form (omega arith) is.1 (IsBytes-long (utf16_bytes text) (IsBytes-utf16 text))
form_is_bytes (keys.U16 n) form is = of_kind 2 _ form (omega arith) is.1 (two_bytes n)
form_is_bytes (keys.U32 n) form is = of_kind 3 _ form (omega arith) is.1 (four_bytes n)
form_is_bytes (keys.I32 z) form is = of_kind 4 _ form (omega arith) is.1 (four_bytes _)
form_is_bytes (keys.Hash text) form is = of_kind 5 (short text) form (omega arith) is.1 (IsBytes-short text is.0)
form_is_bytes (keys.TypeId text) form is = of_kind 6 (short text) form (omega arith) is.1 (IsBytes-short text is.0)
form_is_bytes (keys.Json assembly class text) form is =
    of_kind 7 (short assembly ++ (short class ++ long (utf16_bytes text))) form (omega arith) is.3
    (IsBytes-append (short assembly) _ (IsBytes-short assembly is.0) (IsBytes-append (short class) _ (IsBytes-short class is.1) (IsBytes-long (utf16_bytes text) (IsBytes-utf16 text))))

-- a form that stands behind some bytes and before others
pub stands_at : (bytes front form rest : List ℕ) (key : Key) → bytes ≡ front ++ (form ++ rest) → IsForm key form → KeyAt bytes (length front) key (length front + length form)
stands_at bytes front form rest key is form-is =
    let len : length bytes ≡ length front + (length form + length rest) = ap length is ∙ length-append front (form ++ rest) ∙ ap (λ (n : ℕ). length front + n) (length-append form rest) in
    let many : length front + length form - length front ≡ length form = omega arith in
    let cut : slice_range (front ++ (form ++ rest)) (length front) (length front + length form) ≡ form = rw (many, drop_at front (form ++ rest) (length front) refl) (take_at form rest (length form) refl) in
    (omega arith, omega arith, subst (IsForm key) (sym (ap (λ (x : List ℕ). slice_range x (length front) (length front + length form)) is ∙ cut)) form-is)

-- what is written behind some bytes reads as the key
pub written_reads : (old new : List ℕ) (key : Key) → new ≡ old ++ key_text key → IsForm key (key_text key) → key_read new (length old) ≡ Ok (key, length new)
written_reads old new key is form =
    let front : new ≡ old ++ (key_text key ++ []) = is ∙ ap (λ (x : List ℕ). old ++ x) (sym (append-nil (key_text key))) in
    let place = stands_at new old (key_text key) [] key front form in
    let end : length old + length (key_text key) ≡ length new = sym (ap length is ∙ length-append old (key_text key)) in
    subst (λ (n : ℕ). key_read new (length old) ≡ Ok (key, n)) end (is_read new (length old) key (length old + length (key_text key)) place)

-- A field that is read is the field that was written, and what was written is read again.
use Rattle.std.proofs.Common.{◌≡◌, ℕ, suc, ◌+◌, ◌^◌, ◌<◌, ◌≤◌, true, false, ltb, List, [], ◌∷◌, ◌++◌, length, take, drop, Result, Ok, refl, sym, ap, subst, ◌∙◌, append_assoc, arith, inl, inr}
use Rattle.std.specs.Prelude.{Some, slice_get}
use Rattle.addr_reading.specs.Steps.{◌>>=◌}
use Rattle.addr_keys.specs.declared.error.KeyErr.{KeyErr}
use Rattle.std.specs.Int.{Width, w16, w32, byte_len, from_le_bytes, to_le_bytes}
use Rattle.std.proofs.lemmas.Bool.{cases_lt, ltb-true, ltb-false, le-ltb, lt-ltb}
use Rattle.std.proofs.lemmas.List.{take_at, drop_at, take-append-drop, length-append, length-take, get_or-drop, get_or-take, get_or_past}
use Rattle.std.proofs.lemmas.Nat.{le_bytes_2, le_bytes_4, from_le_bytes-to_le_bytes_2, from_le_bytes-to_le_bytes_4}
use Rattle.addr_reading.proofs.StepLaws.{bind_ok, ok_is, chosen, guarded}
use Rattle.addr_keys.specs.declared.error.KeyErr.TheVariants.{Short, Negative}
use Rattle.addr_keys.specs.Format.{IsBytes, is_ascii, utf16_bytes, short, long, IsShort, IsLong, IsWide}
use Rattle.addr_keys.specs.Faults.{key_first, body_of_kind, byte_at, number_at, length_at, body_at, ascii_of, utf16_of, short_at, ascii_at, utf16_at}
use Rattle.addr_keys.proofs.BodyLemmas.{ascii_takes, ascii_again, utf16_takes, utf16_again}

pub IsBytes-drop : (n : ℕ) (bytes : List ℕ) → IsBytes bytes → IsBytes (drop n bytes)
IsBytes-drop n bytes h i = rw get_or-drop (h (n + i))

pub IsBytes-take : (n : ℕ) (bytes : List ℕ) → IsBytes bytes → IsBytes (take n bytes)
IsBytes-take n bytes h i =
    elim (cases_lt i n) [
      | inl lt ↦ rw (get_or-take n bytes i 0 lt) (h i)
      | inr le ↦ rw (get_or_past (take n bytes) i 0 (omega (arith, length-take n bytes))) (omega arith)
    ]

-- what a reader took from the front
pub record Takes (bytes text rest : List ℕ) : Type 0 where
  pub parts : bytes ≡ text ++ rest
  pub fits : IsBytes rest

pub Takes-then : (a x b y c : List ℕ) → Takes a x b → Takes b y c → Takes a (x ++ y) c
Takes-then a x b y c p q = record { parts = p.parts ∙ ap (λ (t : List ℕ). x ++ t) q.parts ∙ sym (append_assoc x y c); fits = q.fits }

-- ---- a byte, a number, a length, a body

pub byte_takes : (bytes : List ℕ) (b : ℕ) (rest : List ℕ) → IsBytes bytes → byte_at bytes ≡ Ok (b, rest) → Takes bytes (b ∷ []) rest × (b < 256)
unfolding byte_at
byte_takes [] b rest fits e = absurd cc
byte_takes (x ∷ bytes) b rest fits e =
    subst (λ (p : ℕ × List ℕ). Takes (x ∷ bytes) (p.0 ∷ []) p.1 × (p.0 < 256)) (ok_is (x, bytes) (b, rest) e) (record { parts = refl; fits = λ i. fits (suc i) }, fits 0)

pub byte_again : (b : ℕ) (rest : List ℕ) → byte_at (b ∷ rest) ≡ Ok (b, rest)
unfolding byte_at
byte_again b rest = refl

-- the byte that is taken is the first, and the key is one of that kind
pub byte_first : (bytes : List ℕ) (b : ℕ) (rest : List ℕ) → byte_at bytes ≡ Ok (b, rest) → slice_get bytes 0 ≡ Some b
unfolding byte_at
byte_first [] b rest is = absurd cc
byte_first (x ∷ bytes) b rest is = ap (λ (p : ℕ × List ℕ). Some p.0) (ok_is (x, bytes) (b, rest) is)

pub first_of_kind : (bytes : List ℕ) (kind : ℕ) (rest : List ℕ) → byte_at bytes ≡ Ok (kind, rest) → key_first bytes ≡ body_of_kind kind rest
unfolding key_first
first_of_kind bytes kind rest is = ap (λ (r : Result (ℕ × List ℕ) KeyErr). r >>= λ k. body_of_kind k.0 k.1) is

pub record IsNumber (w : Width) (limit : ℕ) : Type 0 where
  pub len : (n : ℕ) → length (to_le_bytes w n) ≡ byte_len w
  pub back : (bytes : List ℕ) → length bytes ≡ byte_len w → IsBytes bytes → to_le_bytes w (from_le_bytes w bytes) ≡ bytes
  pub again : (n : ℕ) → n < limit → from_le_bytes w (to_le_bytes w n) ≡ n
  pub below : (bytes : List ℕ) → IsBytes bytes → from_le_bytes w bytes < limit

pub number16 : IsNumber w16 (2 ^ 16)
number16 = record {
  len = λ n. refl;
  back = λ bytes len fits. le_bytes_2 bytes _ len fits refl;
  again = λ n lt. from_le_bytes-to_le_bytes_2 n lt;
  below = λ bytes fits. omega (arith, fits 0, fits 1);
}

pub number32 : IsNumber w32 (2 ^ 32)
number32 = record {
  len = λ n. refl;
  back = λ bytes len fits. le_bytes_4 bytes _ len fits refl;
  again = λ n lt. from_le_bytes-to_le_bytes_4 n lt;
  below = λ bytes fits. omega (arith, fits 0, fits 1, fits 2, fits 3);
}

pub number_takes : (w : Width) (limit : ℕ) (number : IsNumber w limit) (bytes : List ℕ) (n : ℕ) (rest : List ℕ) → IsBytes bytes → number_at w bytes ≡ Ok (n, rest) → Takes bytes (to_le_bytes w n) rest × (n < limit)
unfolding number_at
number_takes w limit number bytes n rest fits e =
    let g = guarded (ltb (length bytes) (byte_len w)) Short (Ok (from_le_bytes w (take (byte_len w) bytes), drop (byte_len w) bytes)) (n, rest) e in
    let is = ok_is (from_le_bytes w (take (byte_len w) bytes), drop (byte_len w) bytes) (n, rest) g.1 in
    let enough : byte_len w ≤ length bytes = ltb-false _ _ g.0 in
    let n-is : from_le_bytes w (take (byte_len w) bytes) ≡ n = ap (λ (p : ℕ × List ℕ). p.0) is in
    let rest-is : drop (byte_len w) bytes ≡ rest = ap (λ (p : ℕ × List ℕ). p.1) is in
    let front : to_le_bytes w n ≡ take (byte_len w) bytes = rw (← n-is) (number.back (take (byte_len w) bytes) (omega (arith, length-take (byte_len w) bytes)) (IsBytes-take (byte_len w) bytes fits)) in
    (record { parts = rw (front, ← rest-is) (sym (take-append-drop (byte_len w) bytes)); fits = rw (← rest-is) (IsBytes-drop (byte_len w) bytes fits) }, rw (← n-is) (number.below (take (byte_len w) bytes) (IsBytes-take (byte_len w) bytes fits)))

pub number_again : (w : Width) (limit : ℕ) (number : IsNumber w limit) (n : ℕ) (rest : List ℕ) → n < limit → number_at w (to_le_bytes w n ++ rest) ≡ Ok (n, rest)
unfolding number_at
number_again w limit number n rest lt =
    let len = number.len n in
    let enough : ltb (length (to_le_bytes w n ++ rest)) (byte_len w) ≡ false = le-ltb _ _ (omega (arith, length-append (to_le_bytes w n) rest)) in
    rw (enough, take_at (to_le_bytes w n) rest (byte_len w) len, drop_at (to_le_bytes w n) rest (byte_len w) len, number.again n lt) refl

length_takes : (bytes : List ℕ) (n : ℕ) (rest : List ℕ) → IsBytes bytes → length_at bytes ≡ Ok (n, rest) → Takes bytes (to_le_bytes w32 n) rest × (n < 2 ^ 31)
unfolding length_at
length_takes bytes n rest fits e =
    let a = bind_ok (number_at w32 bytes) _ (n, rest) e in
    let g = chosen (ltb a.0.0 (2 ^ 31)) Negative a.0 (n, rest) a.2 in
    let t = number_takes w32 (2 ^ 32) number32 bytes a.0.0 a.0.1 fits a.1 in
    subst (λ (p : ℕ × List ℕ). Takes bytes (to_le_bytes w32 p.0) p.1 × (p.0 < 2 ^ 31)) g.1 (t.0, ltb-true _ _ g.0)

length_again : (n : ℕ) (rest : List ℕ) → n < 2 ^ 31 → length_at (to_le_bytes w32 n ++ rest) ≡ Ok (n, rest)
unfolding length_at
length_again n rest lt =
    let wide : n < 2 ^ 32 = omega arith in
    rw (number_again w32 (2 ^ 32) number32 n rest wide, lt-ltb n (2 ^ 31) lt) refl

body_takes : (n : ℕ) (bytes body rest : List ℕ) → IsBytes bytes → body_at n bytes ≡ Ok (body, rest) → Takes bytes body rest × (length body ≡ n) × IsBytes body
unfolding body_at
body_takes n bytes body rest fits e =
    let g = guarded (ltb (length bytes) n) Short (Ok (take n bytes, drop n bytes)) (body, rest) e in
    let enough : n ≤ length bytes = ltb-false _ _ g.0 in
    let first : Takes bytes (take n bytes) (drop n bytes) = record { parts = sym (take-append-drop n bytes); fits = IsBytes-drop n bytes fits } in
    subst (λ (p : List ℕ × List ℕ). Takes bytes p.0 p.1 × (length p.0 ≡ n) × IsBytes p.0) (ok_is (take n bytes, drop n bytes) (body, rest) g.1) (first, omega (arith, length-take n bytes), IsBytes-take n bytes fits)

body_again : (body rest : List ℕ) → body_at (length body) (body ++ rest) ≡ Ok (body, rest)
unfolding body_at
body_again body rest =
    let enough : ltb (length (body ++ rest)) (length body) ≡ false = le-ltb _ _ (omega (arith, length-append body rest)) in
    rw (enough, take_at body rest (length body) refl, drop_at body rest (length body) refl) refl

-- ---- texts

-- a body after the length that was read
long_takes : (n : ℕ) (bytes body rest : List ℕ) → length body ≡ n → Takes bytes (to_le_bytes w32 n ++ body) rest → Takes bytes (long body) rest
long_takes n bytes body rest len t = subst (λ (k : ℕ). Takes bytes (to_le_bytes w32 k ++ body) rest) (sym len) t

short_body_takes : (n : ℕ) (bytes body rest : List ℕ) → length body ≡ n → Takes bytes ((n ∷ []) ++ body) rest → Takes bytes (short body) rest
short_body_takes n bytes body rest len t = subst (λ (k : ℕ). Takes bytes ((k ∷ []) ++ body) rest) (sym len) t

pub short_takes : (bytes text rest : List ℕ) → IsBytes bytes → short_at bytes ≡ Ok (text, rest) → Takes bytes (short text) rest × IsShort text
unfolding short_at
short_takes bytes text rest fits e =
    let a = bind_ok (byte_at bytes) _ (text, rest) e in
    let b = bind_ok (body_at a.0.0 a.0.1) _ (text, rest) a.2 in
    let c = bind_ok (ascii_of b.0.0) _ (text, rest) b.2 in
    let first = byte_takes bytes a.0.0 a.0.1 fits a.1 in
    let second = body_takes a.0.0 a.0.1 b.0.0 b.0.1 first.0.fits b.1 in
    let ascii = ascii_takes b.0.0 c.0 c.1 in
    let body-is : b.0.0 ≡ c.0 = ascii.1 in
    let both = Takes-then bytes (a.0.0 ∷ []) a.0.1 b.0.0 b.0.1 first.0 second.0 in
    let len : length c.0 ≡ a.0.0 = sym (ap length body-is) ∙ second.1 in
    let whole : Takes bytes (short c.0) b.0.1 = subst (λ (x : List ℕ). Takes bytes (short x) b.0.1) body-is (short_body_takes a.0.0 bytes b.0.0 b.0.1 second.1 both) in
    subst (λ (p : List ℕ × List ℕ). Takes bytes (short p.0) p.1 × IsShort p.0) (ok_is (c.0, b.0.1) (text, rest) c.2) (whole, (ascii.0, omega (arith, first.1, len)))

pub short_again : (text rest : List ℕ) → IsShort text → short_at (short text ++ rest) ≡ Ok (text, rest)
unfolding short_at
short_again text rest is = rw (byte_again (length text) (text ++ rest), body_again text rest, ascii_again text is.0) refl

pub ascii_at_takes : (bytes text rest : List ℕ) → IsBytes bytes → ascii_at bytes ≡ Ok (text, rest) → Takes bytes (long text) rest × (is_ascii text ≡ true) × IsLong text
unfolding ascii_at
ascii_at_takes bytes text rest fits e =
    let a = bind_ok (length_at bytes) _ (text, rest) e in
    let b = bind_ok (body_at a.0.0 a.0.1) _ (text, rest) a.2 in
    let c = bind_ok (ascii_of b.0.0) _ (text, rest) b.2 in
    let first = length_takes bytes a.0.0 a.0.1 fits a.1 in
    let second = body_takes a.0.0 a.0.1 b.0.0 b.0.1 first.0.fits b.1 in
    let ascii = ascii_takes b.0.0 c.0 c.1 in
    let body-is : b.0.0 ≡ c.0 = ascii.1 in
    let both = Takes-then bytes (to_le_bytes w32 a.0.0) a.0.1 b.0.0 b.0.1 first.0 second.0 in
    let len : length c.0 ≡ a.0.0 = sym (ap length body-is) ∙ second.1 in
    let whole : Takes bytes (long c.0) b.0.1 = subst (λ (x : List ℕ). Takes bytes (long x) b.0.1) body-is (long_takes a.0.0 bytes b.0.0 b.0.1 second.1 both) in
    subst (λ (p : List ℕ × List ℕ). Takes bytes (long p.0) p.1 × (is_ascii p.0 ≡ true) × IsLong p.0) (ok_is (c.0, b.0.1) (text, rest) c.2) (whole, ascii.0, omega (arith, first.1, len))

pub ascii_at_again : (text rest : List ℕ) → is_ascii text ≡ true → IsLong text → ascii_at (long text ++ rest) ≡ Ok (text, rest)
unfolding ascii_at
ascii_at_again text rest ascii long = rw (append_assoc (to_le_bytes w32 (length text)) text rest, length_again (length text) (text ++ rest) long, body_again text rest, ascii_again text ascii) refl

pub utf16_at_takes : (bytes text rest : List ℕ) → IsBytes bytes → utf16_at bytes ≡ Ok (text, rest) → Takes bytes (long (utf16_bytes text)) rest × IsWide text
unfolding utf16_at
utf16_at_takes bytes text rest fits e =
    let a = bind_ok (length_at bytes) _ (text, rest) e in
    let b = bind_ok (body_at a.0.0 a.0.1) _ (text, rest) a.2 in
    let c = bind_ok (utf16_of b.0.0) _ (text, rest) b.2 in
    let first = length_takes bytes a.0.0 a.0.1 fits a.1 in
    let second = body_takes a.0.0 a.0.1 b.0.0 b.0.1 first.0.fits b.1 in
    let wide = utf16_takes b.0.0 c.0 second.2 c.1 in
    let body-is : b.0.0 ≡ utf16_bytes c.0 = sym wide.1 in
    let both = Takes-then bytes (to_le_bytes w32 a.0.0) a.0.1 b.0.0 b.0.1 first.0 second.0 in
    let len : length (utf16_bytes c.0) ≡ a.0.0 = sym (ap length body-is) ∙ second.1 in
    let whole : Takes bytes (long (utf16_bytes c.0)) b.0.1 = subst (λ (x : List ℕ). Takes bytes (long x) b.0.1) body-is (long_takes a.0.0 bytes b.0.0 b.0.1 second.1 both) in
    subst (λ (p : List ℕ × List ℕ). Takes bytes (long (utf16_bytes p.0)) p.1 × IsWide p.0) (ok_is (c.0, b.0.1) (text, rest) c.2) (whole, (wide.0, omega (arith, first.1, len)))

pub utf16_at_again : (text rest : List ℕ) → IsWide text → utf16_at (long (utf16_bytes text) ++ rest) ≡ Ok (text, rest)
unfolding utf16_at
utf16_at_again text rest is =
    let body = utf16_bytes text in
    rw (append_assoc (to_le_bytes w32 (length body)) body rest, length_again (length body) (body ++ rest) is.1, body_again body rest, utf16_again text is.0) refl

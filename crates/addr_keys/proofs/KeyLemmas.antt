-- The two laws of reading a key: what is read stands there in a form of it, and a form that stands there is read.
use Rattle.std.proofs.Common.{◌≡◌, ℕ, ◌+◌, ◌-◌, ◌^◌, ◌<◌, Bool, true, false, cond, eqb, List, [], ◌∷◌, ◌++◌, length, drop, Result, Ok, refl, sym, ap, subst, ◌∙◌, append_assoc, arith, rules, inl, inr}
use Rattle.std.specs.Prelude.{ℤ, slice_range, FitsSigned}
use Rattle.std.specs.Int.{w16, w32, to_le_bytes, cast_signed, cast_unsigned}
use Rattle.std.proofs.lemmas.Bool.{eqb-true}
use Rattle.std.proofs.lemmas.Int.{of_z-to_z, to_z-of_z, ints}
use Rattle.std.proofs.lemmas.List.{length-append, length-drop, take_at}
use Rattle.std.proofs.lemmas.List.Folds.{drop_split}
use Rattle.addr_reading.proofs.StepLaws.{bind_ok, ok_is}
use Rattle.addr_keys.specs.declared.key.Key.{Key}
use Rattle.addr_keys.specs.declared.key.Key.TheVariants as keys
use Rattle.addr_keys.specs.declared.error.KeyErr.{KeyErr}
use Rattle.addr_keys.specs.Format.{IsBytes, utf16_bytes, short, long, IsForm, IsShort, IsWide, KeyAt}
use Rattle.addr_keys.specs.Faults.{made, byte_at, number_at, short_at, ascii_at, utf16_at, json_at, body_of_kind, key_first, key_read}
use Rattle.addr_keys.proofs.FieldLemmas.{IsBytes-drop, Takes, Takes-then, number16, number32, byte_takes, number_takes, number_again, short_takes, short_again, ascii_at_takes, ascii_at_again, utf16_at_takes, utf16_at_again}

-- a body of some kind was taken, and kind and body are a form of the key
pub record TakesKey (kind : ℕ) (bytes : List ℕ) (key : Key) (rest : List ℕ) : Type 0 where
  pub body : List ℕ
  pub form : IsForm key (kind ∷ body)
  pub takes : Takes bytes body rest

abbrev TakesPair : ℕ → List ℕ → Key × List ℕ → Type 0
TakesPair kind bytes x = TakesKey kind bytes x.0 x.1

-- what a reader of bodies takes, as a form of the key that is made of it
made_takes : {A : Type 0} (kind : ℕ) (bytes : List ℕ) (key : A → Key) (read : Result (A × List ℕ) KeyErr) (x : Key × List ℕ)
    → ((y : A × List ℕ) → read ≡ Ok y → TakesKey kind bytes (key y.0) y.1) → made key read ≡ Ok x → TakesKey kind bytes x.0 x.1
made_takes kind bytes key read x each e =
    let a = bind_ok read (λ y. Ok (key y.0, y.1)) x e in
    subst (λ (p : Key × List ℕ). TakesKey kind bytes p.0 p.1) (ok_is (key a.0.0, a.0.1) x a.2) (each a.0 a.1)

fits_cast : (n : ℕ) → n < 2 ^ 32 → FitsSigned w32 (cast_signed w32 n)
fits_cast n lt = first_of (search rules, omega (arith, ints), grind (arith, ints))

json_takes : (bytes : List ℕ) (x : Key × List ℕ) → IsBytes bytes → json_at bytes ≡ Ok x → TakesKey 7 bytes x.0 x.1
unfolding json_at
json_takes bytes x fits e =
    let a = bind_ok (short_at bytes) _ x e in
    let b = bind_ok (short_at a.0.1) _ x a.2 in
    let c = bind_ok (utf16_at b.0.1) _ x b.2 in
    let first = short_takes bytes a.0.0 a.0.1 fits a.1 in
    let second = short_takes a.0.1 b.0.0 b.0.1 first.0.fits b.1 in
    let third = utf16_at_takes b.0.1 c.0.0 c.0.1 second.0.fits c.1 in
    let tail = Takes-then a.0.1 (short b.0.0) b.0.1 (long (utf16_bytes c.0.0)) c.0.1 second.0 third.0 in
    let whole = Takes-then bytes (short a.0.0) a.0.1 (short b.0.0 ++ long (utf16_bytes c.0.0)) c.0.1 first.0 tail in
    subst (λ (p : Key × List ℕ). TakesKey 7 bytes p.0 p.1) (ok_is (keys.Json a.0.0 b.0.0 c.0.0, c.0.1) x c.2)
    (record { body = short a.0.0 ++ (short b.0.0 ++ long (utf16_bytes c.0.0)); form = (first.1, second.1, third.1, refl); takes = whole })

by_test : {A : Type 0} (P : Type 0) (t : Bool) (x y z : A) → cond t x y ≡ z → (t ≡ true → x ≡ z → P) → (y ≡ z → P) → P
by_test P true x y z e here later = here refl e
by_test P false x y z e here later = later e

-- a kind that was tested, in place of its number
at_kind : (k : ℕ) (kind : ℕ) (bytes : List ℕ) (key : Key) (rest : List ℕ) → eqb kind k ≡ true → TakesKey k bytes key rest → TakesKey kind bytes key rest
at_kind k kind bytes key rest e t = subst (λ (n : ℕ). TakesKey n bytes key rest) (sym (eqb-true kind k e)) t

i32_takes : (bytes : List ℕ) (y : ℕ × List ℕ) → IsBytes bytes → number_at w32 bytes ≡ Ok y → TakesKey 4 bytes (keys.I32 (cast_signed w32 y.0)) y.1
i32_takes bytes y fits e =
    let t = number_takes w32 (2 ^ 32) number32 bytes y.0 y.1 fits e in
    let back : cast_unsigned w32 (cast_signed w32 y.0) ≡ y.0 = of_z-to_z w32 y.0 t.1 in
    record { body = to_le_bytes w32 y.0; form = (fits_cast y.0 t.1, ap (λ (n : ℕ). 4 ∷ to_le_bytes w32 n) (sym back)); takes = t.0 }

kind_takes : (kind : ℕ) (bytes : List ℕ) (x : Key × List ℕ) → IsBytes bytes → body_of_kind kind bytes ≡ Ok x → TakesKey kind bytes x.0 x.1
unfolding body_of_kind
kind_takes kind bytes x fits e =
    by_test (TakesPair kind bytes x) (eqb kind 0) _ _ _ e
    (λ t r. at_kind 0 kind bytes x.0 x.1 t (made_takes 0 bytes keys.Text (ascii_at bytes) x (λ y f. let t = ascii_at_takes bytes y.0 y.1 fits f in record { body = long y.0; form = inl (t.1, t.2, refl); takes = t.0 }) r))
    (λ e1. by_test (TakesPair kind bytes x) (eqb kind 1) _ _ _ e1
    (λ t r. at_kind 1 kind bytes x.0 x.1 t (made_takes 1 bytes keys.Text (utf16_at bytes) x (λ y f. let t = utf16_at_takes bytes y.0 y.1 fits f in record { body = long (utf16_bytes y.0); form = inr (t.1, refl); takes = t.0 }) r))
    (λ e2. by_test (TakesPair kind bytes x) (eqb kind 2) _ _ _ e2
    (λ t r. at_kind 2 kind bytes x.0 x.1 t (made_takes 2 bytes keys.U16 (number_at w16 bytes) x (λ y f. let t = number_takes w16 (2 ^ 16) number16 bytes y.0 y.1 fits f in record { body = to_le_bytes w16 y.0; form = (t.1, refl); takes = t.0 }) r))
    (λ e3. by_test (TakesPair kind bytes x) (eqb kind 3) _ _ _ e3
    (λ t r. at_kind 3 kind bytes x.0 x.1 t (made_takes 3 bytes keys.U32 (number_at w32 bytes) x (λ y f. let t = number_takes w32 (2 ^ 32) number32 bytes y.0 y.1 fits f in record { body = to_le_bytes w32 y.0; form = (t.1, refl); takes = t.0 }) r))
    (λ e4. by_test (TakesPair kind bytes x) (eqb kind 4) _ _ _ e4
    (λ t r. at_kind 4 kind bytes x.0 x.1 t (made_takes 4 bytes (λ n. keys.I32 (cast_signed w32 n)) (number_at w32 bytes) x (λ y f. i32_takes bytes y fits f) r))
    (λ e5. by_test (TakesPair kind bytes x) (eqb kind 5) _ _ _ e5
    (λ t r. at_kind 5 kind bytes x.0 x.1 t (made_takes 5 bytes keys.Hash (short_at bytes) x (λ y f. let t = short_takes bytes y.0 y.1 fits f in record { body = short y.0; form = (t.1, refl); takes = t.0 }) r))
    (λ e6. by_test (TakesPair kind bytes x) (eqb kind 6) _ _ _ e6
    (λ t r. at_kind 6 kind bytes x.0 x.1 t (made_takes 6 bytes keys.TypeId (short_at bytes) x (λ y f. let t = short_takes bytes y.0 y.1 fits f in record { body = short y.0; form = (t.1, refl); takes = t.0 }) r))
    (λ e7. by_test (TakesPair kind bytes x) (eqb kind 7) _ _ _ e7
    (λ t r. at_kind 7 kind bytes x.0 x.1 t (json_takes bytes x fits r))
    (λ e8. absurd cc))))))))

-- a form at the front, and the key that has it
pub record TakesForm (bytes : List ℕ) (key : Key) (rest : List ℕ) : Type 0 where
  pub text : List ℕ
  pub filled : 0 < length text
  pub form : IsForm key text
  pub takes : Takes bytes text rest

pub key_takes : (bytes : List ℕ) (x : Key × List ℕ) → IsBytes bytes → key_first bytes ≡ Ok x → TakesForm bytes x.0 x.1
unfolding key_first
key_takes bytes x fits e =
    let a = bind_ok (byte_at bytes) _ x e in
    let first = byte_takes bytes a.0.0 a.0.1 fits a.1 in
    let second = kind_takes a.0.0 a.0.1 x first.0.fits a.2 in
    record { text = a.0.0 ∷ second.body; filled = omega arith; form = second.form; takes = Takes-then bytes (a.0.0 ∷ []) a.0.1 second.body x.1 first.0 second.takes }

-- ---- the other way

unsigned_fits : (z : ℤ) → FitsSigned w32 z → cast_unsigned w32 z < 2 ^ 32
unsigned_fits z fits = omega (arith, ints)

i32_again : (z : ℤ) (rest : List ℕ) → FitsSigned w32 z → made (λ n. keys.I32 (cast_signed w32 n)) (number_at w32 (to_le_bytes w32 (cast_unsigned w32 z) ++ rest)) ≡ Ok (keys.I32 z, rest)
i32_again z rest fits =
    ap (made (λ n. keys.I32 (cast_signed w32 n))) (number_again w32 (2 ^ 32) number32 (cast_unsigned w32 z) rest (unsigned_fits z fits))
    ∙ ap (λ (s : ℤ). Ok (keys.I32 s, rest)) (to_z-of_z w32 z fits)

regroup : (a b c rest : List ℕ) → (a ++ (b ++ c)) ++ rest ≡ a ++ (b ++ (c ++ rest))
regroup a b c rest = simp append_assoc

json_again : (assembly class text rest : List ℕ) → IsShort assembly → IsShort class → IsWide text
    → json_at ((short assembly ++ (short class ++ long (utf16_bytes text))) ++ rest) ≡ Ok (keys.Json assembly class text, rest)
unfolding json_at
json_again assembly class text rest first second third =
    let tail = long (utf16_bytes text) in
    ap json_at (regroup (short assembly) (short class) tail rest)
    ∙ rw (short_again assembly (short class ++ (tail ++ rest)) first, short_again class (tail ++ rest) second, utf16_at_again text rest third) refl

pub key_again : (key : Key) (form rest : List ℕ) → IsForm key form → key_first (form ++ rest) ≡ Ok (key, rest)
unfolding key_first body_of_kind byte_at
key_again (keys.Text text) form rest (inl is) = rw (is.2) (rw (ascii_at_again text rest is.0 is.1) refl)
key_again (keys.Text text) form rest (inr is) = rw (is.1) (rw (utf16_at_again text rest is.0) refl)
key_again (keys.U16 n) form rest is = rw (is.1) (rw (number_again w16 (2 ^ 16) number16 n rest is.0) refl)
key_again (keys.U32 n) form rest is = rw (is.1) (rw (number_again w32 (2 ^ 32) number32 n rest is.0) refl)
key_again (keys.I32 z) form rest is = rw (is.1) (i32_again z rest is.0)
key_again (keys.Hash text) form rest is = rw (is.1) (rw (short_again text rest is.0) refl)
key_again (keys.TypeId text) form rest is = rw (is.1) (rw (short_again text rest is.0) refl)
key_again (keys.Json assembly class text) form rest is = rw (is.3) (json_again assembly class text rest is.0 is.1 is.2)

-- ---- at a place

cut_of : (bytes text rest : List ℕ) (at end : ℕ) → drop at bytes ≡ text ++ rest → end - at ≡ length text → slice_range bytes at end ≡ text
cut_of bytes text rest at end parts many = rw (many, parts) (take_at text rest (length text) refl)

pub is_found : (bytes : List ℕ) (at : ℕ) (x : Key × ℕ) → IsBytes bytes → key_read bytes at ≡ Ok x → KeyAt bytes at x.0 x.1
unfolding key_read
is_found bytes at x fits e =
    let a = bind_ok (key_first (drop at bytes)) _ x e in
    let t = key_takes (drop at bytes) a.0 (IsBytes-drop at bytes fits) a.1 in
    let len : length bytes - at ≡ length t.text + length a.0.1 = sym (length-drop at bytes) ∙ ap length t.takes.parts ∙ length-append t.text a.0.1 in
    let filled = t.filled in
    let end = length bytes - length a.0.1 in
    let many : end - at ≡ length t.text = omega arith in
    let cut = cut_of bytes t.text a.0.1 at end t.takes.parts many in
    subst (λ (p : Key × ℕ). KeyAt bytes at p.0 p.1) (ok_is (a.0.0, end) x a.2) (omega arith, omega arith, subst (IsForm a.0.0) (sym cut) t.form)

pub is_read : (bytes : List ℕ) (at : ℕ) (key : Key) (end : ℕ) → KeyAt bytes at key end → key_read bytes at ≡ Ok (key, end)
unfolding key_read
is_read bytes at key end is =
    let again = key_again key (slice_range bytes at end) (drop end bytes) is.2 in
    let place : length bytes - length (drop end bytes) ≡ end = omega (arith, length-drop end bytes, is.1) in
    rw (drop_split bytes at end is.0, again, place) refl

-- A field that is read is the field that was written, and what was written is read again.
use Rattle.std.proofs.Common.{◌≡◌, ℕ, ◌^◌, ◌<◌, ◌≤◌, Bool, true, false, cond, ltb, List, ◌++◌, length, take, Option, Some, None, Result, Ok, Err, refl, sym, ap, subst, ◌∙◌, arith, length-append, length-take, bytes_eq}
use Rattle.std.specs.Int.{Width, w32, w64, byte_len, from_le_bytes, to_le_bytes}
use Rattle.std.proofs.lemmas.Bool.{ltb-false, le-ltb}
use Rattle.std.proofs.lemmas.List.{take_at, drop_at, take-append-drop}
use Rattle.std.proofs.lemmas.Nat.{le_bytes_4, le_bytes_8, from_le_bytes-to_le_bytes_4, from_le_bytes-to_le_bytes_8}
use Rattle.std.proofs.lemmas.Slice.Eq.{bytes_eq-Decides}
use Rattle.addr_unityfs.specs.Faults.{Tail, place, past}
use Rattle.addr_unityfs.proofs.FieldLaws.{IsBytes, IsBytes-drop, IsBytes-take, Takes}
use Rattle.addr_cab.specs.declared.error.CabErr.{CabErr}
use Rattle.addr_cab.specs.declared.error.CabErr.TheVariants.{Short, Magic, Order}
use Rattle.addr_cab.specs.Spelling.{magic, is_above}
use Rattle.addr_cab.specs.Faults.{◌>>=◌, bytes_at, number_at, magic_at, above_at, or_fault, unless}

-- the value of a step that did not fail
pub bind_ok : {A B : Type 0} (r : Result A CabErr) (f : A → Result B CabErr) (y : B) → (r >>= f) ≡ Ok y → (x : A) × (r ≡ Ok x) × (f x ≡ Ok y)
bind_ok (Ok x) f y e = (x, refl, e)
bind_ok (Err d) f y e = absurd cc

-- a test that did not fail
pub guard_ok : {A : Type 0} (b : Bool) (d : CabErr) (r : Result A CabErr) (y : A) → cond b (Err d) r ≡ Ok y → (b ≡ false) × (r ≡ Ok y)
guard_ok true d r y e = absurd cc
guard_ok false d r y e = (refl, e)

pub test_ok : {A : Type 0} (b : Bool) (d : CabErr) (r : Result A CabErr) (y : A) → cond b r (Err d) ≡ Ok y → (b ≡ true) × (r ≡ Ok y)
test_ok true d r y e = (refl, e)
test_ok false d r y e = absurd cc

pub unless_ok : {A : Type 0} (o : Option CabErr) (x y : A) → unless o x ≡ Ok y → (o ≡ None) × (x ≡ y)
unless_ok None x y e = (refl, cc)
unless_ok (Some d) x y e = absurd cc

pub some_ok : {A : Type 0} (o : Option A) (d : CabErr) (x : A) → or_fault o d ≡ Ok x → o ≡ Some x
some_ok (Some y) d x e = cc
some_ok None d x e = absurd cc

abbrev done : {A : Type 0} → A → Result A CabErr
done x = Ok x

pub ok_is : {A : Type 0} (x y : A) → done x ≡ done y → x ≡ y
ok_is x y e = cc

-- ---- bytes

pub bytes_takes : (n : ℕ) (c : Tail) (x : List ℕ × Tail) → IsBytes c.rest → bytes_at n c ≡ Ok x → Takes c x.0 x.1 × (length x.0 ≡ n)
unfolding bytes_at
bytes_takes n c x fits e =
    let g = guard_ok (ltb (length c.rest) n) (Short (place c)) (Ok (take n c.rest, past n c)) x e in
    let long : n ≤ length c.rest = ltb-false _ _ g.0 in
    let taken : Takes c (take n c.rest) (past n c) = record { parts = sym (take-append-drop n c.rest); end = refl; fits = IsBytes-drop n c.rest fits } in
    subst (λ (y : List ℕ × Tail). Takes c y.0 y.1 × (length y.0 ≡ n)) (ok_is _ _ g.1) (taken, omega (arith, length-take n c.rest))

pub bytes_again : (n end : ℕ) (bytes rest : List ℕ) → length bytes ≡ n → bytes_at n (record { end = end; rest = bytes ++ rest }) ≡ Ok (bytes, record { end = end; rest = rest })
unfolding bytes_at
bytes_again n end bytes rest len =
    let long : ltb (length (bytes ++ rest)) n ≡ false = le-ltb _ _ (omega (arith, length-append bytes rest)) in
    rw (long, take_at bytes rest n len, drop_at bytes rest n len) refl

pub magic_len : length magic ≡ 4
unfolding magic
magic_len = refl

pub magic_takes : (c d : Tail) → IsBytes c.rest → magic_at c ≡ Ok d → Takes c magic d
unfolding magic_at
magic_takes c d fits e =
    let first = bind_ok (bytes_at 4 c) _ d e in
    let taken = bytes_takes 4 c first.0 fits first.1 in
    let tested = test_ok (bytes_eq first.0.0 magic) Magic (Ok first.0.1) d first.2 in
    let same : first.0.0 ≡ magic = (bytes_eq-Decides first.0.0 magic).0 tested.0 in
    subst (λ text. Takes c text d) same (subst (λ (y : Tail). Takes c first.0.0 y) (ok_is _ _ tested.1) taken.0)

pub above_takes : (last : Option (List ℕ)) (c : Tail) (x : List ℕ × Tail) → IsBytes c.rest → above_at last c ≡ Ok x → Takes c x.0 x.1 × (length x.0 ≡ 16) × (is_above last x.0 ≡ true)
unfolding above_at
above_takes last c x fits e =
    let bytes = bind_ok (bytes_at 16 c) _ x e in
    let taken = bytes_takes 16 c bytes.0 fits bytes.1 in
    let tested = test_ok (is_above last bytes.0.0) (Order (place c)) (Ok bytes.0) x bytes.2 in
    subst (λ (y : List ℕ × Tail). Takes c y.0 y.1 × (length y.0 ≡ 16) × (is_above last y.0 ≡ true)) (ok_is _ _ tested.1) (taken.0, taken.1, tested.0)

pub above_again : (last : Option (List ℕ)) (end : ℕ) (bytes rest : List ℕ) → length bytes ≡ 16 → is_above last bytes ≡ true → above_at last (record { end = end; rest = bytes ++ rest }) ≡ Ok (bytes, record { end = end; rest = rest })
unfolding above_at
above_again last end bytes rest len above = rw (bytes_again 16 end bytes rest len, above) refl

-- ---- numbers

pub record IsWide (w : Width) (limit : ℕ) : Type 0 where
  pub len : (n : ℕ) → length (to_le_bytes w n) ≡ byte_len w
  pub back : (bytes : List ℕ) → length bytes ≡ byte_len w → IsBytes bytes → to_le_bytes w (from_le_bytes w bytes) ≡ bytes
  pub again : (n : ℕ) → n < limit → from_le_bytes w (to_le_bytes w n) ≡ n
  pub below : (bytes : List ℕ) → IsBytes bytes → from_le_bytes w bytes < limit

pub wide32 : IsWide w32 (2 ^ 32)
wide32 = record {
  len = λ n. refl;
  back = λ bytes len fits. le_bytes_4 bytes _ len fits refl;
  again = λ n lt. from_le_bytes-to_le_bytes_4 n lt;
  below = λ bytes fits. omega (arith, fits 0, fits 1, fits 2, fits 3);
}

pub wide64 : IsWide w64 (2 ^ 64)
wide64 = record {
  len = λ n. refl;
  back = λ bytes len fits. le_bytes_8 bytes _ len fits refl;
  again = λ n lt. from_le_bytes-to_le_bytes_8 n lt;
  below = λ bytes fits. omega (arith, fits 0, fits 1, fits 2, fits 3, fits 4, fits 5, fits 6, fits 7);
}

pub number_takes : (w : Width) (limit : ℕ) (wide : IsWide w limit) (c : Tail) (x : ℕ × Tail) → IsBytes c.rest → number_at w c ≡ Ok x → Takes c (to_le_bytes w x.0) x.1 × (x.0 < limit)
unfolding number_at
number_takes w limit wide c x fits e =
    let k = byte_len w in
    let bytes = bind_ok (bytes_at k c) _ x e in
    let taken = bytes_takes k c bytes.0 fits bytes.1 in
    let front : IsBytes bytes.0.0 = subst IsBytes (ap (take k) taken.0.parts ∙ take_at bytes.0.0 bytes.0.1.rest k taken.1) (IsBytes-take k c.rest fits) in
    let back : to_le_bytes w (from_le_bytes w bytes.0.0) ≡ bytes.0.0 = wide.back bytes.0.0 taken.1 front in
    let number : Takes c (to_le_bytes w (from_le_bytes w bytes.0.0)) bytes.0.1 = subst (λ (text : List ℕ). Takes c text bytes.0.1) (sym back) taken.0 in
    subst (λ (y : ℕ × Tail). Takes c (to_le_bytes w y.0) y.1 × (y.0 < limit)) (ok_is _ _ bytes.2) (number, wide.below bytes.0.0 front)

pub number_again : (w : Width) (limit : ℕ) (wide : IsWide w limit) (n end : ℕ) (rest : List ℕ) → n < limit → number_at w (record { end = end; rest = to_le_bytes w n ++ rest }) ≡ Ok (n, record { end = end; rest = rest })
unfolding number_at
number_again w limit wide n end rest lt = rw (bytes_again (byte_len w) end (to_le_bytes w n) rest (wide.len n), wide.again n lt) refl

-- ---- the first bytes

pub magic_again : (end : ℕ) (rest : List ℕ) → magic_at (record { end = end; rest = magic ++ rest }) ≡ Ok (record { end = end; rest = rest })
unfolding magic_at
magic_again end rest = rw (bytes_again 4 end magic rest magic_len, (bytes_eq-Decides magic magic).1 refl) refl

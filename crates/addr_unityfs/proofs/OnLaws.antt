-- A header that is read from the bytes so far is the whole file's, and so is its first fault, unless something is missing.
use Rattle.std.proofs.Common.{◌≡◌, ℕ, ◌+◌, ◌<◌, ◌≤◌, Bool, true, false, cond, ltb, ◌||◌, List, ◌++◌, length, take, Option, Some, None, Result, Ok, Err, refl, sym, ap, subst, ◌∙◌, arith, length-append, length-drop, bytes_eq}
use Rattle.std.specs.List.{position, position_or_len}
use Rattle.std.specs.Int.{Width, w32, w64, byte_len, from_be_bytes}
use Rattle.std.proofs.lemmas.Bool.{ltb-false, le-ltb, lt-ltb}
use Rattle.std.proofs.lemmas.List.{take-append-le, drop-append-le, get_or_append_left}
use Rattle.std.proofs.lemmas.List.Quantifiers.{position-Some}
use Rattle.std.proofs.lemmas.List.Sums.{position_or_len_is}
use Rattle.addr_unityfs.specs.Faults.{Head, ◌>>=◌, Tail, place, whole, past, number_at, cut_at_zero, text_at, signature_at, version_at, head_at, header_read}
use Rattle.addr_unityfs.specs.declared.error.FsErr.{FsErr}
use Rattle.addr_unityfs.specs.declared.error.FsErr.TheVariants.{Short, Signature, Version}
use Rattle.addr_unityfs.specs.Spelling.{signature}
use Rattle.addr_unityfs.specs.Early.{told}
use Rattle.addr_unityfs.proofs.FieldLaws.{ok_is, is_zero}
use Rattle.addr_unityfs.proofs.PastLaws.{head_past}

abbrev pub on : List ℕ → Tail → Tail
on more c = record { end = c.end + length more; rest = c.rest ++ more }

abbrev IsTold : FsErr → Type 0
IsTold d = told d ≡ Some d

-- what is read of the bytes so far is read of the whole: a value, and a fault for which nothing is missing
pub record GoesOn {A : Type 0} (r s : Result A FsErr) (up : A → A) : Type 0 where
  pub value : (x : A) → r ≡ Ok x → s ≡ Ok (up x)
  pub fault : (d : FsErr) → IsTold d → r ≡ Err d → s ≡ Err d

pub ok_goes : {A : Type 0} (x : A) (s : Result A FsErr) (up : A → A) → s ≡ Ok (up x) → GoesOn (Ok x) s up
ok_goes x s up e = record { value = λ y same. e ∙ ap (λ z. Ok (up z)) (ok_is x y same); fault = λ d told same. absurd cc }

abbrev failed : (A : Type 0) → FsErr → Result A FsErr
failed A e = Err e

fault_of_err : {A : Type 0} (e d : FsErr) → failed A e ≡ failed A d → e ≡ d
fault_of_err e d same = cc

err_goes : {A : Type 0} (e : FsErr) (s : Result A FsErr) (up : A → A) → (IsTold e → s ≡ Err e) → GoesOn (Err e) s up
err_goes e s up same = record {
  value = λ y is. absurd cc;
  fault = λ d is given. let at : e ≡ d = fault_of_err e d given in subst (λ (x : FsErr). s ≡ Err x) at (same (subst IsTold (sym at) is));
}

pub goes_then : {A B : Type 0} (r s : Result A FsErr) (up : A → A) (f : A → Result B FsErr) (down : B → B) → GoesOn r s up → ((x : A) → GoesOn (f x) (f (up x)) down) → GoesOn (r >>= f) (s >>= f) down
goes_then {B = B} (Ok x) s up f down first more = subst (λ (t : Result B FsErr). GoesOn (f x) t down) (sym (ap (λ t. t >>= f) (first.value x refl))) (more x)
goes_then (Err e) s up f down first more = err_goes e (s >>= f) down (λ is. ap (λ t. t >>= f) (first.fault e is refl))

short_told : (at : ℕ) → IsTold (Short at) → ⊥
short_told at e = absurd cc

-- a test for which the bytes may be missing, and what is read where they are there
room_goes : {A : Type 0} (short : Bool) (at : ℕ) (r s : Result A FsErr) (up : A → A) → (short ≡ false → GoesOn r s up) → GoesOn (cond short (Err (Short at)) r) s up
room_goes true at r s up goes = err_goes (Short at) s up (λ is. absurd (short_told at is))
room_goes false at r s up goes = goes refl

-- a test that is the same of both
test_goes : {A : Type 0} (b : Bool) (r r' s s' : Result A FsErr) (up : A → A) → GoesOn r r' up → GoesOn s s' up → GoesOn (cond b r s) (cond b r' s') up
test_goes true r r' s s' up first second = first
test_goes false r r' s s' up first second = second

abbrev pub behind : {A : Type 0} → List ℕ → A × Tail → A × Tail
behind more x = (x.0, on more x.1)

past_on : (n : ℕ) (more : List ℕ) (c : Tail) → n ≤ length c.rest → past n (on more c) ≡ on more (past n c)
past_on n more c long = ap (λ (r : List ℕ). record { end = c.end + length more; rest = r }) (drop-append-le n c.rest more long)

there : (n : ℕ) (more : List ℕ) (c : Tail) → n ≤ length c.rest → ltb (length (c.rest ++ more)) n ≡ false
there n more c long = le-ltb _ _ (omega (arith, long, length-append c.rest more))

number_goes : (w : Width) (more : List ℕ) (c : Tail) → GoesOn (number_at w c) (number_at w (on more c)) (behind more)
unfolding number_at
number_goes w more c =
    let k = byte_len w in
    room_goes (ltb (length c.rest) k) (place c) (Ok (from_be_bytes w (take k c.rest), past k c)) _ (behind more) (λ room.
    let long : k ≤ length c.rest = ltb-false _ _ room in
    ok_goes (from_be_bytes w (take k c.rest), past k c) _ (behind more) (rw (there k more c long, take-append-le k c.rest more long, drop-append-le k c.rest more long) refl))

zero_on : (bytes more : List ℕ) (n : ℕ) → position is_zero bytes ≡ Some n → position is_zero (bytes ++ more) ≡ Some n
zero_on bytes more n e =
    let found = position-Some is_zero bytes n 0 e in
    let long : n < length (bytes ++ more) = omega (arith, found.0, length-append bytes more) in
    let first : position_or_len is_zero (bytes ++ more) ≡ n =
    position_or_len_is is_zero (bytes ++ more) n 0 (omega (arith, long))
    (λ k lt. ap is_zero (get_or_append_left bytes more 0 k (omega (arith, lt, found.0))) ∙ found.2 k lt)
    (λ lt. ap is_zero (get_or_append_left bytes more 0 n found.0) ∙ found.1)
    in
    rw (first, lt-ltb n (length (bytes ++ more)) long) refl

cut_goes : (more : List ℕ) (c : Tail) (o p : Option ℕ) → ((n : ℕ) → o ≡ Some n → (p ≡ Some n) × (n < length c.rest)) → GoesOn (cut_at_zero c o) (cut_at_zero (on more c) p) (behind more)
cut_goes more c None p found = err_goes (Short (place c)) _ (behind more) (λ is. absurd (short_told (place c) is))
cut_goes more c (Some n) p found =
    let lt = (found n refl).1 in
    ok_goes (take n c.rest, past (n + 1) c) _ (behind more) (ap (cut_at_zero (on more c)) (found n refl).0 ∙ rw (take-append-le n c.rest more (omega (arith, lt)), drop-append-le (n + 1) c.rest more (omega (arith, lt))) refl)

pub text_goes : (more : List ℕ) (c : Tail) → GoesOn (text_at c) (text_at (on more c)) (behind more)
unfolding text_at
text_goes more c = cut_goes more c (position is_zero c.rest) (position is_zero (c.rest ++ more)) (λ n e. (zero_on c.rest more n e, (position-Some is_zero c.rest n 0 e).0))

pub signature_goes : (more : List ℕ) (c : Tail) → GoesOn (signature_at c) (signature_at (on more c)) (on more)
unfolding signature_at
signature_goes more c =
    room_goes (ltb (length c.rest) 8) c.end (cond (bytes_eq (take 8 c.rest) signature) (Ok (past 8 c)) (Err Signature)) _ (on more) (λ room.
    let long : 8 ≤ length c.rest = ltb-false _ _ room in
    rw (there 8 more c long, take-append-le 8 c.rest more long) (test_goes (bytes_eq (take 8 c.rest) signature) (Ok (past 8 c)) (Ok (past 8 (on more c))) (Err Signature) (Err Signature) (on more)
    (ok_goes (past 8 c) _ (on more) (ap Ok (past_on 8 more c long))) (err_goes Signature (Err Signature) (on more) (λ is. refl))))

pub version_goes : (more : List ℕ) (c : Tail) → GoesOn (version_at c) (version_at (on more c)) (behind more)
unfolding version_at
version_goes more c =
    goes_then (number_at w32 c) (number_at w32 (on more c)) (behind more) (λ v. cond (ltb v.0 6 || ltb 8 v.0) (Err (Version v.0)) (Ok v)) (behind more) (number_goes w32 more c) (λ v.
    test_goes (ltb v.0 6 || ltb 8 v.0) (Err (Version v.0)) (Err (Version v.0)) (Ok v) (Ok (behind more v)) (behind more) (err_goes (Version v.0) (Err (Version v.0)) (behind more) (λ is. refl)) (ok_goes v _ (behind more) refl))

head_goes : (more : List ℕ) (c : Tail) → GoesOn (head_at c) (head_at (on more c)) (behind more)
unfolding head_at
head_goes more c =
    goes_then _ _ _ _ _ (signature_goes more c) (λ signed. goes_then _ _ _ _ _ (version_goes more signed) (λ version. goes_then _ _ _ _ _ (text_goes more version.1) (λ generation. goes_then _ _ _ _ _ (text_goes more generation.1) (λ revision.
    goes_then _ _ _ _ _ (number_goes w64 more revision.1) (λ size. goes_then _ _ _ _ _ (number_goes w32 more size.1) (λ stored. goes_then _ _ _ _ _ (number_goes w32 more stored.1) (λ plain. goes_then _ _ _ _ _ (number_goes w32 more plain.1) (λ flags.
    ok_goes _ _ (behind more) refl))))))))

pub whole_on : (bytes more : List ℕ) → whole (bytes ++ more) ≡ on more (whole bytes)
whole_on bytes more = ap (λ (n : ℕ). record { end = n; rest = bytes ++ more }) (length-append bytes more)

-- the place where a header ends is the same of both
place_on : (bytes more : List ℕ) (x : Head × Tail) → head_at (whole bytes) ≡ Ok x → place (on more x.1) ≡ place x.1
place_on bytes more x e =
    let p = head_past (whole bytes) x e in
    omega (arith, ap place p.same, ap (λ (t : Tail). t.end) p.same, ap (λ (t : Tail). length t.rest) p.same, p.few, length-append x.1.rest more, length-drop p.by bytes)

abbrev ended : Head × Tail → Result (Head × ℕ) FsErr
ended x = Ok (x.0, place x.1)

abbrev at_place : Head → ℕ → Result (Head × ℕ) FsErr
at_place h n = Ok (h, n)

read_goes : (bytes more : List ℕ) (r s : Result (Head × Tail) FsErr) → GoesOn r s (behind more) → ((x : Head × Tail) → r ≡ Ok x → place (on more x.1) ≡ place x.1)
    → GoesOn (r >>= ended) (s >>= ended) (λ x. x)
read_goes bytes more (Ok x) s goes same = ok_goes (x.0, place x.1) _ (λ y. y) (ap (λ t. t >>= ended) (goes.value x refl) ∙ ap (at_place x.0) (same x refl))
read_goes bytes more (Err e) s goes same = err_goes e _ (λ y. y) (λ is. ap (λ t. t >>= ended) (goes.fault e is refl))

pub header_goes : (bytes more : List ℕ) → GoesOn (header_read bytes) (header_read (bytes ++ more)) (λ x. x)
unfolding header_read
header_goes bytes more =
    read_goes bytes more (head_at (whole bytes)) (head_at (whole (bytes ++ more)))
    (subst (λ (t : Tail). GoesOn (head_at (whole bytes)) (head_at t) (behind more)) (sym (whole_on bytes more)) (head_goes more (whole bytes)))
    (place_on bytes more)

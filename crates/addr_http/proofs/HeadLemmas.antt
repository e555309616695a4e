-- Where a head ends: a step of the search for it, and that more bytes behind it change nothing.
use Rattle.std.proofs.Common.{◌≡◌, ℕ, zero, suc, ◌+◌, ◌<◌, ◌≤◌, true, false, ◌==◌, List, [], ◌∷◌, ◌++◌, length, drop, get_or, Option, Some, None, option_map, if◌then◌else◌, refl, sym, ◌∙◌, ap, arith, add-one, drop-cons}
use Rattle.addr_http.specs.Heads.{end_len, after_cr, end_behind, head_at, head_len}

some_is : {m n : ℕ} → m ≡ n → Some m ≡ Some n
some_is e = ap (λ (k : ℕ). let r : Option ℕ = Some k in r) e

shift_shift : (i : ℕ) (o : Option ℕ) → option_map (λ n. i + n) (option_map (λ n. n + 1) o) ≡ option_map (λ n. (i + 1) + n) o
shift_shift i None = refl
shift_shift i (Some n) = some_is (omega arith)

-- so far the head's end isn't found
abbrev pub Seeks : ℕ → List ℕ → Type 0
Seeks i bytes = head_len bytes ≡ option_map (λ n. i + n) (head_len (drop i bytes))

shift_zero : (o : Option ℕ) → o ≡ option_map (λ n. 0 + n) o
shift_zero None = refl
shift_zero (Some n) = some_is (omega arith)

pub seeks_first : (bytes : List ℕ) → Seeks 0 bytes
seeks_first bytes = shift_zero (head_len bytes)

-- the next step: what stands behind the byte at a place
seeks_step : (i : ℕ) (bytes : List ℕ) → i < length bytes → Seeks i bytes
    → head_len bytes ≡ option_map (λ n. i + n) (head_at (end_behind (get_or bytes i 0) (drop (i + 1) bytes)) (head_len (drop (i + 1) bytes)))
unfolding head_len
seeks_step i bytes h s =
    let d : drop i bytes ≡ get_or bytes i 0 ∷ drop (i + 1) bytes = rw (add-one, drop-cons bytes i 0) refl in
    s ∙ ap (λ t. option_map (λ n. i + n) (head_len t)) d

pub seeks_on : (i end : ℕ) (bytes : List ℕ) → i < length bytes → end ≡ end_behind (get_or bytes i 0) (drop (i + 1) bytes) → end ≤ 0 → Seeks i bytes → Seeks (i + 1) bytes
seeks_on i end bytes h e z s =
    let none : end_behind (get_or bytes i 0) (drop (i + 1) bytes) ≡ 0 = sym e ∙ (omega arith) in
    seeks_step i bytes h s ∙ ap (λ k. option_map (λ n. i + n) (head_at k (head_len (drop (i + 1) bytes)))) none
    ∙ shift_shift i (head_len (drop (i + 1) bytes))

at_some : (i end : ℕ) (later : Option ℕ) → 0 < end → option_map (λ n. i + n) (head_at end later) ≡ Some (i + 1 + end)
at_some i zero later h = absurd (omega (arith, h))
at_some i (suc k) later h = some_is (omega arith)

pub seeks_found : (i end : ℕ) (bytes : List ℕ) → i < length bytes → end ≡ end_behind (get_or bytes i 0) (drop (i + 1) bytes) → 0 < end → Seeks i bytes → Some (i + 1 + end) ≡ head_len bytes
seeks_found i end bytes h e z s =
    sym (seeks_step i bytes h s ∙ ap (λ k. option_map (λ n. i + n) (head_at k (head_len (drop (i + 1) bytes)))) (sym e)
    ∙ at_some i end (head_len (drop (i + 1) bytes)) z)

pub seeks_none : (i : ℕ) (bytes : List ℕ) → drop i bytes ≡ [] → Seeks i bytes → None ≡ head_len bytes
unfolding head_len
seeks_none i bytes e s = sym (s ∙ ap (λ t. option_map (λ n. i + n) (head_len t)) e)

-- the end stays where it is when more bytes come
after_cr-more : (xs ys : List ℕ) → 0 < after_cr xs → after_cr (xs ++ ys) ≡ after_cr xs
after_cr-more [] ys h = absurd (omega (arith, h))
after_cr-more (b ∷ rest) ys h = refl

end_len-more : (xs ys : List ℕ) → 0 < end_len xs → end_len (xs ++ ys) ≡ end_len xs
end_len-more [] ys h = absurd (omega (arith, h))
end_len-more (b ∷ rest) ys h = (elim (b == 10) as (λ v. 0 < (if v then 1 else (if b == 13 then after_cr rest else 0)) → (if v then 1 else (if b == 13 then after_cr (rest ++ ys) else 0)) ≡ (if v then 1 else (if b == 13 then after_cr rest else 0))) [
  | true ↦ λ k. refl
  | false ↦ (elim (b == 13) as (λ w. 0 < (if w then after_cr rest else 0) → (if w then after_cr (rest ++ ys) else 0) ≡ (if w then after_cr rest else 0)) [
    | true ↦ λ k. after_cr-more rest ys k
    | false ↦ λ k. refl
  ])
]) h

end_behind-more : (b : ℕ) (xs ys : List ℕ) → 0 < end_behind b xs → end_behind b (xs ++ ys) ≡ end_behind b xs
end_behind-more b xs ys h = (elim (b == 10) as (λ v. 0 < (if v then end_len xs else 0) → (if v then end_len (xs ++ ys) else 0) ≡ (if v then end_len xs else 0)) [
  | true ↦ λ k. end_len-more xs ys k
  | false ↦ λ k. refl
]) h

-- where a head is found behind a byte, enough bytes are there to tell what stands behind that byte
end_behind-told : (b : ℕ) (xs ys : List ℕ) (m : ℕ) → head_len xs ≡ Some m → end_behind b (xs ++ ys) ≡ end_behind b xs
unfolding head_len
end_behind-told b [] ys m h = cc
end_behind-told b (x ∷ []) ys m h = absurd (one x h)
  where
    one : (x : ℕ) → head_at (if x == 10 then 0 else 0) None ≡ Some m → ⊥
    one x k = (elim (x == 10) as (λ v. head_at (if v then 0 else 0) None ≡ Some m → ⊥) [ true ↦ λ e. cc | false ↦ λ e. cc ]) k
end_behind-told b (x ∷ y ∷ rest) ys m h = refl

at_more : (e f : ℕ) (o p : Option ℕ) (n : ℕ) → (0 < e → f ≡ e) → ((m : ℕ) → o ≡ Some m → (f ≡ e) × (p ≡ Some m)) → head_at e o ≡ Some n → head_at f p ≡ Some n
at_more zero f None p n r q h = cc
at_more zero f (Some m) p n r q h = let w = q m refl in rw (w.0, w.1) h
at_more (suc k) f o p n r q h = rw (r (omega arith)) h

-- a head stays when more bytes come
pub head_len-more : (xs ys : List ℕ) (n : ℕ) → head_len xs ≡ Some n → head_len (xs ++ ys) ≡ Some n
unfolding head_len
head_len-more [] ys n h = cc
head_len-more (b ∷ rest) ys n h =
    at_more (end_behind b rest) (end_behind b (rest ++ ys)) (head_len rest) (head_len (rest ++ ys)) n
    (end_behind-more b rest ys)
    (λ m e. (end_behind-told b rest ys m e, head_len-more rest ys m e))
    h

-- and so, where no head is in the bytes, none is in the first of them
pub head_len-fewer : (xs ys : List ℕ) → head_len (xs ++ ys) ≡ None → head_len xs ≡ None
head_len-fewer xs ys h = by (head_len xs) refl
  where
    by : (o : Option ℕ) → head_len xs ≡ o → head_len xs ≡ None
    by None e = e
    by (Some n) e = let k : head_len (xs ++ ys) ≡ Some n = head_len-more xs ys n e in absurd (cc)

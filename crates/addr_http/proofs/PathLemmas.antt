-- Cuts of a target at bytes of ASCII: what they give, and that text stays text.
use Rattle.std.proofs.Common.{◌≡◌, ◌==◌, ◌<◌, ◌+◌, ◌-◌, ℕ, List, [], ◌∷◌, ◌++◌, Bool, true, false, IsTrue, IsUtf8, IfSome, Option, Some, None, refl, sym, ◌∙◌, ap, arith, length, take, drop, position, get_or, codes, subst, length-append}
use Rattle.std.proofs.lemmas.Bool.Decides.{nat_tests}
use Rattle.std.proofs.lemmas.Bool.{eqb-true}
use Rattle.std.proofs.lemmas.List.{take-append-drop, get_or_append_left}
use Rattle.std.proofs.Math.Seq.{take-append_seam, drop-append_seam}
use Rattle.std.proofs.lemmas.List.Quantifiers.{position-Some}
use Rattle.std.proofs.lemmas.Slice.Eq.{bytes_eq-Decides}
use Rattle.std.proofs.lemmas.Str.{IsUtf8-take, IsUtf8-drop, IsCharBoundary-before_ascii, IsCharBoundary-after_ascii}
use Rattle.std.specs.Str.{bytes_eq}
use Rattle.addr_http.specs.Requests.{is_ascii_word, origin_form, upto, path_of}

pub text_before : (text : List ℕ) (mark : ℕ) (r : Option ℕ) → r ≡ position (λ b. b == mark) text → IsUtf8 text → mark < 128 → IfSome r (λ n. IsUtf8 (take n text))
text_before text mark None e u m = tt
text_before text mark (Some n) e u m =
    let at = position-Some (λ b. b == mark) text n 0 (sym e) in
    let same : get_or text n 0 ≡ mark = eqb-true _ _ at.1 in
    IsUtf8-take text n u (IsCharBoundary-before_ascii text n at.0 (omega (arith, same, m)))

pub text_from : (text : List ℕ) (mark : ℕ) (r : Option ℕ) → r ≡ position (λ b. b == mark) text → IsUtf8 text → mark < 128 → IfSome r (λ n. IsUtf8 (drop n text))
text_from text mark None e u m = tt
text_from text mark (Some n) e u m =
    let at = position-Some (λ b. b == mark) text n 0 (sym e) in
    let same : get_or text n 0 ≡ mark = eqb-true _ _ at.1 in
    IsUtf8-drop text n u (IsCharBoundary-before_ascii text n at.0 (omega (arith, same, m)))

pub behind_some : (text word rest : List ℕ) → text ≡ word ++ rest → (bytes_eq (take (length word) text) word ≡ true) × (rest ≡ drop (length word) text)
behind_some text word rest e = ((bytes_eq-Decides (take (length word) text) word).1 (ap (λ t. take (length word) t) e ∙ take-append_seam word rest), sym (ap (λ t. drop (length word) t) e ∙ drop-append_seam word rest))

pub behind_none : (text word : List ℕ) → ((rest : List ℕ) → text ≡ word ++ rest → ⊥) → bytes_eq (take (length word) text) word ≡ false
behind_none text word none = by (bytes_eq (take (length word) text) word) refl
  where
    by : (v : Bool) → bytes_eq (take (length word) text) word ≡ v → v ≡ false
    by false e = refl
    by true e = absurd (none (drop (length word) text) (sym (take-append-drop (length word) text) ∙ ap (λ w. w ++ drop (length word) text) ((bytes_eq-Decides (take (length word) text) word).0 e)))

-- the last byte of a word of ASCII is of ASCII
last_ascii : (word rest : List ℕ) → IsTrue (is_ascii_word word) → (0 < length word) × (get_or (word ++ rest) (length word - 1) 0 < 128)
last_ascii word rest h =
    let some : 0 < length word = grind (arith, nat_tests, h) in
    let small : get_or word (length word - 1) 0 < 128 = grind (arith, nat_tests, h) in
    let last : length word - 1 < length word = omega (arith, some) in
    (some, rw (get_or_append_left word rest 0 (length word - 1) last) small)

pub behind_text : (text word rest : List ℕ) → IsTrue (is_ascii_word word) → text ≡ word ++ rest → IsUtf8 text → IsUtf8 rest
behind_text text word rest h e u =
    let a = last_ascii word rest h in
    let w : IsUtf8 (word ++ rest) = subst (λ t. IsUtf8 t) e u in
    let fits : length word - 1 < length (word ++ rest) = omega (arith, a.0, length-append word rest) in
    let k : length word - 1 + 1 ≡ length word = omega (arith, a.0) in
    let d = IsUtf8-drop (word ++ rest) (length word - 1 + 1) w (IsCharBoundary-after_ascii (word ++ rest) (length word - 1) w fits a.1) in
    subst (λ t. IsUtf8 t) (ap (λ n. drop n (word ++ rest)) k ∙ drop-append_seam word rest) d

pub slash_text : IsUtf8 (codes "/")
unfolding lib.Utf8.encode
slash_text = (47 ∷ [], (refl, refl))

pub path_none : (target path : List ℕ) → path ≡ origin_form target → None ≡ position (λ b. b == 63) path → path ≡ path_of target
path_none target path e n = e ∙ ap (λ o. upto o (origin_form target)) (n ∙ ap (λ p. position (λ b. b == 63) p) e)

-- What stands round the last `#` of an id, and the number of a run of digits.
use Rattle.std.proofs.Common.{◌≡◌, ℕ, suc, ◌+◌, ◌-◌, ◌≤◌, ◌^◌, true, false, not, List, [], length, get_or, take, drop, Option, Some, None, Result, Ok, Err, inl, inr, nat_lt, refl, sym, ap, ◌∙◌, cond, arith, rules, length-drop, Bor}
use Rattle.std.specs.Char.{is_ascii_digit}
use Rattle.std.specs.List.{before_last, after_last, suffix_len, list_all, slice_get}
use Rattle.std.specs.Option.{option_and_then, MatchOption}
use Rattle.std.specs.Str.Parse.{digits_value, ParsesUnsigned}
use Rattle.std.specs.Str.Pattern.{RFindsChar}
use Rattle.std.proofs.lemmas.Bool.{ne_eqb, eq-eqb, and_parts, ltb-true, cases_lt}
use Rattle.std.proofs.lemmas.List.{get_or-drop}
use Rattle.std.proofs.lemmas.List.Sums.{suffix_len_is}
use Rattle.std.proofs.lemmas.Option.{same_Some}
use Rattle.std.proofs.lemmas.Result.{OkIff-at_ok, OkIff-at_err}
use Rattle.std.proofs.lemmas.Str.Parse.{IsNumeralModel, numerals_by_value, parse_digits}
use Rattle.std.proofs.lemmas.Str.Pattern.{NoCharPasses-char, drop_at_char}
use Rattle.addr_catalog.specs.InternalIds.{is_mark, is_run, number_of, prefix_of, prefixed_or, whole_id}

-- how many bytes stand behind the last mark, which stands right before a place
behind : (id : List ℕ) (i j : ℕ) → RFindsChar 35 id (Some (i, j)) → (j ≡ i + 1) × (j ≤ length id) × (suffix_len (λ b. not (is_mark b)) id ≡ length id - j)
behind id i j found =
    let here = drop_at_char 35 id i j found.1 (omega arith) in
    let ends : j ≡ i + 1 = found.1.ends in
    let longer : length id - i ≡ suc (length id - j) = sym (length-drop i id) ∙ (ap length here ∙ ap suc (length-drop j id)) in
    let within : j ≤ length id = omega arith in (
      ends,
      within,
      suffix_len_is (λ b. not (is_mark b)) id j 0 within
          (λ k from below. ap not (ne_eqb (get_or id k 0) 35 (λ e. NoCharPasses-char 35 (drop j id) (k - j) found.0 (omega arith) (omega (arith, length-drop j id)) (get_or-drop j id (k - j) 0 ∙ (ap (λ n. get_or id n 0) (omega arith) ∙ e)))))
          (λ some. ap not (eq-eqb (get_or id (j - 1) 0) 35 (ap (λ n. get_or id n 0) (omega arith) ∙ found.1.byte (omega arith)))),
    )

pub before_mark : (id : List ℕ) (i j : ℕ) → RFindsChar 35 id (Some (i, j)) → take i id ≡ before_last is_mark id
before_mark id i j found =
    let at = behind id i j found in
    ap (λ n. take n id) (let e : i ≡ length id - (length id - j) - 1 = omega (arith, at.0, at.1) in e ∙ ap (λ n. length id - n - 1) (sym at.2))

pub after_mark : (id : List ℕ) (i j : ℕ) → RFindsChar 35 id (Some (i, j)) → drop j id ≡ after_last is_mark id
after_mark id i j found =
    let at = behind id i j found in
    ap (λ n. drop n id) (let e : j ≡ length id - (length id - j) = omega (arith, at.0, at.1) in e ∙ ap (λ n. length id - n) (sym at.2))

-- no mark, so nothing stands before it
pub no_mark : (id : List ℕ) → RFindsChar 35 id None → before_last is_mark id ≡ []
no_mark id none =
    let all = suffix_len_is (λ b. not (is_mark b)) id 0 0 (omega arith)
    (λ k from below. ap not (ne_eqb (get_or id k 0) 35 (λ e. NoCharPasses-char 35 id k none (omega arith) below e)))
    (λ some. absurd (omega arith)) in
    ap (λ n. take n id) (let e : length id - (length id - 0) - 1 ≡ 0 = omega arith in ap (λ n. length id - n - 1) all ∙ e)

-- the digits of a run, as `parse` reads them
pub digits_own : IsNumeralModel (λ ds. list_all is_ascii_digit ds ≡ true) (digits_value 10)
digits_own = numerals_by_value (λ ds. list_all is_ascii_digit ds ≡ true) (search rules)

pub no_run : (text : List ℕ) → is_run text ≡ false → number_of text ≡ None
unfolding number_of
no_run text is = ap (λ b. cond b (Some (digits_value 10 text)) None) is

pub run_number : (text : List ℕ) → is_run text ≡ true → number_of text ≡ Some (digits_value 10 text)
unfolding number_of
run_number text is = ap (λ b. cond b (Some (digits_value 10 text)) None) is

-- without a mark an id stands for itself
pub unmarked : (prefixes : List (List ℕ)) (id : List ℕ) → before_last is_mark id ≡ [] → whole_id prefixes id ≡ id
unfolding whole_id
unmarked prefixes id none =
    ap (λ text. prefixed_or id (after_last is_mark id) (prefix_of prefixes text)) none ∙ ap (λ n. prefixed_or id (after_last is_mark id) (option_and_then (slice_get prefixes) n)) (no_run [] refl)

-- where the last mark of an id parts it, as `rsplit_once` says
pub around : (id : List ℕ) (r : Option (Bor (List ℕ) × Bor (List ℕ)))
    → MatchOption r (RFindsChar 35 id None) (λ x. (i : ℕ) × (j : ℕ) × RFindsChar 35 id (Some (i, j)) × (x.0.now ≡ take i id) × (x.1.now ≡ drop j id) × (i ≤ j) × (length x.0.now ≡ i) × (length x.1.now + j ≡ length id))
    → MatchOption r (before_last is_mark id ≡ []) (λ p. (p.0.now ≡ before_last is_mark id) × (p.1.now ≡ after_last is_mark id))
around id None none = no_mark id none
around id (Some p) (i, j, found, front, back, ordered, before, behind_it) = (front ∙ before_mark id i j found, back ∙ after_mark id i j found)

-- what `parse` gives of a run
pub parsed : {E : Type 0} (text : List ℕ) → is_run text ≡ true → (r : Result ℕ E) (n : ℕ) → ParsesUnsigned 64 10 text r → r ≡ Ok n → number_of text ≡ Some n
parsed text run r n parses is =
    let both = and_parts (nat_lt 0 (length text)) (list_all is_ascii_digit text) run in
    let value = OkIff-at_ok r _ (digits_value 10 text) n (parse_digits digits_own 64 text r parses both.1) is in
    run_number text run ∙ ap Some (sym value.1)

pub past : {E : Type 0} (text : List ℕ) → is_run text ≡ true → (r : Result ℕ E) (e : E) → ParsesUnsigned 64 10 text r → r ≡ Err e → (n : ℕ) → number_of text ≡ Some n → 2 ^ 64 ≤ n
past text run r e parses is n found =
    let both = and_parts (nat_lt 0 (length text)) (list_all is_ascii_digit text) run in
    let large = OkIff-at_err r _ (digits_value 10 text) e (parse_digits digits_own 64 text r parses both.1) is in
    let same : digits_value 10 text ≡ n = same_Some (digits_value 10 text) n (sym (run_number text run) ∙ found) in
    elim (cases_lt n (2 ^ 64)) [
      | inl small ↦ absurd (large (ltb-true 0 (length text) both.0, omega arith))
      | inr big ↦ big
    ]

-- Each text in UTF-8 has one token, and reading a token gives its text back.
use Rattle.std.proofs.Common.{◌≡◌, ◌≢◌, ℕ, ◌+◌, ◌*◌, ◌/◌, ◌%◌, ◌<◌, ◌≤◌, Bool, true, false, cond, if◌then◌else◌, ◌&&◌, ◌==◌, nat_lt, zero, suc, length, drop, List, [], ◌∷◌, ◌++◌, Option, Some, None, Result, Ok, Err, unwrap_or, slice_index, refl, sym, ap, ◌∙◌, arith, inl, inr}
use Rattle.std.proofs.lemmas.Bool.Decides.{nat_tests}
use Rattle.std.proofs.lemmas.List.{append_assoc, append-nil, drop_all, drop_more}
use Rattle.std.proofs.lemmas.List.Elements.{All-append, All-cons, All-nil}
use Rattle.std.specs.List.{All, AllByRecursion, AllPass, flat_map, list_all}
use Rattle.std.proofs.lemmas.Bool.{and_parts, cases_lt, eqb-true}
use Rattle.std.specs.Prelude.{IsOk}
use Rattle.std.specs.Str.{IsUtf8}
use Rattle.hex.specs.Hex.{upper_digits}
use Rattle.hex.proofs.HexLemmas.{IsDigits-upper_digits}
use Rattle.addr_base.specs.LooseTokens.{loose_byte, loose_digit, loose_place, loose_text}
use Rattle.addr_base.specs.Tokens.{ReadsToken, escape_of, is_plain, is_token_byte, token_byte, token_of}
use Rattle.addr_base.specs.declared.tokens.Place.{Place}
use Rattle.addr_base.specs.declared.tokens.Place.TheVariants.{Plain}
use lib.Utf8.{scalar, scalars, encode, encodes, scalar_cases}
use borrow.Author.Tests.{ltb-true}

-- ---- the bytes of a text in UTF-8 are below 256

-- each number is a byte
abbrev pub AreBytes : List ℕ → Type 0
AreBytes bytes = AllByRecursion (λ b. b < 256) bytes

AreBytes-append : (xs ys : List ℕ) → AreBytes xs → AreBytes ys → AreBytes (xs ++ ys)
AreBytes-append [] ys are more = more
AreBytes-append (x ∷ xs) ys are more = (are.0, AreBytes-append xs ys are.1 more)

-- a choice among four, by three tests
chosen_are_bytes : (x y z : Bool) (a b c d : List ℕ) → (x ≡ true → AreBytes a) → (y ≡ true → AreBytes b)
    → (z ≡ true → AreBytes c) → AreBytes d → AreBytes (cond x a (cond y b (cond z c d)))
chosen_are_bytes true y z a b c d fa fb fc fd = fa refl
chosen_are_bytes false true z a b c d fa fb fc fd = fb refl
chosen_are_bytes false false true a b c d fa fb fc fd = fc refl
chosen_are_bytes false false false a b c d fa fb fc fd = fd

encode_bytes : (c : ℕ) → c < 1114112 → AreBytes (encode c)
unfolding encode
encode_bytes c small =
    chosen_are_bytes (nat_lt c 128) (nat_lt c 2048) (nat_lt c 65536) _ _ _ _
    (λ t. let below = ltb-true c 128 t in (omega arith, tt))
    (λ t. let below = ltb-true c 2048 t in (omega arith, (omega arith, tt)))
    (λ t. let below = ltb-true c 65536 t in (omega arith, (omega arith, (omega arith, tt))))
    (omega arith, (omega arith, (omega arith, (omega arith, tt))))

encodes_bytes : (cs : List ℕ) → scalars cs ≡ true → AreBytes (encodes cs)
encodes_bytes [] all = tt
encodes_bytes (c ∷ cs) all =
    let parts = and_parts (scalar c) (scalars cs) all in
    let small : c < 1114112 = elim (scalar_cases c parts.0) [ inl low ↦ omega arith | inr high ↦ high.1 ] in
    AreBytes-append (encode c) (encodes cs) (encode_bytes c small) (encodes_bytes cs parts.1)

pub utf8_bytes : (text : List ℕ) → IsUtf8 text → AreBytes text
utf8_bytes text utf8 = rw (← utf8.1.1) (encodes_bytes utf8.0 utf8.1.0)

-- ---- what the loose reader makes of a token

-- a token's two digits read as the byte
digits_byte : (b : ℕ) → b < 256
    → (loose_digit (slice_index upper_digits (b / 16)) * 16 % 256 + loose_digit (slice_index upper_digits (b % 16))) % 256 ≡ b
digits_byte b small =
    let high : loose_digit (slice_index upper_digits (b / 16)) ≡ b / 16 =
    ap (λ (o : Option ℕ). unwrap_or o 0) (IsDigits-upper_digits (b / 16) (omega arith)) in
    let low : loose_digit (slice_index upper_digits (b % 16)) ≡ b % 16 =
    ap (λ (o : Option ℕ). unwrap_or o 0) (IsDigits-upper_digits (b % 16) (omega arith)) in
    rw (high, low) (omega arith)

-- a fact of a byte's spelling, by the test of the byte
by_test : (t : Bool) (b : ℕ) (P : List ℕ → Type 0) → (t ≡ true → P (b ∷ [])) → (t ≡ false → P (escape_of b))
    → P (if t then b ∷ [] else escape_of b)
by_test true b P plain other = plain refl
by_test false b P plain other = other refl

-- a plain byte is not '%'
plain_not_percent : (b : ℕ) → is_plain b ≡ true → (b == 37) ≡ false
plain_not_percent b plain = grind (arith, nat_tests, plain)

loose_plain_byte : (b : ℕ) (rest : List ℕ) → (b == 37) ≡ false → loose_text Plain (b ∷ rest) ≡ b ∷ loose_text Plain rest
unfolding loose_text
loose_plain_byte b rest other = rw other refl

-- one byte of a text
loose_token_byte : (b : ℕ) (rest : List ℕ) → b < 256 → loose_text Plain (token_byte b ++ rest) ≡ b ∷ loose_text Plain rest
unfolding loose_text
loose_token_byte b rest small =
    by_test (is_plain b) b (λ spelled. loose_text Plain (spelled ++ rest) ≡ b ∷ loose_text Plain rest)
    (λ plain. loose_plain_byte b rest (plain_not_percent b plain))
    (λ other. ap (λ (v : ℕ). v ∷ loose_text Plain rest) (digits_byte b small))

loose_flat : (text : List ℕ) → AreBytes text → loose_text Plain (flat_map token_byte text) ≡ text
unfolding loose_text
loose_flat [] are = refl
loose_flat (b ∷ rest) are = loose_token_byte b (flat_map token_byte rest) are.0 ∙ ap (λ more. b ∷ more) (loose_flat rest are.1)

pub loose_token_bytes : (text : List ℕ) → AreBytes text → loose_text Plain (token_of text) ≡ text
unfolding loose_text token_of
loose_token_bytes [] are = refl
loose_token_bytes (b ∷ rest) are = loose_flat (b ∷ rest) are

-- reading the token of a text gives the text
pub loose_token : (text : List ℕ) → IsUtf8 text → loose_text Plain (token_of text) ≡ text
loose_token text utf8 = loose_token_bytes text (utf8_bytes text utf8)

-- two texts with one token are one
pub token_of_own : (a b : List ℕ) → IsUtf8 a → IsUtf8 b → token_of a ≡ token_of b → a ≡ b
token_of_own a b ua ub e = sym (loose_token a ua) ∙ ap (loose_text Plain) e ∙ loose_token b ub

-- what is read of the token of a text
pub loose_of_token : (token text : List ℕ) → IsUtf8 text → token ≡ token_of text → loose_text Plain token ≡ text
loose_of_token token text utf8 e = rw e (loose_token text utf8)

-- a token's text is what is read
pub read_back : (text : List ℕ) (found : Option (List ℕ)) → IsUtf8 text → ReadsToken (token_of text) found → found ≡ Some text
read_back text None utf8 none = absurd (none text utf8 refl)
read_back text (Some other) utf8 read = ap Some (sym (token_of_own text other utf8 read.0 read.1))

-- ---- the token of a text, by whether it is empty

pub token_of_empty : (text : List ℕ) → (length text == 0) ≡ true → token_of text ≡ 37 ∷ []
unfolding token_of
token_of_empty [] e = refl
token_of_empty (b ∷ rest) e = absurd (omega (arith, eqb-true (length (b ∷ rest)) 0 e))

pub token_of_other : (text : List ℕ) → (length text == 0) ≡ false → token_of text ≡ flat_map token_byte text
unfolding token_of
token_of_other [] e = cc e
token_of_other (b ∷ rest) e = refl

-- a text of plain bytes alone is its own token
plain_flat : (text : List ℕ) → list_all is_plain text ≡ true → flat_map token_byte text ≡ text
plain_flat [] plain = refl
plain_flat (b ∷ rest) plain =
    let parts = and_parts (is_plain b) (list_all is_plain rest) plain in
    by_test (is_plain b) b (λ spelled. spelled ++ flat_map token_byte rest ≡ b ∷ rest)
    (λ own. ap (λ (more : List ℕ). b ∷ more) (plain_flat rest parts.1))
    (λ other. cc (parts.0, other))

pub plain_is_own : (text : List ℕ) → (length text == 0) ≡ false → list_all is_plain text ≡ true → text ≡ token_of text
plain_is_own text filled plain = sym (token_of_other text filled ∙ plain_flat text plain)

-- ---- the bytes of a token

-- the test of the first n digits, which computes
abbrev digits_may_stand : ℕ → Bool
digits_may_stand zero = true
digits_may_stand (suc n) = is_token_byte (slice_index upper_digits n) && digits_may_stand n

digit_may_stand : (n k : ℕ) → digits_may_stand n ≡ true → k < n → is_token_byte (slice_index upper_digits k) ≡ true
digit_may_stand zero k passed below = absurd (omega arith)
digit_may_stand (suc n) k passed below =
    let parts = and_parts (is_token_byte (slice_index upper_digits n)) (digits_may_stand n) passed in
    elim (cases_lt k n) [
      | inl less ↦ digit_may_stand n k parts.1 less
      | inr top ↦
          let e : k ≡ n = omega arith in
          rw e parts.0
    ]

abbrev MayStand : ℕ → Type 0
MayStand b = is_token_byte b ≡ true

plain_may_stand : (b : ℕ) → is_plain b ≡ true → is_token_byte b ≡ true
plain_may_stand b plain = grind (arith, nat_tests, plain)

token_byte_stands : (b : ℕ) → b < 256 → All MayStand (token_byte b)
token_byte_stands b small =
    by_test (is_plain b) b (All MayStand)
    (λ plain. All-cons MayStand b [] (plain_may_stand b plain) (All-nil MayStand))
    (λ other.
    let high : ℕ = slice_index upper_digits (b / 16) in
    let low : ℕ = slice_index upper_digits (b % 16) in
    let last = All-cons MayStand low [] (digit_may_stand 16 (b % 16) refl (omega arith)) (All-nil MayStand) in
    All-cons MayStand 37 (high ∷ low ∷ []) refl
    (All-cons MayStand high (low ∷ []) (digit_may_stand 16 (b / 16) refl (omega arith)) last))

flat_stands : (text : List ℕ) → AreBytes text → All MayStand (flat_map token_byte text)
flat_stands [] are = All-nil MayStand
flat_stands (b ∷ rest) are =
    All-append MayStand (token_byte b) (flat_map token_byte rest) (token_byte_stands b are.0) (flat_stands rest are.1)

stands : (bytes : List ℕ) → AreBytes bytes → All MayStand (token_of bytes)
unfolding token_of
stands [] are = All-cons MayStand 37 [] refl (All-nil MayStand)
stands (b ∷ rest) are = flat_stands (b ∷ rest) are

pub token_bytes_stand : (text : List ℕ) → IsUtf8 text → AllPass is_token_byte (token_of text)
token_bytes_stand text utf8 = stands text (utf8_bytes text utf8)

-- a token is not empty
pub token_filled : (text : List ℕ) → token_of text ≢ []
unfolding token_of
token_filled [] e = cc e
token_filled (b ∷ rest) e =
    by_test (is_plain b) b (λ spelled. spelled ++ flat_map token_byte rest ≡ [] → ⊥) (λ plain e2. cc e2) (λ other e2. cc e2) e

-- '%' and one more byte are no token
pub mark_no_token : (b : ℕ) (text : List ℕ) → 37 ∷ b ∷ [] ≡ token_of text → ⊥
unfolding token_of
mark_no_token b [] e = cc e
mark_no_token b (a ∷ rest) e =
    by_test (is_plain a) a (λ spelled. 37 ∷ b ∷ [] ≡ spelled ++ flat_map token_byte rest → ⊥)
    (λ plain e2.
    let same : 37 ≡ a = cc e2 in
    let other : (37 == 37) ≡ false = ap (λ (v : ℕ). v == 37) same ∙ plain_not_percent a plain in
    cc other)
    (λ other e2. cc e2) e

-- ---- the reader's loop

pub loose_step : (token text more whole : List ℕ) (i : ℕ) (place next : Place) → i < length token
    → next ≡ loose_place place (slice_index token i) → more ≡ text ++ loose_byte place (slice_index token i)
    → text ++ loose_text place (drop i token) ≡ whole → more ++ loose_text next (drop (i + 1) token) ≡ whole
unfolding loose_text
loose_step token text more whole i place next below next_is more_is so_far =
    rw (next_is, more_is, append_assoc) (rw (drop_more token i 0 below) at so_far)

pub loose_done : (token text whole : List ℕ) (i : ℕ) (place : Place) → length token ≤ i
    → text ++ loose_text place (drop i token) ≡ whole → text ≡ whole
unfolding loose_text
loose_done token text whole i place past so_far = rw (drop_all i token past, append-nil) at so_far

-- ---- results

pub err_not_ok : {T E : Type 0} (r : Result T E) (e : E) → r ≡ Err e → IsOk r → ⊥
err_not_ok (Ok x) e is ok = absurd (cc is)
err_not_ok (Err d) e is ok = absurd (cc ok)

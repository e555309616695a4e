-- A spelled number has digits alone, so a mark ends it.
use Rattle.std.proofs.Common.{◌≡◌, ◌==◌, ◌<◌, ◌^◌, ℕ, List, [], ◌∷◌, false, refl, arith, decimal, sym, ◌∙◌}
use Rattle.std.proofs.lemmas.Bool.Decides.{nat_tests}
use Rattle.std.proofs.lemmas.Bool.{ne_eqb}
use Rattle.std.proofs.lemmas.Fmt.{digits_decimal, decimal_injective}
use Rattle.std.proofs.lemmas.Str.Parse.{numerals_by_value, tells_digits, digit_from_value, IsNumeralModel}
use Rattle.std.proofs.lemmas.List.{append_cancel_left}
use Rattle.std.specs.Str.Parse.{AllDigits, digits_value}
use Rattle.addr_fields.specs.Fields.{has_byte, IsCut, IsNumber, IsNumberThen, IsWordNumber}
use Rattle.addr_fields.proofs.CutLemmas.{same_cut}

own : IsNumeralModel (AllDigits 10) (digits_value 10)
own = numerals_by_value (AllDigits 10) tells_digits

digits_are_free : (mark : ℕ) → (mark < 48) → (ds : List ℕ) → AllDigits 10 ds → has_byte mark ds ≡ false
digits_are_free mark low [] all = refl
digits_are_free mark low (d ∷ ds) all =
    let digit = digit_from_value d all.0 in
    let other : (d ≡ mark → ⊥) = λ e. absurd (omega (arith, digit, e)) in
    let here : (d == mark) ≡ false = ne_eqb d mark other in
    let rest = digits_are_free mark low ds all.1 in grind (arith, nat_tests, here, rest)

pub decimal_is_free : (mark n : ℕ) → mark < 48 → n < 2 ^ 64 → has_byte mark (decimal n) ≡ false
decimal_is_free mark n low small = digits_are_free mark low (decimal n) (digits_decimal own n small)

pub number_before_cut : (text before after : List ℕ) → IsCut 32 text before after → (n : ℕ) (rest : List ℕ) → IsNumberThen text n rest → (before ≡ decimal n) × (after ≡ rest)
number_before_cut text before after cut n rest is =
    let free = decimal_is_free 32 n (omega arith) (omega (arith, is.0)) in
    same_cut 32 before after (decimal n) rest cut.first free (sym cut.whole ∙ is.1)

pub same_number : (text : List ℕ) (m n : ℕ) → IsNumber 64 text m → IsNumber 64 text n → m ≡ n
same_number text m n im is = decimal_injective m n im.0 is.0 (sym im.1 ∙ is.1)

pub same_word_number : (word text : List ℕ) (m n : ℕ) → IsWordNumber 32 word text m → IsWordNumber 32 word text n → m ≡ n
same_word_number word text m n im is = decimal_injective m n (omega (arith, im.0)) (omega (arith, is.0)) (append_cancel_left word (decimal m) (decimal n) (sym im.1 ∙ is.1))

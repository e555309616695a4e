-- Escaped texts have no underscore, and different texts have different ones.
use Rattle.std.proofs.Common.{◌≡◌, ℕ, zero, suc, ◌+◌, ◌/◌, ◌%◌, ◌<◌, ◌⊎◌, Bool, true, false, List, [], ◌∷◌, ◌++◌, length, drop, get_or, refl, sym, ap, ◌∙◌, inl, inr, ⊎_elim, arith}
use Rattle.std.proofs.lemmas.Bool.{false≢true}
use Rattle.std.proofs.lemmas.Bool.Decides.{nat_tests}
use Rattle.std.proofs.lemmas.List.{drop_more}
use Rattle.std.proofs.lemmas.List.Elements.{Contains-append_cases}
use Rattle.std.specs.List.{Contains}
use Rattle.addr_base.specs.Escapes.{is_name_byte, hex_digit, escaped_byte, escaped}

-- one more byte before the rest
pub escaped-drop : (bytes : List ℕ) (i : ℕ) → i < length bytes → escaped (drop i bytes) ≡ escaped_byte (get_or bytes i 0) ++ escaped (drop (i + 1) bytes)
escaped-drop bytes i small = rw (drop_more bytes i 0 small)

-- what stands in a list is its first element or stands in the rest
contains-cases : (x : ℕ) (xs : List ℕ) (y : ℕ) → Contains (x ∷ xs) y → (x ≡ y) ⊎ Contains xs y
contains-cases x xs y (zero, small, is) = inl is
contains-cases x xs y (suc i, small, is) = inr (i, omega arith, is)

contains-none : (y : ℕ) → Contains [] y → ⊥
contains-none y (i, small, is) = absurd (omega arith)

-- no byte's spelling has an underscore
byte_without : (b : ℕ) (t : Bool) → is_name_byte b ≡ t → Contains (escaped_byte b) 95 → ⊥
unfolding escaped_byte
byte_without b true plain found = elim (contains-cases b [] 95 (rw plain at found)) [
  | inl same ↦ grind (arith, nat_tests)
  | inr none ↦ contains-none 95 none
]
byte_without b false other found = elim (contains-cases 126 (hex_digit (b / 16) ∷ hex_digit (b % 16) ∷ []) 95 (rw other at found)) [
  | inl same ↦ absurd (omega arith)
  | inr rest ↦ elim (contains-cases (hex_digit (b / 16)) (hex_digit (b % 16) ∷ []) 95 rest) [
    | inl same ↦ grind (arith, nat_tests)
    | inr last ↦ elim (contains-cases (hex_digit (b % 16)) [] 95 last) [
      | inl same ↦ grind (arith, nat_tests)
      | inr none ↦ contains-none 95 none
    ]
  ]
]

pub without_underscore : (text : List ℕ) → Contains (escaped text) 95 → ⊥
without_underscore [] found = contains-none 95 found
without_underscore (b ∷ text) found = ⊎_elim (byte_without b (is_name_byte b) refl) (without_underscore text) (Contains-append_cases (escaped_byte b) (escaped text) 95 found)

-- two digits of one spelling are of one number
hex_digit-injective : (m n : ℕ) → hex_digit m ≡ hex_digit n → m ≡ n
hex_digit-injective m n same = grind (arith, nat_tests)

split_again : (x y : ℕ) → x / 16 ≡ y / 16 → x % 16 ≡ y % 16 → x ≡ y
split_again x y high low = omega arith

joined : (x y : ℕ) (xs ys : List ℕ) → x ≡ y → xs ≡ ys → x ∷ xs ≡ y ∷ ys
joined x y xs ys e es = cc

tilde_is_other : (x : ℕ) → x ≡ 126 → is_name_byte x ≡ true → ⊥
tilde_is_other x e p = false≢true (sym (ap is_name_byte e) ∙ p)

heads : (x y : ℕ) (s t : Bool) → is_name_byte x ≡ s → is_name_byte y ≡ t → (xs ys : List ℕ) → escaped_byte x ++ xs ≡ escaped_byte y ++ ys → (x ≡ y) × (xs ≡ ys)
unfolding escaped_byte
heads x y true true p q xs ys same = let e : x ∷ xs ≡ y ∷ ys = rw (p, q) at same in ((cc), (cc))
heads x y true false p q xs ys same =
    let e : x ∷ xs ≡ 126 ∷ hex_digit (y / 16) ∷ hex_digit (y % 16) ∷ ys = rw (p, q) at same in
    let head : x ≡ 126 = cc in
    absurd (tilde_is_other x head p)
heads x y false true p q xs ys same =
    let e : 126 ∷ hex_digit (x / 16) ∷ hex_digit (x % 16) ∷ xs ≡ y ∷ ys = rw (p, q) at same in
    let head : y ≡ 126 = cc in
    absurd (tilde_is_other y head q)
heads x y false false p q xs ys same =
    let e : 126 ∷ hex_digit (x / 16) ∷ hex_digit (x % 16) ∷ xs ≡ 126 ∷ hex_digit (y / 16) ∷ hex_digit (y % 16) ∷ ys = rw (p, q) at same in
    let high : hex_digit (x / 16) ≡ hex_digit (y / 16) = cc in
    let low : hex_digit (x % 16) ≡ hex_digit (y % 16) = cc in
    let rest : xs ≡ ys = cc in
    (split_again x y (hex_digit-injective (x / 16) (y / 16) high) (hex_digit-injective (x % 16) (y % 16) low), rest)

nonempty : (y : ℕ) (t : Bool) → is_name_byte y ≡ t → (ys : List ℕ) → [] ≡ escaped_byte y ++ ys → ⊥
unfolding escaped_byte
nonempty y true q ys same = let e : [] ≡ y ∷ ys = rw q at same in cc
nonempty y false q ys same = let e : [] ≡ 126 ∷ hex_digit (y / 16) ∷ hex_digit (y % 16) ∷ ys = rw q at same in cc

pub escaped-injective : (a b : List ℕ) → escaped a ≡ escaped b → a ≡ b
escaped-injective [] [] same = refl
escaped-injective [] (y ∷ b) same = absurd (nonempty y (is_name_byte y) refl (escaped b) same)
escaped-injective (x ∷ a) [] same = absurd (nonempty x (is_name_byte x) refl (escaped a) (sym same))
escaped-injective (x ∷ a) (y ∷ b) same =
    let both = heads x y (is_name_byte x) (is_name_byte y) refl refl (escaped a) (escaped b) same in
    joined x y a b both.0 (escaped-injective a b both.1)

-- What is written piece by piece is one text behind what was there.
use Rattle.std.proofs.Common.{◌≡◌, ℕ, ◌+◌, ◌<◌, List, [], ◌∷◌, ◌++◌, length, get_or, take, append_assoc, sym, ap, ◌∙◌}
use Rattle.std.specs.List.{flat_map, AllByRecursion}
use Rattle.std.proofs.lemmas.List.{take_more}
use Rattle.addr_cab.proofs.HomeLaws.{flat-more}

pub two : {A : Type 0} (old a b : List A) → (old ++ a) ++ b ≡ old ++ (a ++ b)
two old a b = append_assoc old a b

pub five : {A : Type 0} (old a b c d e : List A) → ((((old ++ a) ++ b) ++ c) ++ d) ++ e ≡ old ++ (a ++ (b ++ (c ++ (d ++ e))))
five old a b c d e = simp append_assoc

-- the same from the steps, each of which puts its piece behind what the one before left
pub after_five : {A : Type 0} (old n1 n2 n3 n4 n5 a b c d e : List A) → n1 ≡ old ++ a → n2 ≡ n1 ++ b → n3 ≡ n2 ++ c → n4 ≡ n3 ++ d → n5 ≡ n4 ++ e → n5 ≡ old ++ (a ++ (b ++ (c ++ (d ++ e))))
after_five old n1 n2 n3 n4 n5 a b c d e e1 e2 e3 e4 e5 = e5 ∙ (ap (λ x. x ++ e) (e4 ∙ ap (λ x. x ++ d) (e3 ∙ ap (λ x. x ++ c) (e2 ∙ ap (λ x. x ++ b) e1))) ∙ five old a b c d e)

-- what holds of some and of the next one
all_push : {X : Type 0} (P : X → Type 0) (xs : List X) (x : X) → AllByRecursion P xs → P x → AllByRecursion P (xs ++ x ∷ [])
all_push P [] x all one = (one, tt)
all_push P (y ∷ ys) x all one = (all.0, all_push P ys x all.1 one)

pub all-more : {X : Type 0} (P : X → Type 0) (xs : List X) (i : ℕ) (x : X) → i < length xs → x ≡ get_or xs i x → AllByRecursion P (take i xs) → P x → AllByRecursion P (take (i + 1) xs)
all-more P xs i x small is all one = rw (take_more xs i x small, ← is) (all_push P (take i xs) x all one)

-- the texts of some, and of the next one behind them
pub texts-more : {X : Type 0} (text : X → List ℕ) (old out new : List ℕ) (xs : List X) (i : ℕ) (x : X) → i < length xs → x ≡ get_or xs i x → out ≡ old ++ flat_map text (take i xs) → new ≡ out ++ text x → new ≡ old ++ flat_map text (take (i + 1) xs)
texts-more text old out new xs i x small is so_far put =
    put ∙ (ap (λ o. o ++ text x) so_far ∙ (append_assoc old (flat_map text (take i xs)) (text x) ∙ ap (λ t. old ++ t) (sym (flat-more text xs i x small is))))

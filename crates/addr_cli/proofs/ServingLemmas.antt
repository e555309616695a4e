-- The words of `serve` ask for one thing.
use Rattle.std.proofs.Common.{◌≡◌, ◌∙◌, ℕ, List, [], sym, ap, arith, get_or}
use Rattle.std.proofs.lemmas.Fmt.{decimal_injective}
use Rattle.addr_fields.specs.Fields.{IsNumber}
use Rattle.addr_cli.specs.Serving.{AsksToServe, IsConnections}

pub same_connections : (text : List ℕ) (m n : ℕ) → IsNumber 32 text m → IsConnections text n → n ≡ m
same_connections text m n im is = decimal_injective n m (omega (arith, is.most)) (omega (arith, im.0)) (sym is.spelled ∙ im.1)

pub asks_one : (words : List (List ℕ)) (f g : List ℕ) (p q m n : ℕ) → AsksToServe words f p m → AsksToServe words g q n → (f ≡ g) × (p ≡ q) × (m ≡ n)
asks_one words f g p q m n a b =
    let e = sym a.line ∙ b.line in (
      ap (λ w. get_or w 1 []) e,
      decimal_injective p q (omega (arith, a.small)) (omega (arith, b.small)) (ap (λ w. get_or w 2 []) e),
      decimal_injective m n (omega (arith, a.most)) (omega (arith, b.most)) (ap (λ w. get_or w 3 []) e),
    )

-- An ASCII text is UTF-8, so reading one takes the body as it stands.
use Rattle.std.proofs.Common.{◌≡◌, ℕ, zero, suc, Bool, true, false, ltb, List, [], ◌∷◌, refl, arith}
use Rattle.std.specs.Prelude.{◌&&◌, IsUtf8, IsAscii}
use Rattle.std.specs.List.{list_all}
use Rattle.std.proofs.lemmas.Bool.{ltb-true}
use Rattle.std.proofs.lemmas.Str.{IsUtf8-from_ascii}
use Rattle.addr_keys.specs.Format.{is_ascii}

pub both_true : (a b : Bool) → (a && b) ≡ true → (a ≡ true) × (b ≡ true)
both_true true b e = (refl, e)
both_true false b e = absurd cc

each_below : (text : List ℕ) → list_all (λ b. ltb b 128) text ≡ true → IsAscii text
each_below [] e i = omega arith
each_below (b ∷ bs) e zero = ltb-true _ _ (both_true (ltb b 128) (list_all (λ c. ltb c 128) bs) e).0
each_below (b ∷ bs) e (suc i) = each_below bs (both_true (ltb b 128) (list_all (λ c. ltb c 128) bs) e).1 i

pub IsAscii-from_test : (text : List ℕ) → is_ascii text ≡ true → IsAscii text
unfolding is_ascii
IsAscii-from_test text e = each_below text e

pub utf8_of_ascii : (text : List ℕ) → is_ascii text ≡ true → IsUtf8 text
utf8_of_ascii text e = IsUtf8-from_ascii text (IsAscii-from_test text e)

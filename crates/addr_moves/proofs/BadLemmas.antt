-- Places that need a look: one more.
use Rattle.std.proofs.Common.{◌≡◌, ◌<◌, ◌+◌, ◌⊎◌, inl, inr, ℕ, Bool, true, false, IsTrue, List, [], ◌∷◌, ◌++◌, Option, refl, subst, sym, arith}
use Rattle.std.proofs.lemmas.Bool.{cases_order}
use Rattle.std.proofs.lemmas.List.Elements.{Contains-append_left, Contains-push, Contains-push_cases}
use Rattle.std.specs.List.{Contains}
use Rattle.addr_base.specs.declared.ids.Guid.{Guid}
use Rattle.addr_walks.proofs.Lists.{Contains-none}
use Rattle.addr_moves.specs.within.Ways.{AreBadBelow, IsGoodAt, with_number}

module _ (spoils : List (List Guid)) (away lost : List (Option Guid)) where
  pub bad-none : AreBadBelow spoils away lost 0 []
  bad-none = record { below = λ n here. absurd (Contains-none n here); good = λ n less out. absurd (omega (arith, less)) }

  pub bad-more : (k : ℕ) (bad : List ℕ) (t : Bool) → (IsTrue t → IsGoodAt spoils away lost k) → AreBadBelow spoils away lost k bad → AreBadBelow spoils away lost (k + 1) (with_number t k bad)
  bad-more k bad true good are = record {
    below = λ n here. (let less = are.below n here in omega (arith, less));
    good = λ n less out. by_order n less out (cases_order n k);
  }
    where
      by_order : (n : ℕ) → n < k + 1 → (Contains bad n → ⊥) → (n ≡ k) ⊎ ((n < k) ⊎ (k < n)) → IsGoodAt spoils away lost n
      by_order n less out (inl same) = subst (IsGoodAt spoils away lost) (sym same) (good refl)
      by_order n less out (inr (inl before)) = are.good n before out
      by_order n less out (inr (inr after)) = absurd (omega (arith, less, after))
  bad-more k bad false good are = record {
    below = λ n here. by_side n (Contains-push_cases bad k n here);
    good = λ n less out. by_order n less out (cases_order n k);
  }
    where
      by_side : (n : ℕ) → Contains bad n ⊎ (k ≡ n) → n < k + 1
      by_side n (inl here) = let less = are.below n here in omega (arith, less)
      by_side n (inr same) = omega (arith, same)

      by_order : (n : ℕ) → n < k + 1 → (Contains (bad ++ k ∷ []) n → ⊥) → (n ≡ k) ⊎ ((n < k) ⊎ (k < n)) → IsGoodAt spoils away lost n
      by_order n less out (inl same) = absurd (out (subst (Contains (bad ++ k ∷ [])) (sym same) (Contains-push bad k)))
      by_order n less out (inr (inl before)) = are.good n before (λ here. out (Contains-append_left bad (k ∷ []) n here))
      by_order n less out (inr (inr after)) = absurd (omega (arith, less, after))

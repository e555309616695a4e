-- Chains join.
use Rattle.std.proofs.Common.{ℕ, List, [], ◌∷◌, subst}
use Rattle.addr_fetch.specs.Chain.{Chain, ChainsJoin}
use Rattle.addr_fetch.specs.declared.fetch.Fetched.{Fetched}

pub chains_joined : {F : Type 0} (gives : F → List ℕ → ℕ → Fetched → F → Type 0) → ChainsJoin gives
chains_joined gives f g h [] ys first second = subst (λ m. Chain gives m ys h) first second
chains_joined gives f g h (x ∷ xs) ys first second = (first.0, first.1, chains_joined gives first.0 g h xs ys first.2 second)

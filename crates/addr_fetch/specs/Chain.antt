-- Chains: fetches one after the other, from one state of a fetcher to another.
use Rattle.std.specs.Prelude.{ℕ, ◌≡◌, ◌⊎◌, ◌++◌, List, [], ◌∷◌}
use Rattle.addr_fetch.specs.declared.fetch.Fetched.{Fetched}
use Rattle.addr_fetch.specs.declared.fetch.Fetched.TheVariants.{NoMemory}

-- one fetch: what was asked for, with which limit, and the answer
pub record Asked : Type 0 where
  pub id : List ℕ
  pub limit : ℕ
  pub answer : Fetched

module _ {F : Type 0} (gives : F → List ℕ → ℕ → Fetched → F → Type 0) where
  -- one call of the fetcher; or none, where memory lacked before it was made
  abbrev pub Fetches : F → Asked → F → Type 0
  Fetches f x g = gives f x.id x.limit x.answer g ⊎ ((x.answer ≡ NoMemory) × (g ≡ f))

  -- one after the other
  abbrev pub Chain : F → List Asked → F → Type 0
  Chain f [] g = g ≡ f
  Chain f (x ∷ xs) g = (m : F) × Fetches f x m × Chain m xs g

  -- a chain that ends where another begins goes on as one
  abbrev pub ChainsJoin : Type 0
  ChainsJoin = (f g h : F) (xs ys : List Asked) → Chain f xs g → Chain g ys h → Chain f (xs ++ ys) h

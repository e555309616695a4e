-- What a source still gives and what a sink has taken.
use Rattle.std.specs.Prelude.{ℕ, ◌≡◌, ◌++◌, List, Option, Result, Ok, Err, IsNone, IsSomeAnd, MatchOption, take}

-- a sink as its callers see it: all bytes that were put, where it tells them; how many calls of `put` it has had; and how
-- often it has failed
pub record Stream : Type 0 where
  pub written : Option (List ℕ)
  pub puts : ℕ
  pub faults : ℕ

-- all bytes were added, or where the call failed a prefix of them
abbrev pub Appends : {T E : Type 0} → List ℕ → Result T E → List ℕ → List ℕ → Type 0
Appends old (Ok done) bytes new = new ≡ old ++ bytes
Appends old (Err _) bytes new = (n : ℕ) × (new ≡ old ++ take n bytes)

-- the same of a sink that may tell what was written
abbrev pub Writes : {T E : Type 0} → Option (List ℕ) → Result T E → List ℕ → Option (List ℕ) → Type 0
Writes old result bytes new = MatchOption old (IsNone new) (λ before. IsSomeAnd new (λ after. Appends before result bytes after))

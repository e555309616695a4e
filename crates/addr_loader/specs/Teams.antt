-- What workers leave, each of its own pass and fetcher.
use Rattle.std.specs.Prelude.{ℕ, ◌+◌, ◌<◌, ◌≤◌, List, [], ◌∷◌}
use Rattle.addr_turn.specs.Numbers.{number_bound, in_span}
use Rattle.atomic_table.specs.Seated.{TableId}
use Rattle.addr_turn.specs.Held.{view, IsAtRest}
use Rattle.addr_fetch.specs.declared.fetch.Fetched.{Fetched}
use Rattle.addr_loader.specs.declared.team.Team.{Team}
use Rattle.addr_loader.specs.Turn.{Knowledge, rows_of}
use Rattle.addr_loader.specs.Waits.{WorksOn, IsOver}

abbrev pub Pairs : {A B : Type 0} → (A → B → Type 0) → List A → List B → Type 0
Pairs R [] [] = Unit {0}
Pairs R (x ∷ xs) (y ∷ ys) = R x y × Pairs R xs ys
Pairs R _ _ = ⊥

module _ {F : Type 0} where
  -- all passes are of the lock, outside any turn
  abbrev pub AreOf : TableId → List (Team F) → Type 0
  AreOf table [] = Unit {0}
  AreOf table (t ∷ ts) = IsAtRest table t.pass.place × AreOf table ts

  -- the team worked until nothing was queued and Close had come
  abbrev pub TeamWorked : (F → List ℕ → ℕ → Fetched → F → Type 0) → TableId → Team F → Team F → Type 0
  TeamWorked gives table t u = IsAtRest table u.pass.place × WorksOn gives (view t.pass) t.fetch (view u.pass) u.fetch × IsOver (rows_of (view t.pass)) (view u.pass).seen

-- three lists, entry by entry
abbrev pub Trios : {A B C : Type 0} → (A → B → C → Type 0) → List A → List B → List C → Type 0
Trios R [] [] [] = Unit {0}
Trios R (n ∷ ns) (x ∷ xs) (y ∷ ys) = R n x y × Trios R ns xs ys
Trios R _ _ _ = ⊥

-- how often k stands in the list
abbrev pub occurs : ℕ → List ℕ → ℕ
occurs k [] = 0
occurs k (n ∷ ns) = in_span k n 1 + occurs k ns

-- no number of a pass stands twice
abbrev pub AreDistinct : List ℕ → Type 0
AreDistinct ns = (k : ℕ) → k < number_bound → occurs k ns ≤ 1

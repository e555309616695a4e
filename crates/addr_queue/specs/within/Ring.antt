-- The ring of links that keeps a queue. Place 0 stands before the first bundle and behind the last; a bundle's place is one
-- more than its number, so that a queue for more bundles has the same places and some more behind them.
use Rattle.std.specs.declared.alloc.Global.{Global}
use Rattle.std.specs.Prelude.{ℕ, zero, suc, ◌≡◌, ◌==◌, ◌+◌, ◌-◌, true, List, [], ◌∷◌, length, slice_index, Vec, vec_len, if◌then◌else◌}
use Rattle.addr_base.specs.declared.ids.BundleNo.{BundleNo}
use Rattle.addr_locate.specs.Rows.{no_repeats, are_bundles}

-- the bundles from a place on, up to place 0, in so many steps at most
abbrev pub walked : List ℕ → ℕ → ℕ → List BundleNo
walked next zero at = []
walked next (suc steps) at = if at == 0 then [] else record { 0 = at - 1 } ∷ walked next steps (slice_index next at)

-- the bundles in the order of the links
unfoldable pub ordered : ℕ → List ℕ → List BundleNo
ordered room next = walked next room (slice_index next 0)

-- the places of some bundles stand behind a place and before another, each linked with its neighbours
abbrev pub Linked : (ℕ → ℕ) → (ℕ → ℕ) → ℕ → List BundleNo → ℕ → Type 0
Linked next prev a [] z = (next a ≡ z) × (prev z ≡ a)
Linked next prev a (b ∷ bs) z = (next a ≡ b.0 + 1) × (prev (b.0 + 1) ≡ a) × Linked next prev (b.0 + 1) bs z

-- a ring of links for some bundles
pub record IsRing (room : ℕ) (next prev : List ℕ) (bundles : List BundleNo) : Type 0 where
  pub next_length : length next ≡ room + 1
  pub prev_length : length prev ≡ room + 1
  pub linked : Linked (slice_index next) (slice_index prev) 0 bundles 0
  pub below : are_bundles room bundles ≡ true
  pub once : no_repeats bundles ≡ true

-- what a queue keeps
pub record IsQueue (room len : ℕ) (next prev : Vec ℕ Global) : Type 0 where
  pub many : len ≡ length (ordered room next.items)
  pub next_len : vec_len next ≡ room + 1
  pub prev_len : vec_len prev ≡ room + 1
  pub ring : IsRing room next.items prev.items (ordered room next.items)

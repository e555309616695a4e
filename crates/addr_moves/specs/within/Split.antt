-- Kept entries by the bundles of the state, one entry and one bundle after the other.
use Rattle.std.specs.Prelude.{ℕ, ◌≡◌, ◌<◌, ◌⊎◌, List, [], ◌∷◌, ◌++◌, map, Option, Some, None, true}
use Rattle.std.specs.List.{Contains, slice_get}
use Rattle.std.specs.Ordering.{nat_cmp}
use Rattle.addr_project.specs.declared.model.Group.{Group}
use Rattle.addr_project.specs.Model.{Project}
use Rattle.addr_release.specs.Built.{IsFixedName}
use Rattle.addr_state.specs.declared.model.State.{State}
use Rattle.addr_state.specs.declared.model.StateBundle.{StateBundle}
use Rattle.addr_update.specs.declared.model.KeptBundle.{KeptBundle}
use Rattle.addr_walks.specs.Once.{AreOnce}
use Rattle.addr_walks.specs.Places.{EachAt}
use Rattle.addr_walks.specs.Walks.{IsListOf}
use Rattle.addr_moves.specs.declared.fate.Fate.{Fate}
use Rattle.addr_moves.specs.declared.fate.Fate.TheVariants.{Kept}

-- an entry that is kept is put behind the numbers of its bundle, and the other rows are as they were
abbrev pub PutsKept : Fate → ℕ → List (List ℕ) → List (List ℕ) → Type 0
PutsKept fate x old new = (m : ℕ) (row : List ℕ) → slice_get new m ≡ Some row
    → ((fate ≡ Kept m → ⊥) × (slice_get old m ≡ Some row))
    ⊎ ((fate ≡ Kept m) × ((before : List ℕ) × (slice_get old m ≡ Some before) × (row ≡ before ++ x ∷ [])))

-- the entry with a number below a bound is kept in a bundle
abbrev pub KeptBelow : List Fate → ℕ → ℕ → ℕ → Type 0
KeptBelow fates k m x = (x < k) × (slice_get fates x ≡ Some (Kept m))

-- each row has the entries that are kept in its bundle
abbrev pub AreKeptRows : List Fate → ℕ → List (List ℕ) → Type 0
AreKeptRows fates k rows = EachAt (λ m row. IsListOf nat_cmp (KeptBelow fates k m) row) rows

-- kept bundles with one more, where it stays
abbrev pub with_kept : StateBundle → Option ℕ → List ℕ → List KeptBundle → List KeptBundle
with_kept old None entries kept = kept
with_kept old (Some group) entries kept = kept ++ record { name = old.name; group = group; entries = entries } ∷ []

-- a kept bundle is one of the state that stays, with the entries whose fate is to be kept there
pub record IsKeptFrom (s : State) (p : Project) (fates : List Fate) (b : KeptBundle) (m : ℕ) (old : StateBundle) : Type 0 where
  pub at : slice_get s.bundles m ≡ Some old
  pub named : Contains s.fixed old.group
  pub name : b.name ≡ old.name
  pub group : Group
  pub group_at : slice_get p.groups b.group ≡ Some group
  pub fixed : group.fixed ≡ true
  pub group_name : group.name ≡ old.group
  pub entries : IsListOf nat_cmp (λ x. slice_get fates x ≡ Some (Kept m)) b.entries

-- these are those of the first bundles of the state, each named once where the state's are
pub record KeptUpTo (s : State) (p : Project) (fates : List Fate) (k : ℕ) (kept : List KeptBundle) : Type 0 where
  pub within : (b : KeptBundle) → Contains kept b → (m : ℕ) × (old : StateBundle) × IsKeptFrom s p fates b m old
  pub all : (m : ℕ) (old : StateBundle) → m < k → slice_get s.bundles m ≡ Some old → Contains s.fixed old.group
      → IsFixedName p old.group
      → (b : KeptBundle) × Contains kept b × IsKeptFrom s p fates b m old
  pub below : (b : KeptBundle) → Contains kept b → (m : ℕ) × (old : StateBundle) × (m < k) × (slice_get s.bundles m ≡ Some old) × (b.name ≡ old.name)
  pub once : AreOnce (map (λ b. b.name) s.bundles) → AreOnce (map (λ b. b.name) kept)

-- The placement of an update: kept bundles as the state has them, one bundle of all moved entries, and the other groups as ever.
use Rattle.std.specs.Prelude.{ℕ, ◌≡◌, ◌≢◌, ◌⊎◌, List, [], length, Some, false, true}
use Rattle.std.specs.Cmp.Lexicographic.{slice_cmp}
use Rattle.std.specs.List.{Contains, slice_get}
use Rattle.std.specs.Ordering.{nat_cmp}
use Rattle.std.specs.declared.cmp.Ordering.{Ordering}
use Rattle.addr_base.specs.declared.ids.Guid.{Guid}
use Rattle.addr_pack.specs.declared.bundles.Plan.{Plan}
use Rattle.addr_pack.specs.declared.bundles.PlanBundle.{PlanBundle}
use Rattle.addr_project.specs.declared.model.Group.{Group}
use Rattle.addr_project.specs.Model.{Project}
use Rattle.addr_state.specs.declared.model.StateBundle.{StateBundle}
use Rattle.addr_walks.specs.Walks.{IsListOf}
use Rattle.addr_update.specs.declared.model.KeptBundle.{KeptBundle}
use Rattle.addr_update.specs.Moved.{Update, IsIn, IsUnfixed, IsKeptNo, IsMovedNo, Stays, moved_name}

-- bundles in the order of their names
abbrev pub by_name : PlanBundle → PlanBundle → Ordering
by_name x y = slice_cmp nat_cmp x.name y.name

-- a kept bundle, and that of the moved entries, as they stand in a placement
abbrev pub kept_bundle : KeptBundle → PlanBundle
kept_bundle k = record { name = k.name; group = k.group; kept = true; entries = k.entries }

abbrev pub moved_bundle : Project → List ℕ → PlanBundle
moved_bundle p moved = record { name = moved_name; group = length p.groups; kept = false; entries = moved }

-- a bundle of the update: one of the project's own placement whose group isn't fixed, that of the moved entries where there
-- are any, or a kept one
abbrev pub IsUpdateBundle : Project → Plan → List KeptBundle → List ℕ → PlanBundle → Type 0
IsUpdateBundle p now kept moved bundle = (Contains now.bundles bundle × IsUnfixed p bundle.group)
    ⊎ (((moved ≢ []) × (bundle ≡ moved_bundle p moved))
    ⊎ ((k : KeptBundle) × Contains kept k × (bundle ≡ kept_bundle k)))

-- the placement of an update: these bundles in the order of their names
abbrev pub IsUpdatePlan : Project → Plan → List KeptBundle → List ℕ → Plan → Type 0
IsUpdatePlan p now kept moved plan = IsListOf by_name (IsUpdateBundle p now kept moved) plan.bundles

-- a bundle that stays, with the entries that are kept in it
pub record IsKeptAs (u : Update) (k : KeptBundle) (m : ℕ) (old : StateBundle) : Type 0 where
  pub stays : Stays u m old
  pub name : k.name ≡ old.name
  pub group : Group
  pub group_at : slice_get u.project.groups k.group ≡ Some group
  pub group_name : group.name ≡ old.group
  pub entries : IsListOf nat_cmp (IsKeptNo u m) k.entries

-- what is kept and what moves: each bundle that stays with its kept entries, and all moved entries
pub record IsSplit (u : Update) (kept : List KeptBundle) (moved : List ℕ) : Type 0 where
  pub bundles : (k : KeptBundle) → Contains kept k → (m : ℕ) × (old : StateBundle) × IsKeptAs u k m old
  pub all : (m : ℕ) (old : StateBundle) → Stays u m old → (k : KeptBundle) × Contains kept k × IsKeptAs u k m old
  pub moves : IsListOf nat_cmp (IsMovedNo u) moved

-- *Updated*: the placement of what is kept and what moves
abbrev pub IsUpdated : Update → Plan → Type 0
IsUpdated u plan = (kept : List KeptBundle) × (moved : List ℕ) × IsSplit u kept moved
    × IsUpdatePlan u.project u.now kept moved plan

-- the condition of such a placement: what is kept and what moves are the entries of fixed groups, each once
pub record CanMove (p : Project) (kept : List KeptBundle) (moved : List ℕ) : Type 0 where
  pub each : (x : ℕ) (a : Guid) (g : Group) → IsIn p x a g → g.fixed ≡ true
      → Contains moved x ⊎ ((k : KeptBundle) × Contains kept k × Contains k.entries x)
  pub moves : (x : ℕ) → Contains moved x → (a : Guid) × (g : Group) × IsIn p x a g × (g.fixed ≡ true)
  pub keeps : (k : KeptBundle) (x : ℕ) → Contains kept k → Contains k.entries x
      → (a : Guid) × (g : Group) × IsIn p x a g × (g.fixed ≡ true)
  pub apart : (k : KeptBundle) (x : ℕ) → Contains kept k → Contains k.entries x → Contains moved x → ⊥
  pub one : (j k : KeptBundle) (x : ℕ) → Contains kept j → Contains kept k → Contains j.entries x → Contains k.entries x → j ≡ k

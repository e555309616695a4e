-- The old bundle of each entry, and which entries have moved before.
use Rattle.std.specs.Prelude.{ℕ, ◌≡◌, ◌↔◌, Bool, IsTrue, List, length, Option, Some, None}
use Rattle.addr_base.specs.declared.ids.Guid.{Guid}
use Rattle.addr_layout.specs.Members.{IsEntryOf}
use Rattle.addr_locate.specs.Rows.{Rows}
use Rattle.addr_pack.specs.declared.bundles.Plan.{Plan}
use Rattle.addr_project.specs.declared.model.Group.{Group}
use Rattle.addr_project.specs.Model.{Project}
use Rattle.addr_release.specs.Opened.{Opened}
use Rattle.addr_state.specs.declared.model.State.{State}
use Rattle.addr_update.specs.Moved.{Update, IsIn, IsOld, IsUnknown, MovedBefore}
use Rattle.addr_walks.specs.Places.{EachAt}
use Rattle.addr_moves.specs.Fates.{comparing}

-- the old bundle of an entry, or none where it is unknown
abbrev pub TellsOld : Update → Guid → Option ℕ → Type 0
TellsOld u a None = IsUnknown u a
TellsOld u a (Some m) = IsOld u a m

-- so for each entry, whatever else is compared
pub record AreOlds (s : State) (p : Project) (olds : List (Option ℕ)) : Type 0 where
  pub many : length olds ≡ length p.entries
  pub each : EachAt (λ x old. (a : Guid) (g : Group) (was : List Opened) (r : Rows) (now : Plan) → IsIn p x a g
      → TellsOld (comparing s was r p now) a old) olds

-- for each entry whether it has moved before, whatever else is compared
pub record AreBefore (r : Rows) (p : Project) (before : List Bool) : Type 0 where
  pub many : length before ≡ length p.entries
  pub each : EachAt (λ x is. (a : Guid) (s : State) (was : List Opened) (now : Plan) → IsEntryOf p x a
      → IsTrue is ↔ MovedBefore (comparing s was r p now) a) before

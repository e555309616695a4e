-- What becomes of each entry in an update.
use Rattle.std.specs.Prelude.{ℕ, ◌≡◌, List, length, Some, true, false}
use Rattle.std.specs.List.{AllZip, slice_get}
use Rattle.std.specs.Ordering.{nat_cmp}
use Rattle.addr_base.specs.declared.ids.Guid.{Guid}
use Rattle.addr_locate.specs.Rows.{Rows}
use Rattle.addr_pack.specs.declared.bundles.Plan.{Plan}
use Rattle.addr_project.specs.declared.model.Entry.{Entry}
use Rattle.addr_project.specs.declared.model.Group.{Group}
use Rattle.addr_project.specs.Model.{Project}
use Rattle.addr_release.specs.Opened.{Opened}
use Rattle.addr_state.specs.declared.model.State.{State}
use Rattle.addr_update.specs.declared.model.Move.{Move}
use Rattle.addr_update.specs.Moved.{Update, IsIn, IsKeptNo, IsMovedNo, IsReason}
use Rattle.addr_walks.specs.Places.{EachAt}
use Rattle.addr_walks.specs.Walks.{IsListOf}
use Rattle.addr_moves.specs.declared.fate.Fate.{Fate}
use Rattle.addr_moves.specs.declared.fate.Fate.TheVariants.{Free, Kept, Moves}

-- an update of these parts
abbrev pub comparing : State → List Opened → Rows → Project → Plan → Update
comparing s was r p now = record { state = s; was = was; rows = r; project = p; now = now }

-- the group of the entry with a number
abbrev pub IsGroupOf : Project → ℕ → Group → Type 0
IsGroupOf p x g = (e : Entry) × (slice_get p.entries x ≡ Some e) × (slice_get p.groups e.group ≡ Some g)

-- what becomes of the entry with a number: its group isn't fixed, it is kept in a bundle of the state, or it moves for a reason
abbrev pub IsFate : Update → ℕ → Fate → Type 0
IsFate u x Free = (a : Guid) × (g : Group) × IsIn u.project x a g × (g.fixed ≡ false)
IsFate u x (Kept m) = IsKeptNo u m x
IsFate u x (Moves why) = (a : Guid) × (g : Group) × IsIn u.project x a g × (g.fixed ≡ true) × IsReason u a why

-- so for each entry
pub record AreFates (u : Update) (fates : List Fate) : Type 0 where
  pub many : length fates ≡ length u.project.entries
  pub each : EachAt (IsFate u) fates

-- a move tells the entry with a number, and its reason
abbrev pub IsMove : Update → ℕ → Move → Type 0
IsMove u x move = (g : Group) × IsIn u.project x move.guid g × (g.fixed ≡ true) × IsReason u move.guid move.why

-- the moves of all entries that move, in the order of the project
abbrev pub AreMoves : Update → List Move → Type 0
AreMoves u moves = (xs : List ℕ) × IsListOf nat_cmp (IsMovedNo u) xs × AllZip (IsMove u) xs moves

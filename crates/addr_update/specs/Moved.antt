-- Which entries an update keeps where they are, and why the others move. Places are those of the state's files.
use Rattle.std.specs.Prelude.{ℕ, ◌≡◌, ◌≢◌, ◌<◌, ◌⊎◌, codes, List, Some, false, true}
use Rattle.std.specs.List.{Contains, slice_get}
use Rattle.std.specs.declared.cmp.Ordering.TheVariants.{Less}
use Rattle.addr_base.specs.Ids.{digest_of, hex_of}
use Rattle.addr_base.specs.declared.ids.BundleNo.{BundleNo}
use Rattle.addr_base.specs.declared.ids.Guid.{Guid}
use Rattle.addr_base.specs.declared.images.Home.TheVariants.{Own, Other}
use Rattle.addr_base.specs.declared.images.RefTo.{RefTo}
use Rattle.addr_cab.specs.declared.object.ObjectOut.{ObjectOut}
use Rattle.addr_layout.specs.Agreement.{Place, place}
use Rattle.addr_layout.specs.Members.{HasEntry, IsNumbered}
use Rattle.addr_locate.specs.Rows.{Rows}
use Rattle.addr_locate.specs.declared.rows.AssetRow.{AssetRow}
use Rattle.addr_locate.specs.declared.rows.BundleRow.{BundleRow}
use Rattle.addr_pack.specs.declared.bundles.Plan.{Plan}
use Rattle.addr_pack.specs.declared.bundles.PlanBundle.{PlanBundle}
use Rattle.addr_project.specs.declared.model.Asset.{Asset}
use Rattle.addr_project.specs.declared.model.Entry.{Entry}
use Rattle.addr_project.specs.declared.model.Group.{Group}
use Rattle.addr_project.specs.Model.{Project}
use Rattle.addr_project.specs.Reach.{Reaches, guid_cmp, item_of}
use Rattle.addr_release.specs.Built.{IsFixedName}
use Rattle.addr_release.specs.Names.{digest_from}
use Rattle.addr_release.specs.Opened.{Opened, Holds, Jumps, LeadsTo, item_of_object}
use Rattle.addr_state.specs.declared.model.State.{State}
use Rattle.addr_state.specs.declared.model.StateBundle.{StateBundle}
use Rattle.addr_walks.specs.Walks.{Leads}
use Rattle.addr_update.specs.declared.model.Why.{Why}
use Rattle.addr_update.specs.declared.model.Why.TheVariants.{Before, Unknown, Changed, Led}

-- what an update compares: the state and what its files hold, the rows of the present catalogue, the project, and the
-- project's own placement
pub record Update : Type 0 where
  pub state : State
  pub was : List Opened
  pub rows : Rows
  pub project : Project
  pub now : Plan

-- the name of the bundle that moved entries make
abbrev pub moved_name : List ℕ
moved_name = codes "Content~20Update_assets_all"

-- the entry of an asset has a number in the project and stands in a group
abbrev pub IsIn : Project → ℕ → Guid → Group → Type 0
IsIn p x a g = (e : Entry) × (slice_get p.entries x ≡ Some e) × IsNumbered p e.asset a
    × (slice_get p.groups e.group ≡ Some g)

-- the group with a number isn't fixed
abbrev pub IsUnfixed : Project → ℕ → Type 0
IsUnfixed p n = (g : Group) × (slice_get p.groups n ≡ Some g) × (g.fixed ≡ false)

-- ---- bundles of the state

-- a bundle of the state stays: its group is fixed in the state and in the project
abbrev pub Stays : Update → ℕ → StateBundle → Type 0
Stays u m old = (slice_get u.state.bundles m ≡ Some old) × Contains u.state.fixed old.group
    × IsFixedName u.project old.group

-- a bundle of the state has the entry, and its group is fixed in the state and is the entry's present one
abbrev pub HasOld : Update → Guid → ℕ → Type 0
HasOld u a m = (old : StateBundle) × (slice_get u.state.bundles m ≡ Some old) × Contains old.entries a
    × Contains u.state.fixed old.group × (x : ℕ) × (g : Group) × IsIn u.project x a g × (g.name ≡ old.group)

-- the old bundle of an entry: the first such bundle
abbrev pub IsOld : Update → Guid → ℕ → Type 0
IsOld u a m = HasOld u a m × ((n : ℕ) → n < m → HasOld u a n → ⊥)

-- a place of an entry's way: a walk through the state's files leads to it from the entry's old bundle
abbrev pub OnWay : Update → Guid → Place → Type 0
OnWay u a q = (m : ℕ) × IsOld u a m × Leads (Jumps u.was) (place m a) q

-- ---- what is compared on the way

-- a place holds something, and what it holds has the bytes and references that the project has
abbrev pub IsAsNow : Update → Place → Type 0
IsAsNow u q = ((o : ObjectOut) × Holds u.was q o)
    × ((o : ObjectOut) → Holds u.was q o → (asset : Asset) × Contains u.project.assets asset × (item_of_object o ≡ item_of asset))

-- by its internal name, a home is a bundle of the project's own placement that has the asset as an entry and whose group isn't
-- fixed
abbrev pub IsLedAnew : Update → RefTo → Type 0
IsLedAnew u r = (c : ℕ) × (bundle : PlanBundle) × (slice_get u.now.bundles c ≡ Some bundle) × IsUnfixed u.project bundle.group
    × HasEntry u.project u.now c r.guid × (r.home ≡ Other (digest_from bundle.name))

-- a reference leads to its own bundle, to a bundle that stays, or so to one of the project's own
abbrev pub IsLedOn : Update → Place → RefTo → Type 0
IsLedOn u q r = (r.home ≡ Own)
    ⊎ (((n : ℕ) × (old : StateBundle) × LeadsTo u.was q.bundle r.home n × Stays u n old)
    ⊎ IsLedAnew u r)

-- ---- the four reasons

-- the first row of the present catalogue for the entry has the bundle of moved entries as its first dependency
abbrev pub MovedBefore : Update → Guid → Type 0
MovedBefore u a = (k : ℕ) × (row : AssetRow) × (slice_get u.rows.assets k ≡ Some row) × (row.id ≡ hex_of a.0)
    × ((j : ℕ) (other : AssetRow) → j < k → slice_get u.rows.assets j ≡ Some other → other.id ≢ hex_of a.0)
    × (first : BundleNo) × (slice_get row.deps 0 ≡ Some first)
    × (b : BundleRow) × (slice_get u.rows.bundles first.0 ≡ Some b) × (b.name ≡ hex_of (digest_of moved_name))

-- the entry has no old bundle
abbrev pub IsUnknown : Update → Guid → Type 0
IsUnknown u a = (m : ℕ) → IsOld u a m → ⊥

-- the project reaches an asset that no place of the way has, or one of them has not as the project has it
abbrev pub HasChanged : Update → Guid → Guid → Type 0
HasChanged u a d = Reaches u.project a d
    × (((q : Place) → OnWay u a q → q.guid ≡ d → ⊥) ⊎ ((q : Place) × OnWay u a q × (q.guid ≡ d) × ¬ IsAsNow u q))

-- a reference on the way to the asset isn't led on
abbrev pub IsLedAway : Update → Guid → Guid → Type 0
IsLedAway u a d = (q : Place) × OnWay u a q × (o : ObjectOut) × Holds u.was q o
    × (r : RefTo) × Contains o.refs r × (r.guid ≡ d) × ¬ IsLedOn u q r

-- ---- kept and moved

-- an entry is kept in its old bundle where none of the four holds
pub record IsKept (u : Update) (a : Guid) (m : ℕ) : Type 0 where
  pub old : IsOld u a m
  pub before : ¬ MovedBefore u a
  pub same : (d : Guid) → ¬ HasChanged u a d
  pub led : (d : Guid) → ¬ IsLedAway u a d

-- and is moved where one of them does
abbrev pub IsMoved : Update → Guid → Type 0
IsMoved u a = MovedBefore u a ⊎ (IsUnknown u a ⊎ (((d : Guid) × HasChanged u a d) ⊎ ((d : Guid) × IsLedAway u a d)))

-- the least of a set of GUIDs
abbrev pub IsLeast : (Guid → Type 0) → Guid → Type 0
IsLeast set d = set d × ((e : Guid) → set e → guid_cmp e d ≡ Less → ⊥)

-- the reason that is told: the first of the four that holds, with the least GUID
abbrev pub IsReason : Update → Guid → Why → Type 0
IsReason u a Before = MovedBefore u a
IsReason u a Unknown = (¬ MovedBefore u a) × IsUnknown u a
IsReason u a (Changed d) = (¬ MovedBefore u a) × (¬ IsUnknown u a) × IsLeast (HasChanged u a) d
IsReason u a (Led d) = (¬ MovedBefore u a) × (¬ IsUnknown u a) × ((e : Guid) → ¬ HasChanged u a e) × IsLeast (IsLedAway u a) d

-- the number of an entry of a fixed group, that of one kept in a bundle of the state, and that of one that moves
abbrev pub IsFixedNo : Update → ℕ → Guid → Type 0
IsFixedNo u x a = (g : Group) × IsIn u.project x a g × (g.fixed ≡ true)

abbrev pub IsKeptNo : Update → ℕ → ℕ → Type 0
IsKeptNo u m x = (a : Guid) × (g : Group) × IsIn u.project x a g × (g.fixed ≡ true) × IsKept u a m

abbrev pub IsMovedNo : Update → ℕ → Type 0
IsMovedNo u x = (a : Guid) × (g : Group) × IsIn u.project x a g × (g.fixed ≡ true) × IsMoved u a

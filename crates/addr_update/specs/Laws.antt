-- What an update rests on and leaves, and what holds of every update of a project.
use Rattle.std.specs.Prelude.{ℕ, ◌≡◌, ◌<◌, ◌≤◌, ◌↔◌, ◌⊎◌, length, List, Option, Some, Ok, take}
use Rattle.std.specs.List.{slice_get}
use Rattle.addr_base.specs.Files.{file_at}
use Rattle.addr_base.specs.declared.files.MemFile.{MemFile}
use Rattle.addr_base.specs.declared.ids.Digest.{Digest}
use Rattle.addr_base.specs.declared.ids.Guid.{Guid}
use Rattle.addr_catalog.specs.Catalogue.{catalogue_read}
use Rattle.addr_catalog.specs.declared.catalogue.Catalogue.{Catalogue}
use Rattle.addr_layout.specs.Members.{IsShared}
use Rattle.addr_locate.specs.declared.rows.AssetRow.{AssetRow}
use Rattle.addr_pack.specs.Placement.{IsPlaced}
use Rattle.addr_pack.specs.declared.bundles.Plan.{Plan}
use Rattle.addr_project.specs.Model.{Project}
use Rattle.addr_project.specs.Reach.{Row, Shown}
use Rattle.addr_release.specs.Images.{NamesApart}
use Rattle.addr_release.specs.Laws.{Keeps}
use Rattle.addr_release.specs.Names.{catalogue_path}
use Rattle.addr_release.specs.Puts.{IsAfter}
use Rattle.addr_release.specs.Resolve.{Resolve}
use Rattle.addr_release.specs.Sound.{HasSoundRelease}
use Rattle.addr_state.specs.Sound.{IsSound}
use Rattle.addr_update.specs.declared.model.KeptBundle.{KeptBundle}
use Rattle.addr_update.specs.declared.model.Why.{Why}
use Rattle.addr_update.specs.After.{IsReleaseAfter, NoBundleTaken, UpdatedRelease, update_puts}
use Rattle.addr_update.specs.Clean.{HasCleanWay}
use Rattle.addr_update.specs.Intact.{AreIntact}
use Rattle.addr_update.specs.Moved.{Update, HasChanged, IsFixedNo, IsKept, IsKeptNo, IsLedAway, IsMoved, IsMovedNo, IsOld, IsReason}
use Rattle.addr_update.specs.Placement.{CanMove, IsSplit, IsUpdated, IsUpdatePlan}
use Rattle.addr_update.specs.Rows.{IsKeptRow, IsMovedRow}

-- ---- what is compared

-- each entry is kept or has a reason, never both; it has at most one reason, and one old bundle; and it is moved exactly where it
-- has a reason
pub record ReasonsTell (u : Update) : Type 0 where
  pub each : (a : Guid) → ((m : ℕ) × IsKept u a m) ⊎ ((why : Why) × IsReason u a why)
  pub apart : (a : Guid) (m : ℕ) → IsKept u a m → IsMoved u a → ⊥
  pub one : (a : Guid) (why other : Why) → IsReason u a why → IsReason u a other → why ≡ other
  pub old : (a : Guid) (m n : ℕ) → IsOld u a m → IsOld u a n → m ≡ n
  pub moved : (a : Guid) → IsMoved u a ↔ ((why : Why) × IsReason u a why)

-- so the entries of fixed groups are split, by their numbers
pub record NumbersSplit (u : Update) : Type 0 where
  pub each : (x : ℕ) (a : Guid) → IsFixedNo u x a → ((m : ℕ) × IsKeptNo u m x) ⊎ IsMovedNo u x
  pub apart : (m x : ℕ) → IsKeptNo u m x → IsMovedNo u x → ⊥
  pub one : (m n x : ℕ) → IsKeptNo u m x → IsKeptNo u n x → m ≡ n
  pub can : (kept : List KeptBundle) (moved : List ℕ) → IsSplit u kept moved → CanMove u.project kept moved

abbrev pub EntriesSplit : Project → Type 0
EntriesSplit p = (u : Update) → u.project ≡ p → ReasonsTell u × NumbersSplit u

-- an entry with a clean way is neither changed nor led away
abbrev pub CleanStays : Project → Type 0
CleanStays p = (u : Update) → u.project ≡ p → (a : Guid) (m : ℕ) → IsOld u a m → HasCleanWay u m a
    → (d : Guid) → (¬ HasChanged u a d) × (¬ IsLedAway u a d)

-- ---- the placement

-- the update's placement is one
abbrev pub OneUpdated : Project → Type 0
OneUpdated p = (u : Update) → u.project ≡ p → (plan other : Plan) → IsUpdated u plan → IsUpdated u other → plan ≡ other

-- each entry stands in exactly one bundle
abbrev pub PlansShare : Project → Type 0
PlansShare p = (now plan : Plan) (kept : List KeptBundle) (moved : List ℕ) → IsPlaced p now → CanMove p kept moved
    → IsUpdatePlan p now kept moved plan → IsShared p plan

-- ---- the release

-- an update of a folder: from an intact state to the release in the update's placement, of which no name is taken
pub record IsUpdateOf (u : Update) (old : List MemFile) (folder : List ℕ) (named : Option Digest)
    (r : UpdatedRelease) : Type 0 where
  pub sound : IsSound u.state
  pub intact : AreIntact u.state old folder u.was
  pub placed : IsPlaced u.project u.now
  pub kept : List KeptBundle
  pub moved : List ℕ
  pub split : IsSplit u kept moved
  pub plan : Plan
  pub updated : IsUpdatePlan u.project u.now kept moved plan
  pub is : IsReleaseAfter u plan old folder named r
  pub free : NoBundleTaken old folder r

-- what it leaves: each key resolves to what the project shows, the release is sound, no file but catalogue and hash gets other
-- bytes, and the state is intact as before
pub record LeavesShown (u : Update) (old new : List MemFile) (folder : List ℕ) : Type 0 where
  pub shows : (key : List ℕ) (shown : List Row) → Resolve new folder key shown ↔ Shown u.project key shown
  pub sound : HasSoundRelease new folder
  pub keeps : Keeps folder old new
  pub intact : AreIntact u.state new folder u.was

-- so it does after all its puts
abbrev pub UpdateShows : Project → Type 0
UpdateShows p = (u : Update) → u.project ≡ p
    → (old new : List MemFile) (folder : List ℕ) (named : Option Digest) (r : UpdatedRelease)
    → (of : IsUpdateOf u old folder named r) → IsAfter (update_puts folder r) old new → NamesApart of.plan
    → LeavesShown u old new folder

-- each key that resolved resolves the same, with the same catalogue
pub record ResolvesAsBefore (folder : List ℕ) (old now : List MemFile) : Type 0 where
  pub catalogue : file_at (catalogue_path folder) now ≡ file_at (catalogue_path folder) old
  pub same : (key : List ℕ) (shown : List Row) → Resolve old folder key shown → Resolve now folder key shown

-- after some first puts: up to the catalogue's own each key resolves as before, and from there on to what the project shows
abbrev pub UpdateAlong : Project → Type 0
UpdateAlong p = (u : Update) → u.project ≡ p
    → (old now : List MemFile) (folder : List ℕ) (named : Option Digest) (r : UpdatedRelease)
    → (of : IsUpdateOf u old folder named r) → (k : ℕ) → IsAfter (take k (update_puts folder r)) old now
    → (k ≤ length r.bundles → ResolvesAsBefore folder old now)
    × (length r.bundles < k → (file_at (catalogue_path folder) now ≡ Some r.catalogue)
    × (NamesApart of.plan → LeavesShown u old now folder))

-- in the catalogue that is then read, rows of kept entries have their old bundle, those of moved entries the bundle of these
abbrev pub RowsTell : Project → Type 0
RowsTell p = (u : Update) → u.project ≡ p → (old new : List MemFile) (folder : List ℕ) (named : Option Digest) (r : UpdatedRelease)
    → IsUpdateOf u old folder named r → IsAfter (update_puts folder r) old new
    → (bytes : List ℕ) (c : Catalogue) → file_at (catalogue_path folder) new ≡ Some bytes → catalogue_read bytes ≡ Ok c
    → (x : ℕ) (a : AssetRow) → slice_get c.locator.assets x ≡ Some a
    → ((m : ℕ) → IsKeptNo u m x → IsKeptRow u.state c.locator m a) × (IsMovedNo u x → IsMovedRow c.locator a)

-- Builds, edits and updates of a folder, one after the other.
use Rattle.std.specs.Prelude.{ℕ, ◌≡◌, ◌↔◌, ◌⊎◌, List, Bool, Option}
use Rattle.addr_base.specs.Files.{file_at}
use Rattle.addr_base.specs.declared.files.MemFile.{MemFile}
use Rattle.addr_base.specs.declared.ids.Digest.{Digest}
use Rattle.addr_catalog.specs.declared.catalogue.Catalogue.{Catalogue}
use Rattle.addr_pack.specs.Placement.{IsPlaced}
use Rattle.addr_pack.specs.declared.bundles.Plan.{Plan}
use Rattle.addr_project.specs.Kept.{IsKept as IsKeptProject}
use Rattle.addr_project.specs.Model.{Project}
use Rattle.addr_project.specs.Reach.{Row, Shown}
use Rattle.addr_project.specs.Reading.{ProjectOf}
use Rattle.addr_release.specs.Built.{IsReleaseIn, Release}
use Rattle.addr_release.specs.Held.{IsHeldAs}
use Rattle.addr_release.specs.Images.{NamesApart}
use Rattle.addr_release.specs.Names.{side_path, state_path}
use Rattle.addr_release.specs.Opened.{Opened}
use Rattle.addr_release.specs.Puts.{IsAfter, NoneTaken, puts_of}
use Rattle.addr_release.specs.Resolve.{Resolve}
use Rattle.addr_release.specs.Sound.{HasSoundRelease}
use Rattle.addr_state.specs.declared.model.State.{State}
use Rattle.addr_walks.specs.Walks.{Leads}
use Rattle.addr_update.specs.After.{UpdatedRelease, update_puts}
use Rattle.addr_update.specs.Intact.{AreIntact}
use Rattle.addr_update.specs.Laws.{IsUpdateOf}
use Rattle.addr_update.specs.Moved.{Update}

-- a moment of a folder: its files, the project that the last build or update read, and the state of the last full build
pub record Moment : Type 0 where
  pub files : List MemFile
  pub project : Project
  pub state : State

-- what was shipped: each key resolves to what the project shows, the release is sound, and the folder holds the state, intact
pub record IsShipped (folder : List ℕ) (m : Moment) : Type 0 where
  pub shows : (key : List ℕ) (shown : List Row) → Resolve m.files folder key shown ↔ Shown m.project key shown
  pub sound : HasSoundRelease m.files folder
  pub catalogue : Catalogue
  pub held : IsHeldAs m.files folder catalogue m.state
  pub was : List Opened
  pub intact : AreIntact m.state m.files folder was

-- an edit changes any files but those of the release
pub record IsEdit (folder : List ℕ) (m n : Moment) : Type 0 where
  pub sides : (remote : Bool) (key : List ℕ)
      → file_at (side_path folder remote key) n.files ≡ file_at (side_path folder remote key) m.files
  pub states : (named : Option Digest) → file_at (state_path folder named) n.files ≡ file_at (state_path folder named) m.files
  pub project : n.project ≡ m.project
  pub state : n.state ≡ m.state

-- a full build puts the release of the project that it reads, and that release has a state of its own
pub record IsBuild (folder : List ℕ) (m n : Moment) : Type 0 where
  pub read : ProjectOf m.files folder n.project
  pub keeps : IsKeptProject n.project
  pub plan : Plan
  pub placed : IsPlaced n.project plan
  pub apart : NamesApart plan
  pub release : Release
  pub is : IsReleaseIn n.project plan release
  pub free : NoneTaken m.files folder release
  pub after : IsAfter (puts_of folder release) m.files n.files
  pub state : n.state ≡ release.state

-- an update reads the project, goes by the state that the catalogue names, and leaves it the folder's state
pub record IsUpdate (folder : List ℕ) (m n : Moment) : Type 0 where
  pub read : ProjectOf m.files folder n.project
  pub keeps : IsKeptProject n.project
  pub present : Catalogue
  pub held : IsHeldAs m.files folder present m.state
  pub u : Update
  pub of_project : u.project ≡ n.project
  pub of_state : u.state ≡ m.state
  pub of_rows : u.rows ≡ present.locator
  pub release : UpdatedRelease
  pub of : IsUpdateOf u m.files folder present.state release
  pub after : IsAfter (update_puts folder release) m.files n.files
  pub apart : NamesApart of.plan
  pub state : n.state ≡ m.state

abbrev pub IsStep : List ℕ → Moment → Moment → Type 0
IsStep folder m n = IsEdit folder m n ⊎ (IsBuild folder m n ⊎ IsUpdate folder m n)

-- a full build ships. From then on, over any list of edits, builds and updates, what the last build or update shipped is still
-- there; and an update then leaves each key resolving to what a fresh build gives
pub record UpdatesShow : Type 0 where
  pub builds : (folder : List ℕ) (before first : Moment) → IsBuild folder before first → IsShipped folder first
  pub stays : (folder : List ℕ) (first last : Moment) → IsShipped folder first
      → Leads (IsStep folder) first last → IsShipped folder last
  pub as_built : (folder : List ℕ) (last after fresh : Moment) → IsShipped folder last
      → IsUpdate folder last after → IsBuild folder last fresh
      → (key : List ℕ) (shown : List Row) → Resolve after.files folder key shown ↔ Resolve fresh.files folder key shown

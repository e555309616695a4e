-- What an update of a folder compares, and what is told of it: the entries that it would move, or the first cause of a refusal.
use Rattle.std.specs.Prelude.{ℕ, ◌≡◌, ◌≤◌, List, Result, Ok, Err}
use Rattle.addr_base.specs.Faults.{Rose}
use Rattle.addr_base.specs.declared.files.MemFile.{MemFile}
use Rattle.addr_catalog.specs.declared.catalogue.Catalogue.{Catalogue}
use Rattle.addr_held.specs.Opening.{HasBadCatalogue, IsWrong, LacksFile}
use Rattle.addr_moves.specs.Fates.{AreMoves}
use Rattle.addr_pack.specs.LongNames.{IsFirstLong, NamesFit}
use Rattle.addr_pack.specs.Placement.{IsPlaced}
use Rattle.addr_project.specs.Model.{Project as Contents}
use Rattle.addr_project.specs.Reading.{ProjectFault, ProjectOf}
use Rattle.addr_project.specs.declared.limit.Limit.{Limit}
use Rattle.addr_project.specs.declared.limit.Limit.TheVariants as limit
use Rattle.addr_release.specs.Held.{IsHeldAs}
use Rattle.addr_release.specs.Opened.{Opened}
use Rattle.addr_resolve.specs.Resolving.{HasCatalogue}
use Rattle.addr_state.specs.declared.model.State.{State}
use Rattle.addr_update.specs.Intact.{AreIntact}
use Rattle.addr_update.specs.Moved.{Update}
use Rattle.addr_update.specs.declared.model.Move.{Move}
use Rattle.addr_check.specs.declared.error.CheckErr.{CheckErr}
use Rattle.addr_check.specs.declared.error.CheckErr.TheVariants.{Project, NoRelease, BadCatalogue, BadRelease, TooLarge, DepotFault, NoMemory}

-- what an update of the folder compares: its project, no name of whose own placement is too long, with that placement, and the
-- intact release that the folder holds
pub record IsCompared (files : List MemFile) (folder : List ℕ) (u : Update) : Type 0 where
  pub project : ProjectOf files folder u.project
  pub fits : NamesFit u.project
  pub placed : IsPlaced u.project u.now
  pub catalogue : Catalogue
  pub rows : u.rows ≡ catalogue.locator
  pub held : IsHeldAs files folder catalogue u.state
  pub intact : AreIntact u.state files folder u.was

-- a release is held intact, for which a name of the project's own placement is too long
abbrev pub HasLongName : List MemFile → List ℕ → ℕ → Type 0
HasLongName files folder size = (p : Contents) × ProjectOf files folder p × (x : ℕ) × IsFirstLong p x size
    × (c : Catalogue) × (s : State) × (was : List Opened) × IsHeldAs files folder c s × AreIntact s files folder was

-- what is told over files that are told
abbrev pub Checks : List MemFile → List ℕ → Result (List Move) CheckErr → Type 0
Checks files folder (Ok moves) = (u : Update) × IsCompared files folder u × AreMoves u moves
Checks files folder (Err (Project fault)) = ProjectFault files folder fault
Checks files folder (Err (NoRelease name)) = (p : Contents) × ProjectOf files folder p × LacksFile files folder name
Checks files folder (Err (BadCatalogue fault)) = (p : Contents) × ProjectOf files folder p × HasBadCatalogue files folder fault
Checks files folder (Err (BadRelease name why)) = (p : Contents) × ProjectOf files folder p
    × (c : Catalogue) × HasCatalogue files folder c × IsWrong files folder c.state name why
Checks files folder (Err (TooLarge which size)) = (which ≡ limit.BundleName) × HasLongName files folder size
Checks files folder (Err DepotFault) = Unit {0}
Checks files folder (Err NoMemory) = Unit {0}

-- the count of faults rose exactly where the answer is a fault of the depot
abbrev pub CheckRose : {T : Type 0} → ℕ → ℕ → Result T CheckErr → Type 0
CheckRose before now (Ok done) = now ≡ before
CheckRose before now (Err (Project fault)) = now ≡ before
CheckRose before now (Err (NoRelease name)) = now ≡ before
CheckRose before now (Err (BadCatalogue fault)) = now ≡ before
CheckRose before now (Err (BadRelease name why)) = now ≡ before
CheckRose before now (Err (TooLarge which size)) = now ≡ before
CheckRose before now (Err DepotFault) = (before ≤ now) × Rose before now
CheckRose before now (Err NoMemory) = now ≡ before

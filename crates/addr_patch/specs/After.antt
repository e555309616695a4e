-- What stands after an update, and at each moment on the way: what keys resolve to, which state is held, and which files stay.
use Rattle.std.specs.Prelude.{ℕ, ◌≡◌, ◌⊎◌, length, List, Some, Ok}
use Rattle.addr_base.specs.Files.{file_at}
use Rattle.addr_base.specs.declared.files.MemFile.{MemFile}
use Rattle.addr_build.specs.After.{HasOld, ResolvesTo}
use Rattle.addr_build.specs.declared.release.Summary.{Summary}
use Rattle.addr_catalog.specs.declared.catalogue.Catalogue.{Catalogue}
use Rattle.addr_check.specs.Checking.{Checks, IsCompared}
use Rattle.addr_pack.specs.declared.bundles.Plan.{Plan}
use Rattle.addr_project.specs.Model.{Project}
use Rattle.addr_project.specs.Reading.{ProjectOf}
use Rattle.addr_release.specs.Held.{IsHeldAs}
use Rattle.addr_release.specs.Images.{NamesApart}
use Rattle.addr_release.specs.Names.{catalogue_path}
use Rattle.addr_release.specs.Sound.{HasSoundRelease}
use Rattle.addr_state.specs.declared.model.State.{State}
use Rattle.addr_update.specs.After.{UpdatedRelease}
use Rattle.addr_update.specs.History.{IsUpdate, Moment}
use Rattle.addr_update.specs.Intact.{AreIntact}
use Rattle.addr_update.specs.Laws.{IsUpdateOf}
use Rattle.addr_update.specs.Moved.{Update}
use Rattle.addr_update.specs.Placement.{IsUpdated}
use Rattle.addr_update.specs.declared.model.Move.{Move}

-- the one premise of what a release shows: the internal names of the update's bundles differ
abbrev pub NamesDiffer : List MemFile → List ℕ → Type 0
NamesDiffer files folder = (u : Update) → IsCompared files folder u → (plan : Plan) → IsUpdated u plan → NamesApart plan

-- the files after resolve each key to what the project shows that the files before stood for
abbrev pub Shows : List ℕ → List MemFile → List MemFile → Type 0
Shows folder old new = (p : Project) → ProjectOf old folder p → NamesDiffer old folder → ResolvesTo p folder new

-- their release is sound
abbrev pub IsSoundFor : List ℕ → List MemFile → List MemFile → Type 0
IsSoundFor folder old new = NamesDiffer old folder → HasSoundRelease new folder

-- the folder holds the state that it held, intact
abbrev pub HoldsStill : List ℕ → List MemFile → List MemFile → Type 0
HoldsStill folder old new = (u : Update) × IsCompared old folder u
    × (c : Catalogue) × IsHeldAs new folder c u.state × AreIntact u.state new folder u.was

-- the update is a step of a history of edits, builds and updates
abbrev pub IsStep : List ℕ → List MemFile → List MemFile → Type 0
IsStep folder old new = NamesDiffer old folder → (p : Project) → ProjectOf old folder p
    → (c : Catalogue) (s : State) → IsHeldAs old folder c s → (q : Project)
    → IsUpdate folder (record { files = old; project = q; state = s }) (record { files = new; project = p; state = s })

-- as many entries moved as are told to move
abbrev pub CountsMoves : List ℕ → Summary → List MemFile → Type 0
CountsMoves folder summary old = (moves : List Move) → Checks old folder (Ok moves) → summary.moved ≡ length moves

-- the catalogue is that of the update; each key resolves to what the project shows, the release is sound, and the folder holds the
-- state that it held
pub record HasNew (folder : List ℕ) (old files : List MemFile) : Type 0 where
  pub u : Update
  pub compared : IsCompared old folder u
  pub release : UpdatedRelease
  pub of : IsUpdateOf u old folder compared.catalogue.state release
  pub catalogue : file_at (catalogue_path folder) files ≡ Some release.catalogue
  pub shows : NamesDiffer old folder → ResolvesTo u.project folder files
  pub sound : NamesDiffer old folder → HasSoundRelease files folder
  pub held : (c : Catalogue) × IsHeldAs files folder c u.state
  pub intact : AreIntact u.state files folder u.was

-- whoever reads the folder while it is updated finds the old release or the new one
abbrev pub Serves : List ℕ → List MemFile → List MemFile → Type 0
Serves folder old files = HasOld folder old files ⊎ HasNew folder old files

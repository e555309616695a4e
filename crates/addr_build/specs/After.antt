-- What stands after a build, and at each moment on the way: what keys resolve to, and which files stay.
use Rattle.std.specs.Prelude.{ℕ, ◌≡◌, ◌↔◌, ◌⊎◌, List, Some, IfSome, IsSomeAnd, Result, Ok, Err}
use Rattle.addr_base.specs.Files.{SameStore, Store, file_at}
use Rattle.addr_base.specs.declared.files.MemFile.{MemFile}
use Rattle.addr_pack.specs.Placement.{IsPlaced}
use Rattle.addr_pack.specs.declared.bundles.Plan.{Plan}
use Rattle.addr_project.specs.Model.{Project}
use Rattle.addr_project.specs.Reach.{Row, Shown}
use Rattle.addr_project.specs.Reading.{ProjectOf}
use Rattle.addr_release.specs.Built.{IsReleaseOf, Release}
use Rattle.addr_release.specs.Held.{IsHeld}
use Rattle.addr_release.specs.Images.{NamesApart}
use Rattle.addr_release.specs.Names.{catalogue_path}
use Rattle.addr_release.specs.Resolve.{Resolve}
use Rattle.addr_release.specs.Sound.{HasSoundRelease}
use Rattle.addr_build.specs.Outcomes.{IsBuilt}
use Rattle.addr_build.specs.declared.release.Summary.{Summary}

-- where a call answers Ok and files are told, this holds of its answer, of the files before, and of those after
abbrev pub Leaves : {T E : Type 0} → (T → List MemFile → List MemFile → Type 0) → Store → Store → Result T E → Type 0
Leaves holds old new (Ok done) = IfSome old.files (λ before. IsSomeAnd new.files (λ after. holds done before after))
Leaves holds old new (Err cause) = Unit {0}

-- the one premise of what a release shows: the internal names of the project's bundles differ
abbrev pub NamesDiffer : Project → Type 0
NamesDiffer p = (plan : Plan) → IsPlaced p plan → NamesApart plan

-- each key resolves to exactly what the project shows under it
abbrev pub ResolvesTo : Project → List ℕ → List MemFile → Type 0
ResolvesTo p folder files = (key : List ℕ) (shown : List Row) → Resolve files folder key shown ↔ Shown p key shown

-- the files after resolve each key to what the project shows that the files before stood for
abbrev pub Shows : List ℕ → List MemFile → List MemFile → Type 0
Shows folder old new = (p : Project) → ProjectOf old folder p → NamesDiffer p → ResolvesTo p folder new

-- their release is sound
abbrev pub IsSoundFor : List ℕ → List MemFile → List MemFile → Type 0
IsSoundFor folder old new = (p : Project) → ProjectOf old folder p → NamesDiffer p → HasSoundRelease new folder

-- the catalogue is the old one, and each key that resolved resolves to the same
pub record HasOld (folder : List ℕ) (old files : List MemFile) : Type 0 where
  pub catalogue : file_at (catalogue_path folder) files ≡ file_at (catalogue_path folder) old
  pub resolves : (key : List ℕ) (shown : List Row) → Resolve old folder key shown → Resolve files folder key shown

-- the catalogue is that of the project that the folder stood for; each key resolves to what this shows, the release is sound,
-- and the folder holds its state
pub record HasNew (folder : List ℕ) (old files : List MemFile) : Type 0 where
  pub project : Project
  pub read : ProjectOf old folder project
  pub release : Release
  pub is : IsReleaseOf project release
  pub catalogue : file_at (catalogue_path folder) files ≡ Some release.catalogue
  pub shows : NamesDiffer project → ResolvesTo project folder files
  pub sound : NamesDiffer project → HasSoundRelease files folder
  pub held : IsHeld files folder

-- whoever reads the folder while it is built finds the old release or the new one
abbrev pub Serves : List ℕ → List MemFile → List MemFile → Type 0
Serves folder old files = HasOld folder old files ⊎ HasNew folder old files

-- where the files before are those that another build left, no bundle is put, nor anything else: each name leads to what it
-- led to, the catalogue's too
abbrev pub IsAgain : {E : Type 0} → List ℕ → Store → Store → Result Summary E → Type 0
IsAgain folder old new (Ok summary) = (first files : List MemFile) (earlier : Summary) → old.files ≡ Some files
    → IsBuilt folder first files earlier → (summary.put ≡ 0) × SameStore old new
IsAgain folder old new (Err cause) = Unit {0}

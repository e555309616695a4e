-- The release after an update shows what the project shows, and is sound.
use Rattle.std.proofs.Common.{◌<◌, ◌↔◌, ℕ, length, take, List, Option}
use Rattle.addr_base.specs.declared.files.MemFile.{MemFile}
use Rattle.addr_base.specs.declared.ids.Digest.{Digest}
use Rattle.addr_layout.specs.Members.{IsShared}
use Rattle.addr_project.specs.Kept.{IsKept as IsKeptProject}
use Rattle.addr_project.specs.Reach.{Row, Shown}
use Rattle.addr_release.specs.Images.{NamesApart}
use Rattle.addr_release.specs.Opened.{Opened}
use Rattle.addr_release.specs.Resolve.{Resolve}
use Rattle.addr_release.specs.Sound.{HasSoundRelease}
use Rattle.addr_release.proofs.FaithfulLemmas.{Carries}
use Rattle.addr_release.proofs.ImageLemmas.{AreOpened}
use Rattle.addr_release.proofs.ReleaseLemmas.{stands-shows}
use Rattle.addr_release.proofs.SoundLemmas.{sound-release}
use Rattle.addr_release.specs.Puts.{IsAfter}
use Rattle.addr_update.specs.After.{NeedsAfter, UpdatedRelease, update_puts}
use Rattle.addr_update.specs.Laws.{IsUpdateOf, LeavesShown}
use Rattle.addr_update.specs.Moved.{Update}
use Rattle.addr_update.proofs.PutLemmas.{all-after, all-far, catalogue, intact-after, keeps, stands, state-once}
use Rattle.addr_update.proofs.ReasonLemmas.{can-move}
use Rattle.addr_update.proofs.SharedLemmas.{shared-plan}
use Rattle.addr_update.proofs.UpdatedLemmas.{HasAfter, IsGood, updated-carries}

module _ (u : Update) (project : IsKeptProject u.project) (old : List MemFile) (folder : List ℕ) (named : Option Digest) (r : UpdatedRelease) (of : IsUpdateOf u old folder named r) where
  pub shared : IsShared u.project of.plan
  shared = shared-plan u.project u.now of.kept of.moved of.plan project of.placed (can-move u project of.kept of.moved of.split) of.updated

  module _ (apart : NamesApart of.plan) (new : List MemFile) (k : ℕ) (far : length r.bundles < k) (after : IsAfter (take k (update_puts folder r)) old new) where
    carries : (opened : List Opened) → AreOpened of.plan (HasAfter u of.plan) opened → Carries u.project of.plan (NeedsAfter u of.plan) opened (IsGood u of.plan)
    carries opened are = updated-carries u of.kept of.moved of.plan old folder project shared apart of.placed of.split of.updated (state-once u old folder named r of) of.intact opened are

    shows : (key : List ℕ) (shown : List Row) → Resolve new folder key shown ↔ Shown u.project key shown
    shows = stands-shows u.project of.plan (HasAfter u of.plan) (NeedsAfter u of.plan) (λ opened q. IsGood u of.plan q) carries new folder (catalogue u old folder named r of) project (stands u old folder named r of new k far after)

    sound : HasSoundRelease new folder
    sound = sound-release u.project of.plan (HasAfter u of.plan) (NeedsAfter u of.plan) (λ opened q. IsGood u of.plan q) carries new folder (catalogue u old folder named r of) project apart (stands u old folder named r of new k far after)

    pub leaves-shown : LeavesShown u old new folder
    leaves-shown = record {
      shows = shows;
      sound = sound;
      keeps = keeps u old folder named r of new k far after;
      intact = intact-after u old folder named r of new k far after;
    }

  pub all-shown : (new : List MemFile) → IsAfter (update_puts folder r) old new → NamesApart of.plan → LeavesShown u old new folder
  all-shown new after apart = leaves-shown apart new (length (update_puts folder r)) (all-far u old folder named r of) (all-after u old folder named r of new after)

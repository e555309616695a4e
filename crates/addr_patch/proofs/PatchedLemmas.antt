-- What an update leaves: its release shows what the project shows and is sound, the folder holds the state that it held, and the
-- update is a step of the folder's history, with as many moves as are told.
use Rattle.std.proofs.Common.{◌≡◌, ℕ, List, length, Ok, refl, sym, ap, subst, ◌∙◌}
use Rattle.std.specs.Cmp.{nat_cmp_total}
use Rattle.addr_base.specs.declared.files.MemFile.{MemFile}
use Rattle.addr_project.specs.Kept.{IsKept}
use Rattle.addr_project.specs.Model.{Project}
use Rattle.addr_project.specs.Reading.{ProjectOf}
use Rattle.addr_release.specs.Held.{IsHeldAs}
use Rattle.addr_release.specs.Images.{NamesApart}
use Rattle.addr_resolve.proofs.ResolveLemmas.{zip-length}
use Rattle.addr_update.specs.After.{update_puts}
use Rattle.addr_update.specs.Laws.{LeavesShown}
use Rattle.addr_update.specs.Moved.{IsMovedNo, Update}
use Rattle.addr_update.specs.declared.model.Move.{Move}
use Rattle.addr_update.proofs.HistoryLemmas.{held-after}
use Rattle.addr_update.proofs.PutLemmas.{all-after, all-far, intact-after}
use Rattle.addr_update.proofs.ShowsLemmas.{all-shown}
use Rattle.addr_walks.proofs.Lists.{one-list}
use Rattle.addr_moves.specs.Fates.{AreMoves, IsMove}
use Rattle.addr_build.proofs.AfterLemmas.{same-project}
use Rattle.addr_build.specs.After.{ResolvesTo}
use Rattle.addr_build.specs.declared.release.Summary.{Summary}
use Rattle.addr_check.specs.Checking.{Checks}
use Rattle.addr_patch.specs.After.{CountsMoves, HoldsStill, IsSoundFor, IsStep, NamesDiffer, Shows}
use Rattle.addr_patch.specs.Outcomes.{IsPatched}
use Rattle.addr_patch.proofs.ComparedLemmas.{one-compared, one-held}

module _ (folder : List ℕ) (old new : List MemFile) (summary : Summary) (done : IsPatched folder old new summary) where
  -- ---- the state

  pub patched-held : HoldsStill folder old new
  patched-held =
      let far = all-far done.u old folder done.compared.catalogue.state done.release done.of in
      let after = all-after done.u old folder done.compared.catalogue.state done.release done.of new done.after in
      let k = length (update_puts folder done.release) in (
        done.u,
        done.compared,
        done.of.is.alike.0,
        held-after done.u old folder done.compared.catalogue done.compared.held done.release done.of new k far after,
        intact-after done.u old folder done.compared.catalogue.state done.release done.of new k far after,
      )

  -- ---- as many moves as are told

  pub patched-moves : CountsMoves folder summary old
  patched-moves moves (other, compared, are) =
      let same : other ≡ done.u = one-compared old folder other done.u compared done.compared in
      let (xs, list, zip) = subst (λ (u : Update). AreMoves u moves) same are in
      let numbers : xs ≡ done.of.moved = one-list nat_cmp_total (IsMovedNo done.u) xs done.of.moved list done.of.split.moves in
      done.sums.moved ∙ (ap length (sym numbers) ∙ zip-length (IsMove done.u) xs moves zip)

  -- ---- what it shows

  module _ (kept : IsKept done.u.project) where
    apart : NamesDiffer old folder → NamesApart done.of.plan
    apart differ = differ done.u done.compared done.of.plan (done.of.kept, done.of.moved, done.of.split, done.of.updated)

    leaves : NamesDiffer old folder → LeavesShown done.u old new folder
    leaves differ = all-shown done.u kept old folder done.compared.catalogue.state done.release done.of new done.after (apart differ)

    own : (p : Project) → ProjectOf old folder p → done.u.project ≡ p
    own p read = same-project old folder done.u.project p done.compared.project read

    pub patched-shows : Shows folder old new
    patched-shows p read differ = subst (λ q. ResolvesTo q folder new) (own p read) (leaves differ).shows

    pub patched-sound : IsSoundFor folder old new
    patched-sound differ = (leaves differ).sound

    pub patched-step : IsStep folder old new
    patched-step differ p read c s held q =
        let state : done.u.state ≡ s = (one-held old folder done.compared.catalogue c done.u.state s done.compared.held held).1 in
        record {
          read = read;
          keeps = subst IsKept (own p read) kept;
          present = done.compared.catalogue;
          held = subst (IsHeldAs old folder done.compared.catalogue) state done.compared.held;
          u = done.u;
          of_project = own p read;
          of_state = state;
          of_rows = done.compared.rows;
          release = done.release;
          of = done.of;
          after = done.after;
          apart = apart differ;
          state = refl;
        }

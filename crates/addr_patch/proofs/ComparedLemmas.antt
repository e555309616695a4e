-- What an update of a folder compares is one, and is what was read.
use Rattle.std.proofs.Common.{◌≡◌, ℕ, List, Option, Some, Ok, refl, sym, ap, ap₂, subst, ◌∙◌}
use Rattle.std.specs.List.{AllZip}
use Rattle.addr_base.specs.Files.{file_at}
use Rattle.addr_base.specs.declared.files.MemFile.{MemFile}
use Rattle.addr_base.specs.declared.ids.Digest.{Digest}
use Rattle.addr_cab.specs.Objects.{HoldsCab}
use Rattle.addr_cab.specs.declared.object.ObjectOut.{ObjectOut}
use Rattle.addr_catalog.specs.Catalogue.{catalogue_read}
use Rattle.addr_catalog.specs.declared.catalogue.Catalogue.{Catalogue}
use Rattle.addr_held.proofs.FaultLemmas.{same-ok}
use Rattle.addr_held.proofs.OneLemmas.{zip-one}
use Rattle.addr_layout.proofs.RankLemmas.{same-some}
use Rattle.addr_layout.specs.Laws.{AtMostOne}
use Rattle.addr_locate.specs.Rows.{Rows}
use Rattle.addr_pack.proofs.UniqueLemmas.{one_placement}
use Rattle.addr_pack.specs.LongNames.{NamesFit}
use Rattle.addr_pack.specs.Placement.{IsPlaced}
use Rattle.addr_pack.specs.declared.bundles.Plan.{Plan}
use Rattle.addr_project.specs.Model.{Project}
use Rattle.addr_release.proofs.BuiltLemmas.{holds-one}
use Rattle.addr_release.specs.Held.{IsHeldAs}
use Rattle.addr_release.specs.Names.{state_path}
use Rattle.addr_release.specs.Opened.{Opened}
use Rattle.addr_state.specs.Reading.{state_read}
use Rattle.addr_state.specs.declared.model.State.{State}
use Rattle.addr_state.specs.declared.model.StateBundle.{StateBundle}
use Rattle.addr_update.specs.Intact.{AreIntact, IsIntact}
use Rattle.addr_update.specs.Moved.{Update}
use Rattle.addr_build.proofs.AfterLemmas.{same-project}
use Rattle.addr_check.specs.Checking.{IsCompared}
use Rattle.addr_check.specs.Comparing.{IsComparedAs, update_of}
use Rattle.addr_check.specs.declared.checking.Compared.{Compared}

same-parts : (u v : Update) → u.state ≡ v.state → u.was ≡ v.was → u.rows ≡ v.rows → u.project ≡ v.project → u.now ≡ v.now → u ≡ v
same-parts u v state was rows project now = λ i. record { state = state i; was = was i; rows = rows i; project = project i; now = now i }

module _ (files : List MemFile) (folder : List ℕ) where
  -- an intact bundle is opened as one
  one-opened : (old : StateBundle) → AtMostOne (IsIntact files folder old)
  one-opened old x y first second =
      let file : first.file ≡ second.file = same-some first.file second.file (sym first.there ∙ second.there) in
      let just = holds-one second.file second.cab y.objects second.bytes second.short second.holds in
      let objects : y.objects ≡ x.objects = just.one first.cab x.objects (subst (λ f. HoldsCab f first.cab x.objects) file first.holds) in
      ap₂ (λ (n : List ℕ) (os : List ObjectOut). let o : Opened = record { name = n; objects = os } in o) (first.name ∙ sym second.name) (sym objects)

  -- one state is held
  pub one-held : (c d : Catalogue) (s t : State) → IsHeldAs files folder c s → IsHeldAs files folder d t → (c ≡ d) × (s ≡ t)
  one-held c d s t first second =
      let bytes : first.bytes ≡ second.bytes = same-some first.bytes second.bytes (sym first.there ∙ second.there) in
      let catalogue : c ≡ d = same-ok c d first.read (ap catalogue_read bytes ∙ second.read) in
      let kept : first.kept ≡ second.kept = same-some first.kept second.kept (sym first.kept_there ∙ (ap (λ (e : Catalogue). file_at (state_path folder e.state) files) catalogue ∙ second.kept_there)) in
      (catalogue, same-ok s t first.kept_read (ap state_read kept ∙ second.kept_read))

  pub one-compared : (u v : Update) → IsCompared files folder u → IsCompared files folder v → u ≡ v
  one-compared u v first second =
      let held = one-held first.catalogue second.catalogue u.state v.state first.held second.held in
      let project : u.project ≡ v.project = same-project files folder u.project v.project first.project second.project in
      same-parts u v held.1
      (zip-one (IsIntact files folder) one-opened v.state.bundles u.was v.was (subst (λ (s : State). AreIntact s files folder u.was) held.1 first.intact) second.intact)
      (first.rows ∙ (ap (λ (c : Catalogue). c.locator) held.0 ∙ sym second.rows)) project
      (one_placement v.project u.now v.now (subst (λ (p : Project). IsPlaced p u.now) project first.placed) second.placed)

-- what was read of a folder is what an update of it compares
abbrev pub compared-as : (files : List MemFile) (folder : List ℕ) (c : Compared) → IsPlaced c.project c.now → NamesFit c.project → IsComparedAs files folder c → IsCompared files folder (update_of c)
compared-as files folder c placed names is = record { project = is.project; fits = names; placed = placed; catalogue = c.release.catalogue; rows = refl; held = is.held.held; intact = is.held.intact }

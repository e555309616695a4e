-- In the catalogue after an update the first dependency of a kept entry's row is its old bundle, with what the state says of it;
-- that of a moved entry's row is the bundle of moved entries.
use Rattle.std.proofs.Common.{◌≡◌, ℕ, inl, inr, length, List, Option, Some, Ok, refl, sym, ap, subst, ◌∙◌}
use Rattle.std.specs.List.{Contains, slice_get}
use Rattle.addr_base.specs.Files.{file_at}
use Rattle.addr_base.specs.Ids.{digest_of, hex_of}
use Rattle.addr_base.specs.declared.files.MemFile.{MemFile}
use Rattle.addr_base.specs.declared.ids.BundleNo.{BundleNo}
use Rattle.addr_base.specs.declared.ids.Digest.{Digest}
use Rattle.addr_catalog.specs.Catalogue.{catalogue_read}
use Rattle.addr_catalog.specs.declared.catalogue.Catalogue.{Catalogue}
use Rattle.addr_layout.proofs.PlacedLemmas.{one-entry}
use Rattle.addr_layout.proofs.RankLemmas.{same-some}
use Rattle.addr_locate.specs.Alike.{Alike, AreAlikeRows}
use Rattle.addr_locate.specs.Rows.{rows_of}
use Rattle.addr_locate.specs.declared.rows.AssetRow.{AssetRow}
use Rattle.addr_locate.specs.declared.rows.BundleRow.{BundleRow}
use Rattle.addr_pack.specs.declared.bundles.PlanBundle.{PlanBundle}
use Rattle.addr_project.specs.declared.model.Entry.{Entry}
use Rattle.addr_project.specs.Kept.{IsKept as IsKeptProject}
use Rattle.addr_project.proofs.OnceLemmas.{to_map}
use Rattle.addr_release.specs.Built.{ReleaseBundle}
use Rattle.addr_release.specs.Names.{catalogue_path}
use Rattle.addr_release.specs.Puts.{IsAfter}
use Rattle.addr_release.specs.within.Standing.{IsNumberedRow}
use Rattle.addr_release.proofs.ImageLemmas.{beside}
use Rattle.addr_release.proofs.OpenedLemmas.{same-ok}
use Rattle.addr_release.proofs.ReleaseLemmas.{first-dep}
use Rattle.addr_state.specs.declared.model.StateBundle.{StateBundle}
use Rattle.addr_walks.proofs.Lists.{Contains-slice_get, slice_get-Contains}
use Rattle.addr_walks.proofs.Zips.{zip-right}
use Rattle.addr_update.specs.After.{IsBundleAfter, IsOldAt, IsRowOfOld, NeedsAfter, UpdatedRelease, update_puts}
use Rattle.addr_update.specs.Laws.{IsUpdateOf}
use Rattle.addr_update.specs.Moved.{Update, IsKept, IsKeptNo, IsMoved, IsMovedNo, moved_name}
use Rattle.addr_update.specs.Placement.{IsUpdateBundle}
use Rattle.addr_update.specs.Rows.{IsKeptRow, IsMovedRow}
use Rattle.addr_update.proofs.PutLemmas.{all-after, all-far, catalogue, catalogue-there, stands, state-once}
use Rattle.addr_update.proofs.SharedLemmas.{unfixed-entry}
use Rattle.addr_update.proofs.SplitLemmas.{kept-not-moved, one-first, same-in}
use Rattle.addr_update.proofs.UpdatedLemmas.{new-not-old, same-old}

module _ (u : Update) (project : IsKeptProject u.project) (old new : List MemFile) (folder : List ℕ) (named : Option Digest) (r : UpdatedRelease) (of : IsUpdateOf u old folder named r) (after : IsAfter (update_puts folder r) old new)
    (bytes : List ℕ) (c : Catalogue) (there : file_at (catalogue_path folder) new ≡ Some bytes) (read : catalogue_read bytes ≡ Ok c) where
  abbrev wrote : Catalogue
  wrote = catalogue u old folder named r of

  -- what is read is alike what was written
  alike : Alike wrote.locator c.locator
  alike =
      let same : r.catalogue ≡ bytes = same-some r.catalogue bytes (sym (catalogue-there u old folder named r of new (length (update_puts folder r)) (all-far u old folder named r of) (all-after u old folder named r of new after)) ∙ there) in
      let read-as : of.is.alike.0 ≡ c = same-ok of.is.alike.0 c (sym of.is.alike.1 ∙ (ap catalogue_read same ∙ read)) in
      subst (λ (d : Catalogue). Alike wrote.locator d.locator) read-as of.is.alike.2

  row-at : (b : ℕ) (made : ReleaseBundle) → slice_get r.bundles b ≡ Some made → slice_get c.locator.bundles b ≡ Some made.row
  unfolding rows_of
  row-at b made at = ap (λ (rows : List BundleRow). slice_get rows b) (sym alike.0) ∙ to_map (λ (m : ReleaseBundle). m.row) r.bundles b made at

  abbrev IsReadRow : Entry → AssetRow → Type 0
  IsReadRow e a = (w : AssetRow) × IsNumberedRow u.project of.plan (NeedsAfter u of.plan) wrote.locator e w × AreAlikeRows wrote.locator c.locator w a

  entry-at : (x : ℕ) (a : AssetRow) → slice_get c.locator.assets x ≡ Some a → (e : Entry) × (slice_get u.project.entries x ≡ Some e) × IsReadRow e a
  entry-at x a at =
      let w = zip-right (AreAlikeRows wrote.locator c.locator) wrote.locator.assets c.locator.assets alike.1 x a at in
      let e = zip-right (IsNumberedRow u.project of.plan (NeedsAfter u of.plan) wrote.locator) u.project.entries wrote.locator.assets (stands u old folder named r of new (length (update_puts folder r)) (all-far u old folder named r of) (all-after u old folder named r of new after)).entries x w.0 w.1 in
      (e.0, e.1, (w.0, e.2, w.2))

  -- the bundle of an entry's row has the entry's number
  first-bundle : (x : ℕ) (e : Entry) (a : AssetRow) → slice_get u.project.entries x ≡ Some e → IsReadRow e a
      → (first : BundleNo) × (bundle : PlanBundle) × (slice_get a.deps 0 ≡ Some first) × (slice_get of.plan.bundles first.0 ≡ Some bundle) × Contains bundle.entries x
  first-bundle x e a at (w, row, same) =
      let dep = first-dep w.deps row.bundle row.deps.0 row.deps.1 in
      let number : row.has.0 ≡ x = one-entry u.project project row.has.0 x row.asset.guid row.has.2 (e, at, (row.asset, row.at, refl)) in
      (dep.0, row.has.1.0, ap (λ (ds : List BundleNo). slice_get ds 0) (sym same.deps) ∙ dep.1, ap (slice_get of.plan.bundles) dep.2 ∙ row.has.1.1, subst (Contains row.has.1.0.entries) number row.has.1.2)

  made-at : (b : ℕ) (bundle : PlanBundle) → slice_get of.plan.bundles b ≡ Some bundle → (made : ReleaseBundle) × (slice_get r.bundles b ≡ Some made)
  made-at b bundle at = beside of.plan.bundles r.bundles b bundle of.is.rows.as_many at

  kept-at : (b m x : ℕ) (bundle : PlanBundle) → slice_get of.plan.bundles b ≡ Some bundle → Contains bundle.entries x → IsKeptNo u m x → IsOldAt u of.plan b m
  kept-at b m x bundle at here (a, g, is-in, fixed, kept) = by_kind (of.updated.within bundle (Contains-slice_get of.plan.bundles b bundle at))
    where
      by_kind : IsUpdateBundle u.project u.now of.kept of.moved bundle → IsOldAt u of.plan b m
      by_kind (inl (in', free)) =
          let there = slice_get-Contains u.now.bundles bundle in' in
          absurd (unfixed-entry u.project u.now of.placed there.0 bundle x there.1 free here (a, g, is-in, fixed))
      by_kind (inr (inl (some, is))) =
          let no = of.split.moves.within x (subst (λ (y : PlanBundle). Contains y.entries x) is here) in
          absurd (kept-not-moved u a m kept (subst (IsMoved u) (same-in u.project x no.0 a no.1 g no.2 is-in) no.4))
      by_kind (inr (inr (k, in', is))) =
          let s = of.split.bundles k in' in
          let no = s.2.entries.within x (subst (λ (y : PlanBundle). Contains y.entries x) is here) in
          let same : s.0 ≡ m = one-first u a s.0 m (subst (λ d. IsKept u d s.0) (same-in u.project x no.0 a no.1 g no.2 is-in) no.4).old kept.old in
          subst (IsOldAt u of.plan b) same (record { bundle = bundle; at = at; kept = ap (λ (y : PlanBundle). y.kept) is; old = s.1; stays = s.2.stays; name = ap (λ (y : PlanBundle). y.name) is ∙ s.2.name })

  pub kept-row : (x m : ℕ) (a : AssetRow) → slice_get c.locator.assets x ≡ Some a → IsKeptNo u m x → IsKeptRow u.state c.locator m a
  kept-row x m a here kept =
      let e = entry-at x a here in
      let first = first-bundle x e.0 a e.1 e.2 in
      let is = kept-at first.0.0 m x first.1 first.3 first.4 kept in
      let made = made-at first.0.0 first.1 first.3 in
      (is.old, is.stays.0, made.0.row, record { first = first.0; dep = first.2; at = row-at first.0.0 made.0 made.1 }, told first.0.0 made.0 is (of.is.rows.each first.0.0 made.0 made.1))
    where
      told : (b : ℕ) (made : ReleaseBundle) (is : IsOldAt u of.plan b m) → IsBundleAfter u of.plan old folder b made → IsRowOfOld is.old made.row
      told b made is (inl fresh) = absurd (new-not-old u of.plan b m (fresh.bundle, fresh.at, fresh.new) is)
      told b made is (inr also) =
          let number : also.number ≡ m = same-old u of.plan b also.number m (state-once u old folder named r of) also.is is in
          let both : also.is.old ≡ is.old = same-some also.is.old is.old (sym also.is.stays.0 ∙ (ap (slice_get u.state.bundles) number ∙ is.stays.0)) in
          subst (λ (s : StateBundle). IsRowOfOld s made.row) both also.told

  row-name : (b : ℕ) (made : ReleaseBundle) (bundle : PlanBundle) → slice_get of.plan.bundles b ≡ Some bundle → IsBundleAfter u of.plan old folder b made → made.row.name ≡ hex_of (digest_of bundle.name)
  row-name b made bundle at (inl fresh) = fresh.told.name ∙ ap (λ (y : PlanBundle). hex_of (digest_of y.name)) (same-some fresh.bundle bundle (sym fresh.at ∙ at))
  row-name b made bundle at (inr kept) = kept.told.name ∙ (ap (λ t. hex_of (digest_of t)) (sym kept.is.name) ∙ ap (λ (y : PlanBundle). hex_of (digest_of y.name)) (same-some kept.is.bundle bundle (sym kept.is.at ∙ at)))

  pub moved-row : (x : ℕ) (a : AssetRow) → slice_get c.locator.assets x ≡ Some a → IsMovedNo u x → IsMovedRow c.locator a
  moved-row x a here moved =
      let e = entry-at x a here in
      let first = first-bundle x e.0 a e.1 e.2 in
      let made = made-at first.0.0 first.1 first.3 in (
        made.0.row,
        record { first = first.0; dep = first.2; at = row-at first.0.0 made.0 made.1 },
        row-name first.0.0 made.0 first.1 first.3 (of.is.rows.each first.0.0 made.0 made.1)
            ∙ ap (λ t. hex_of (digest_of t)) (by_kind first.0.0 first.1 first.3 first.4 (of.updated.within first.1 (Contains-slice_get of.plan.bundles first.0.0 first.1 first.3))),
      )
    where
      by_kind : (b : ℕ) (bundle : PlanBundle) → slice_get of.plan.bundles b ≡ Some bundle → Contains bundle.entries x → IsUpdateBundle u.project u.now of.kept of.moved bundle → bundle.name ≡ moved_name
      by_kind b bundle found within (inl (in', free)) =
          let there = slice_get-Contains u.now.bundles bundle in' in
          absurd (unfixed-entry u.project u.now of.placed there.0 bundle x there.1 free within (moved.0, moved.1, moved.2, moved.3))
      by_kind b bundle found within (inr (inl (some, is))) = ap (λ (y : PlanBundle). y.name) is
      by_kind b bundle found within (inr (inr (k, in', is))) =
          let s = of.split.bundles k in' in
          let no = s.2.entries.within x (subst (λ (y : PlanBundle). Contains y.entries x) is within) in
          absurd (kept-not-moved u no.0 s.0 no.4 (subst (IsMoved u) (same-in u.project x moved.0 no.0 moved.1 no.1 moved.2 no.2) moved.4))

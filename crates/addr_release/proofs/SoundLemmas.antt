-- The release of a project is sound.
use Rattle.std.proofs.Common.{◌≡◌, ℕ, ◌⊎◌, inl, inr, List, map, ap₂, subst, ◌∙◌, sym}
use Rattle.std.proofs.lemmas.Bool.{cases_eq}
use Rattle.std.specs.List.{Contains}
use Rattle.addr_base.specs.Ids.{digest_of}
use Rattle.addr_base.specs.declared.files.MemFile.{MemFile}
use Rattle.addr_base.specs.declared.ids.BundleNo.{BundleNo}
use Rattle.addr_catalog.specs.declared.catalogue.Catalogue.{Catalogue}
use Rattle.addr_cab.specs.declared.object.ObjectOut.{ObjectOut}
use Rattle.addr_layout.specs.Agreement.{Place, place}
use Rattle.addr_layout.proofs.AgreementLemmas.{in-deps}
use Rattle.addr_locate.specs.declared.rows.AssetRow.{AssetRow}
use Rattle.addr_locate.specs.declared.rows.BundleRow.{BundleRow}
use Rattle.addr_pack.specs.declared.bundles.Plan.{Plan}
use Rattle.addr_project.specs.declared.model.Entry.{Entry}
use Rattle.addr_pack.proofs.DigestLemmas.{digests-fit}
use Rattle.addr_project.proofs.OnceLemmas.{from_map}
use Rattle.addr_project.specs.Kept.{IsKept}
use Rattle.addr_project.specs.Model.{Project}
use Rattle.addr_walks.specs.Once.{AreOnce}
use Rattle.addr_walks.specs.Walks.{Leads}
use Rattle.addr_walks.specs.Walks.Leads.{stays, goes}
use Rattle.addr_walks.proofs.Lists.{slice_get-Contains}
use Rattle.addr_walks.proofs.Walking.{kept-along}
use Rattle.addr_walks.proofs.Zips.{zip-there}
use Rattle.addr_release.specs.within.Standing.{StandsAs}
use Rattle.addr_release.specs.Images.{NamesApart}
use Rattle.addr_release.specs.Opened.{Opened, Jumps}
use Rattle.addr_release.specs.Resolve.{IsRelease}
use Rattle.addr_release.specs.Sound.{BeginsAt, HasFile, HasSoundRelease, IsSoundRelease, Visits}
use Rattle.addr_release.proofs.FaithfulLemmas.{Carries, has-assets, good-along, places-agree}
use Rattle.addr_release.proofs.ImageLemmas.{AreOpened}
use Rattle.addr_release.proofs.OpenedLemmas.{hex-same, read-alike, are-opened, some-release}
use Rattle.addr_release.proofs.ReleaseLemmas.{IsReadRow, read-rows, row-start}

module _ (p : Project) (plan : Plan) (has : ℕ → List ObjectOut → Type 0) (needs : ℕ → ℕ → Type 0)
    (good : List Opened → Place → Type 0) (carries : (opened : List Opened) → AreOpened plan has opened → Carries p plan needs opened (good opened))
    (files : List MemFile) (folder : List ℕ) (c : Catalogue) (kept : IsKept p) (apart : NamesApart plan) (stands : StandsAs p plan has needs files folder c) where
  module _ (d : Catalogue) (opened : List Opened) (release : IsRelease files folder d opened) where
    all : Carries p plan needs opened (good opened)
    all = carries opened (are-opened p plan has needs files folder c stands d opened release)

    same-bundles : c.locator.bundles ≡ d.locator.bundles
    same-bundles = (read-alike p plan has needs files folder c stands d opened release).0.0

    -- a walk through files visits good places, in bundles to which a walk of needs leads
    walk-needs : (q s : Place) → good opened q → Leads (Jumps opened) q s → good opened s × Leads needs q.bundle s.bundle
    walk-needs q s is walk = kept-along (Jumps opened) (λ x. good opened x × Leads needs q.bundle x.bundle) on q s (is, stays) walk
      where
        on : (x y : Place) → good opened x × Leads needs q.bundle x.bundle → Jumps opened x y → good opened y × Leads needs q.bundle y.bundle
        on x y (here, sofar) jump = (all.faithful.kept x y here jump, by_bundle (cases_eq x.bundle y.bundle))
          where
            by_bundle : (x.bundle ≡ y.bundle) ⊎ (x.bundle ≡ y.bundle → ⊥) → Leads needs q.bundle y.bundle
            by_bundle (inl same) = subst (Leads needs q.bundle) same sofar
            by_bundle (inr other) = goes sofar (all.needed x y here jump other)

    stored-row : (row : BundleRow) → Contains c.locator.bundles row → HasFile files folder row
    stored-row row here =
        let at = slice_get-Contains c.locator.bundles row here in
        let stored = stands.stored at.0 row at.1 in
        (stored.file, stored.there, sym stored.size, sym stored.digest)

    apart-rows : AreOnce (map (λ (b : BundleRow). b.name) c.locator.bundles)
    apart-rows i j x here there =
        let first = from_map (λ (b : BundleRow). b.name) c.locator.bundles i x here in
        let second = from_map (λ (b : BundleRow). b.name) c.locator.bundles j x there in
        let one = stands.stored i first.0 first.1 in
        let two = stands.stored j second.0 second.1 in
        apart i j one.bundle two.bundle one.at two.at
        (hex-same (digest_of one.bundle.name) (digest_of two.bundle.name) (digests-fit one.bundle.name) (digests-fit two.bundle.name) (sym one.name ∙ (first.2 ∙ (sym second.2 ∙ two.name))))

    -- a row that is read, and where its walk begins
    begun : (a : AssetRow) (start : Place) → Contains d.locator.assets a → BeginsAt a start
        → (e : Entry) × ((read : IsReadRow p plan has needs good carries files folder c kept stands d opened release e a) × (start ≡ place read.1.bundle read.1.asset.guid))
    begun a start here (first, g, at, sixteen, id, is) =
        let entry = zip-there (IsReadRow p plan has needs good carries files folder c kept stands d opened release) p.entries d.locator.assets a (read-rows p plan has needs good carries files folder c kept stands d opened release) here in
        let begins = row-start p plan has needs good carries files folder c kept stands d opened release entry.0 a entry.2 first g at sixteen id in
        (entry.0, (entry.2, is ∙ ap₂ place begins.0 begins.1))

    -- each place of a row's walk is good
    visited : (a : AssetRow) (q : Place) → Contains d.locator.assets a → Visits opened a q → good opened q
    visited a q here (start, begins, walk) =
        let from = begun a start here begins in
        let row = from.1.0.1 in
        let first = place row.bundle row.asset.guid in
        good-along p opened (good opened) (has-assets p kept) all.faithful first q (all.entries row.bundle row.asset.guid row.has) (subst (λ (w : Place). Leads (Jumps opened) w q) from.1.1 walk)

    pub is-sound : IsSoundRelease files folder d opened
    is-sound = record {
      stored = subst (λ (rows : List BundleRow). (row : BundleRow) → Contains rows row → HasFile files folder row) same-bundles stored-row;
      names = subst (λ (rows : List BundleRow). AreOnce (map (λ (b : BundleRow). b.name) rows)) same-bundles apart-rows;
      deps = λ a q here (start, begins, walk).
          let from = begun a start here begins in
          let row = from.1.0.1 in
          let alike = from.1.0.2 in
          let first = place row.bundle row.asset.guid in
          let way = (walk-needs first q (all.entries row.bundle row.asset.guid row.has) (subst (λ (s : Place). Leads (Jumps opened) s q) from.1.1 walk)).1 in
          subst (λ (ds : List BundleNo). Contains (map (λ (n : BundleNo). n.0) ds) q.bundle) alike.deps
          (in-deps needs row.bundle q.bundle (map (λ (n : BundleNo). n.0) from.1.0.0.deps) row.deps way);
      same = λ a q s x y here one two guid holds also. places-agree p opened (good opened) (has-assets p kept) all.faithful q s x y (visited a q here one) (visited a s here two) guid holds also;
    }

  pub sound-release : HasSoundRelease files folder
  sound-release = let some = some-release p plan has needs files folder c stands in (some.0, some.1.0, some.1.1, is-sound some.0 some.1.0 some.1.1)

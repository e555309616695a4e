-- The release of a project resolves each key to what the project shows under it.
use Rattle.std.proofs.Common.{◌≡◌, ◌↔◌, ℕ, List, [], ◌∷◌, map, Some, refl, ap, ap₂, subst, ◌∙◌, sym}
use Rattle.std.proofs.lemmas.List.Elements.{All-contains, All-from_recursion}
use Rattle.std.specs.List.{AllZip, filter, slice_get}
use Rattle.addr_base.specs.Ids.{Are16Bytes, hex_of}
use Rattle.addr_base.specs.declared.files.MemFile.{MemFile}
use Rattle.addr_base.specs.declared.ids.BundleNo.{BundleNo}
use Rattle.addr_base.specs.declared.ids.Guid.{Guid}
use Rattle.addr_catalog.specs.declared.catalogue.Catalogue.{Catalogue}
use Rattle.addr_layout.specs.Agreement.{Place, place}
use Rattle.addr_layout.specs.Members.{HasEntry}
use Rattle.addr_layout.proofs.GuidLemmas.{same-guid}
use Rattle.addr_layout.proofs.RankLemmas.{same-some}
use Rattle.addr_locate.specs.Alike.{AreAlikeRows}
use Rattle.addr_locate.specs.Rows.{has_key_text, written}
use Rattle.addr_locate.specs.declared.rows.AssetRow.{AssetRow}
use Rattle.addr_pack.specs.declared.bundles.Plan.{Plan}
use Rattle.addr_project.specs.declared.model.Asset.{Asset}
use Rattle.addr_project.specs.declared.model.Entry.{Entry}
use Rattle.addr_project.specs.Kept.{IsKept}
use Rattle.addr_project.specs.Model.{Project}
use Rattle.addr_project.specs.Reach.{Item, Reach, Row, Shown, ShowsEntry, has_key, is_under}
use Rattle.addr_project_rows.specs.Firsts.{is_among}
use Rattle.addr_walks.proofs.Lists.{Contains-slice_get}
use Rattle.addr_cab.specs.declared.object.ObjectOut.{ObjectOut}
use Rattle.addr_release.specs.within.Standing.{IsNumberedRow, StandsAs}
use Rattle.addr_release.specs.Opened.{Opened, IsUnfolding}
use Rattle.addr_release.specs.Resolve.{IsRelease, Resolve, ResolvesKey, ResolvesRow}
use Rattle.addr_release.proofs.FaithfulLemmas.{Carries, has-assets, faithful-shows}
use Rattle.addr_release.proofs.ImageLemmas.{AreOpened}
use Rattle.addr_release.proofs.KeyLemmas.{Through, zip-filter, zip-along, zip-turn, zip-through, row-has, same-any}
use Rattle.addr_release.proofs.OpenedLemmas.{hex-same, read-alike, are-opened, some-release}

pub first-dep : (deps : List BundleNo) (b : ℕ) (rest : List ℕ) → map (λ d. d.0) deps ≡ b ∷ rest → (first : BundleNo) × (slice_get deps 0 ≡ Some first) × (first.0 ≡ b)
first-dep [] b rest e = absurd (cc e)
first-dep (x ∷ xs) b rest e = (x, refl, cc)

pub asset-sixteen : (p : Project) → IsKept p → (n : ℕ) (asset : Asset) → slice_get p.assets n ≡ Some asset → Are16Bytes asset.guid.0
asset-sixteen p kept n asset at = All-contains (λ a. Are16Bytes a.guid.0) p.assets asset (All-from_recursion (λ a. Are16Bytes a.guid.0) p.assets kept.guids) (Contains-slice_get p.assets n asset at)

module _ (p : Project) (plan : Plan) (has : ℕ → List ObjectOut → Type 0) (needs : ℕ → ℕ → Type 0)
    (good : List Opened → Place → Type 0) (carries : (opened : List Opened) → AreOpened plan has opened → Carries p plan needs opened (good opened))
    (files : List MemFile) (folder : List ℕ) (c : Catalogue) (kept : IsKept p) (stands : StandsAs p plan has needs files folder c) where
  module _ (d : Catalogue) (opened : List Opened) (release : IsRelease files folder d opened) where
    -- from each entry's place the files show what the project shows
    pub entry-shows : (b : ℕ) (a : Guid) → HasEntry p plan b a → (items : List Item) → IsUnfolding opened (place b a) items ↔ Reach p a items
    entry-shows b a has-entry items =
        let all = carries opened (are-opened p plan has needs files folder c stands d opened release) in
        faithful-shows p opened (good opened) (has-assets p kept) all.faithful b a (all.entries b a has-entry) items

    -- an entry and its row as it is read
    abbrev pub IsReadRow : Entry → AssetRow → Type 0
    IsReadRow e a = Through (IsNumberedRow p plan needs c.locator) (AreAlikeRows c.locator d.locator) e a

    pub read-rows : AllZip IsReadRow p.entries d.locator.assets
    read-rows = zip-through (IsNumberedRow p plan needs c.locator) (AreAlikeRows c.locator d.locator) p.entries c.locator.assets d.locator.assets stands.entries (read-alike p plan has needs files folder c stands d opened release).0.1

    -- where a row's walk begins
    pub row-start : (e : Entry) (a : AssetRow) (read : IsReadRow e a) (first : BundleNo) (g : Guid) → slice_get a.deps 0 ≡ Some first → Are16Bytes g.0 → a.id ≡ hex_of g.0 → (first.0 ≡ read.1.bundle) × (g ≡ read.1.asset.guid)
    row-start e a (old, row, alike) first g at sixteen id =
        let dep = first-dep old.deps row.bundle row.deps.0 row.deps.1 in
        let same : first ≡ dep.0 = same-some first dep.0 (sym at ∙ (ap (λ (ds : List BundleNo). slice_get ds 0) (sym alike.deps) ∙ dep.1)) in (
          ap (λ (n : BundleNo). n.0) same ∙ dep.2,
          same-guid g row.asset.guid (hex-same g.0 row.asset.guid.0 sixteen (asset-sixteen p kept e.asset row.asset row.at) (sym id ∙ (sym alike.id ∙ row.id))),
        )

    same-keys : (key : List ℕ) (e : Entry) (a : AssetRow) → IsReadRow e a → is_under p key e ≡ has_key_text d.locator key a
    same-keys key e a (old, row, alike) =
        ap (has_key key e) row.at
        ∙ (ap (λ ts. is_among ts key) (sym row.keys)
        ∙ (same-any key (written c.locator old).keys (written d.locator a).keys (alike.keys key)
        ∙ sym (row-has d.locator key a)))

    row-shows : (a : AssetRow) (e : Entry) (row : Row) → IsReadRow e a → ResolvesRow d.locator opened a row → ShowsEntry p e row
    row-shows a e shown read (first, at, sixteen, id, kind, unfolds) =
        let entry = read.1 in
        let alike = read.2 in
        let start = row-start e a read first shown.guid at sixteen id in
        let there : IsUnfolding opened (place entry.bundle entry.asset.guid) shown.items = subst (λ (q : Place). IsUnfolding opened q shown.items) (ap₂ place start.0 start.1) unfolds in
        let items = (entry-shows entry.bundle entry.asset.guid entry.has shown.items).0 there in
        (entry.asset, entry.at, start.1, kind ∙ (sym alike.kind ∙ entry.kind), items)

    shows-row : (e : Entry) (a : AssetRow) (row : Row) → IsReadRow e a → ShowsEntry p e row → ResolvesRow d.locator opened a row
    shows-row e a shown (old, entry, alike) (asset, at, guid, kind, reach) =
        let same : asset ≡ entry.asset = same-some asset entry.asset (sym at ∙ entry.at) in
        let own : shown.guid ≡ entry.asset.guid = guid ∙ ap (λ (x : Asset). x.guid) same in
        let dep = first-dep old.deps entry.bundle entry.deps.0 entry.deps.1 in
        let items = (entry-shows entry.bundle entry.asset.guid entry.has shown.items).1 (subst (λ (x : Asset). Reach p x.guid shown.items) same reach) in (
          dep.0,
          ap (λ (ds : List BundleNo). slice_get ds 0) (sym alike.deps) ∙ dep.1,
          subst (λ (g : Guid). Are16Bytes g.0) (sym own) (asset-sixteen p kept e.asset entry.asset entry.at),
          sym alike.id ∙ (entry.id ∙ ap (λ (g : Guid). hex_of g.0) (sym own)),
          kind ∙ (ap (λ (x : Asset). x.kind) same ∙ (sym entry.kind ∙ alike.kind)),
          subst (λ (q : Place). IsUnfolding opened q shown.items) (sym (ap₂ place dep.2 own)) items,
        )

    pub key-shows : (key : List ℕ) (shown : List Row) → ResolvesKey d.locator opened key shown ↔ Shown p key shown
    key-shows key shown = (
      λ resolves. zip-along (λ a e. IsReadRow e a) (ResolvesRow d.locator opened) (ShowsEntry p) row-shows (filter (has_key_text d.locator key) d.locator.assets) (filter (is_under p key) p.entries) shown (zip-turn IsReadRow (filter (is_under p key) p.entries) (filter (has_key_text d.locator key) d.locator.assets) both) resolves,
      λ shows. zip-along IsReadRow (ShowsEntry p) (ResolvesRow d.locator opened) shows-row (filter (is_under p key) p.entries) (filter (has_key_text d.locator key) d.locator.assets) shown both shows,
    )
      where
        both : AllZip IsReadRow (filter (is_under p key) p.entries) (filter (has_key_text d.locator key) d.locator.assets)
        both = zip-filter IsReadRow (is_under p key) (has_key_text d.locator key) (same-keys key) p.entries d.locator.assets read-rows

  pub stands-shows : (key : List ℕ) (shown : List Row) → Resolve files folder key shown ↔ Shown p key shown
  stands-shows key shown = (
    λ (d, opened, release, resolves). (key-shows d opened release key shown).0 resolves,
    λ shows. (let some = some-release p plan has needs files folder c stands in (some.0, some.1.0, some.1.1, (key-shows some.0 some.1.0 some.1.1 key shown).1 shows)),
  )

-- When a release is sound: its files are those that its catalogue says, and one walk's places agree.
use Rattle.std.specs.Prelude.{ℕ, ◌≡◌, length, List, map, Some}
use Rattle.std.specs.List.{Contains, slice_get}
use Rattle.addr_base.specs.Ids.{Are16Bytes, digest_of, hex_of}
use Rattle.addr_base.specs.declared.files.MemFile.{MemFile}
use Rattle.addr_base.specs.declared.ids.BundleNo.{BundleNo}
use Rattle.addr_base.specs.declared.ids.Guid.{Guid}
use Rattle.addr_cab.specs.declared.object.ObjectOut.{ObjectOut}
use Rattle.addr_catalog.specs.declared.catalogue.Catalogue.{Catalogue}
use Rattle.addr_layout.specs.Agreement.{Place, place}
use Rattle.addr_locate.specs.declared.rows.AssetRow.{AssetRow}
use Rattle.addr_locate.specs.declared.rows.BundleRow.{BundleRow}
use Rattle.addr_walks.specs.Once.{AreOnce}
use Rattle.addr_walks.specs.Walks.{Leads}
use Rattle.addr_release.specs.Names.{bundle_file}
use Rattle.addr_release.specs.Opened.{Opened, Holds, Jumps, item_of_object}
use Rattle.addr_release.specs.Resolve.{IsRelease}

-- the bundle's file is there with the size and the digest of the row
abbrev pub HasFile : List MemFile → List ℕ → BundleRow → Type 0
HasFile files folder row = (file : List ℕ) × (bundle_file files folder row.key ≡ Some file) × (length file ≡ row.size) × (digest_of file ≡ row.digest.0)

-- where a row's walk begins
abbrev pub BeginsAt : AssetRow → Place → Type 0
BeginsAt a start = (first : BundleNo) × (g : Guid) × (slice_get a.deps 0 ≡ Some first) × Are16Bytes g.0
    × (a.id ≡ hex_of g.0) × (start ≡ place first.0 g)

-- a walk from a row's GUID in its first dependency leads to a place
abbrev pub Visits : List Opened → AssetRow → Place → Type 0
Visits opened a q = (start : Place) × BeginsAt a start × Leads (Jumps opened) start q

-- each bundle's file is as its row says; no two bundles have one name; a row's dependencies hold each bundle of its walk; and
-- places of its walk with one GUID hold the same
pub record IsSoundRelease (files : List MemFile) (folder : List ℕ) (c : Catalogue) (opened : List Opened) : Type 0 where
  pub stored : (row : BundleRow) → Contains c.locator.bundles row → HasFile files folder row
  pub names : AreOnce (map (λ b. b.name) c.locator.bundles)
  pub deps : (a : AssetRow) (q : Place) → Contains c.locator.assets a → Visits opened a q → Contains (map (λ d. d.0) a.deps) q.bundle
  pub same : (a : AssetRow) (q s : Place) (d e : ObjectOut) → Contains c.locator.assets a → Visits opened a q → Visits opened a s
      → q.guid ≡ s.guid → Holds opened q d → Holds opened s e → item_of_object d ≡ item_of_object e

-- a folder's release is sound
abbrev pub HasSoundRelease : List MemFile → List ℕ → Type 0
HasSoundRelease files folder = (c : Catalogue) × (opened : List Opened) × IsRelease files folder c opened × IsSoundRelease files folder c opened

-- The catalogue of a release's rows.
use Rattle.std.specs.Prelude.{◌≡◌, List, Option, Some, ℕ}
use Rattle.std.specs.List.{AllZip}
use Rattle.addr_base.specs.declared.ids.Digest.{Digest}
use Rattle.addr_catalog.specs.ReadsAlike.{ReadsAlike}
use Rattle.addr_catalog.specs.Written.{catalogue_text}
use Rattle.addr_catalog.specs.declared.catalogue.Catalogue.{Catalogue}
use Rattle.addr_locate.specs.Rows.{rows_of}
use Rattle.addr_locate.specs.declared.rows.BundleRow.{BundleRow}
use Rattle.addr_locate.specs.declared.rows.PlainAsset.{PlainAsset}
use Rattle.addr_pack.specs.declared.bundles.Plan.{Plan}
use Rattle.addr_project.specs.Model.{Project}
use Rattle.addr_release.specs.Built.{IsEntryRow}

-- the rows, and the digest of the state where one is named
abbrev pub catalogue_for : List BundleRow → List PlainAsset → Option Digest → Catalogue
catalogue_for rows assets state = record { locator = rows_of rows assets; state = state }

-- the catalogue of a full build over these bundle rows: the one text of them and of the entries' rows, which is read as alike rows
pub record IsCatalogueOf (p : Project) (plan : Plan) (rows : List BundleRow) (state : Digest) (bytes : List ℕ) : Type 0 where
  pub assets : List PlainAsset
  pub entries : AllZip (IsEntryRow p plan) p.entries assets
  pub text : bytes ≡ catalogue_text (catalogue_for rows assets (Some state))
  pub alike : ReadsAlike bytes (catalogue_for rows assets (Some state))

-- Whatever is read of a release that stands in a folder holds the objects of its placement.
use Rattle.std.proofs.Common.{◌≡◌, ℕ, suc, List, [], ◌∷◌, length, Some, Ok, Result, refl, ap, subst, ◌∙◌, sym}
use Rattle.std.specs.List.{AllZip, slice_get}
use Rattle.addr_base.specs.Ids.{Are16Bytes, digest_of, hex_of}
use Rattle.addr_base.specs.declared.files.MemFile.{MemFile}
use Rattle.addr_base.proofs.HexLemmas.{spelled_decodes, decoded_same}
use Rattle.addr_cab.specs.Objects.{HoldsCab}
use Rattle.addr_cab.specs.declared.object.ObjectOut.{ObjectOut}
use Rattle.addr_catalog.specs.Catalogue.{catalogue_read}
use Rattle.addr_catalog.specs.declared.catalogue.Catalogue.{Catalogue}
use Rattle.addr_layout.proofs.RankLemmas.{same-some}
use Rattle.addr_locate.specs.Alike.{Alike}
use Rattle.addr_locate.specs.declared.rows.BundleRow.{BundleRow}
use Rattle.addr_pack.specs.declared.bundles.Plan.{Plan}
use Rattle.addr_pack.specs.declared.bundles.PlanBundle.{PlanBundle}
use Rattle.addr_pack.proofs.DigestLemmas.{digests-fit}
use Rattle.addr_project.specs.Model.{Project}
use Rattle.addr_walks.proofs.Zips.{zip-right}
use Rattle.addr_release.specs.Images.{NamesApart}
use Rattle.addr_release.specs.Opened.{Opened}
use Rattle.addr_release.specs.Resolve.{IsOpened, IsRelease}
use Rattle.addr_release.specs.within.Standing.{StandsAs}
use Rattle.addr_release.proofs.ImageLemmas.{AreOpened, FilesApart, beside}

pub hex-same : (a b : List ℕ) → Are16Bytes a → Are16Bytes b → hex_of a ≡ hex_of b → a ≡ b
hex-same a b is_a is_b e = decoded_same (hex_of a) a b (spelled_decodes (hex_of a) a is_a refl) is_b e

pub same-ok : {A E : Type 0} (x y : A) → (let r : Result A E = Ok x in r) ≡ Ok y → x ≡ y
same-ok x y e = cc

zip-length : {A B : Type 0} (R : A → B → Type 0) (xs : List A) (ys : List B) → AllZip R xs ys → length ys ≡ length xs
zip-length R [] [] zipped = refl
zip-length R [] (y ∷ ys) zipped = absurd zipped
zip-length R (x ∷ xs) [] zipped = absurd zipped
zip-length R (x ∷ xs) (y ∷ ys) zipped = ap suc (zip-length R xs ys zipped.1)

-- a list of partners, where each element has one
pub zip-from : {A B : Type 0} (R : A → B → Type 0) (xs : List A) → ((k : ℕ) (x : A) → slice_get xs k ≡ Some x → (y : B) × R x y) → (ys : List B) × AllZip R xs ys
zip-from R [] each = ([], tt)
zip-from R (x ∷ xs) each =
    let first = each 0 x refl in
    let rest = zip-from R xs (λ k z at. each (suc k) z at) in
    (first.0 ∷ rest.0, (first.1, rest.1))

module _ (p : Project) (plan : Plan) (has : ℕ → List ObjectOut → Type 0) (needs : ℕ → ℕ → Type 0)
    (files : List MemFile) (folder : List ℕ) (c : Catalogue) (stands : StandsAs p plan has needs files folder c) where
  -- the catalogue that is read is alike the one that was written
  pub read-alike : (d : Catalogue) (opened : List Opened) → IsRelease files folder d opened → Alike c.locator d.locator × (d.state ≡ c.state)
  read-alike d opened release =
      let bytes : stands.bytes ≡ release.bytes = same-some stands.bytes release.bytes (sym stands.there ∙ release.there) in
      let same : stands.alike.0 ≡ d = same-ok stands.alike.0 d (sym stands.alike.1 ∙ (ap catalogue_read bytes ∙ release.read)) in
      subst (λ (e : Catalogue). Alike c.locator e.locator × (e.state ≡ c.state)) same (stands.alike.2, stands.alike.3)

  pub are-opened : (d : Catalogue) (opened : List Opened) → IsRelease files folder d opened → AreOpened plan has opened
  are-opened d opened release = record {
    as_many = zip-length (IsOpened files folder) c.locator.bundles opened bundles ∙ stands.as_many;
    names = λ b bundle file at here.
        let row = zip-right (IsOpened files folder) c.locator.bundles opened bundles b file here in
        let stored = stands.stored b row.0 row.1 in
        let same : stored.bundle ≡ bundle = same-some stored.bundle bundle (sym stored.at ∙ at) in
        row.2.3 ∙ (stored.name ∙ ap (λ (x : PlanBundle). hex_of (digest_of x.name)) same);
    objects = λ b file here.
        let row = zip-right (IsOpened files folder) c.locator.bundles opened bundles b file here in
        let stored = stands.stored b row.0 row.1 in
        let bytes : row.2.0 ≡ stored.file = same-some row.2.0 stored.file (sym row.2.1 ∙ stored.there) in
        subst (has b) (stored.just.one row.2.2.0 file.objects (subst (λ f. HoldsCab f row.2.2.0 file.objects) bytes row.2.2.1)) stored.are;
  }
    where
      bundles : AllZip (IsOpened files folder) c.locator.bundles opened
      bundles = subst (λ (rows : List BundleRow). AllZip (IsOpened files folder) rows opened) (sym (read-alike d opened release).0.0) release.bundles

  -- what is read exists
  pub some-release : (d : Catalogue) × ((opened : List Opened) × IsRelease files folder d opened)
  some-release =
      let d = stands.alike.0 in
      let bundles = subst (λ (rows : List BundleRow). (opened : List Opened) × AllZip (IsOpened files folder) rows opened) stands.alike.2.0 (zip-from (IsOpened files folder) c.locator.bundles one) in
      (d, (bundles.0, record { bytes = stands.bytes; there = stands.there; read = stands.alike.1; bundles = bundles.1 }))
    where
      one : (k : ℕ) (row : BundleRow) → slice_get c.locator.bundles k ≡ Some row → (o : Opened) × IsOpened files folder row o
      one k row at =
          let stored = stands.stored k row at in
          (record { name = row.name; objects = stored.objects }, (stored.file, stored.there, (stored.just.name, stored.just.held), refl))

pub files-apart : (plan : Plan) (has : ℕ → List ObjectOut → Type 0) → NamesApart plan → (opened : List Opened) → AreOpened plan has opened → FilesApart opened
files-apart plan has apart opened are b c f g at there same =
    let x = beside opened plan.bundles b f (sym are.as_many) at in
    let y = beside opened plan.bundles c g (sym are.as_many) there in
    apart b c x.0 y.0 x.1 y.1 (hex-same (digest_of x.0.name) (digest_of y.0.name) (digests-fit x.0.name) (digests-fit y.0.name) (sym (are.names b x.0 f x.1 at) ∙ (same ∙ are.names c y.0 g y.1 there)))

-- Files resolve a key in at most one way: each bundle's file holds one list of objects, and a walk has one list of items.
use Rattle.std.proofs.Common.{ℕ, false, true, ◌≡◌, ◌<◌, ◌^◌, ◌↔◌, ◌∙◌, List, [], ◌∷◌, length, Option, Some, None, refl, ap, ap₂, sym, subst}
use Rattle.std.proofs.lemmas.Cmp.{on_total, nat_list_cmp_total}
use Rattle.std.specs.Cmp.{IsTotalOrder}
use Rattle.std.specs.List.{AllZip, filter}
use Rattle.std.specs.Option.{option_or}
use Rattle.std.specs.Prelude.{Ok}
use Rattle.addr_base.specs.Files.{file_at}
use Rattle.addr_base.specs.Ids.{hex_of}
use Rattle.addr_base.specs.declared.files.MemFile.{MemFile}
use Rattle.addr_base.specs.declared.ids.BundleNo.{BundleNo}
use Rattle.addr_base.specs.declared.ids.Digest.{Digest}
use Rattle.addr_base.specs.declared.ids.Guid.{Guid}
use Rattle.addr_base.proofs.HexLemmas.{decoded_same, spelled_decodes}
use Rattle.addr_cab.specs.Objects.{IsCab}
use Rattle.addr_cab.specs.declared.object.ObjectOut.{ObjectOut}
use Rattle.addr_catalog.specs.Catalogue.{catalogue_read}
use Rattle.addr_catalog.specs.declared.catalogue.Catalogue.{Catalogue}
use Rattle.addr_layout.specs.Agreement.{place}
use Rattle.addr_layout.specs.Laws.{AtMostOne}
use Rattle.addr_layout.proofs.GuidLemmas.{same-guid}
use Rattle.addr_layout.proofs.RankLemmas.{same-some}
use Rattle.addr_locate.specs.Rows.{Rows, has_key_text}
use Rattle.addr_locate.specs.declared.rows.AssetRow.{AssetRow}
use Rattle.addr_locate.specs.declared.rows.BundleRow.{BundleRow}
use Rattle.addr_project.specs.Reach.{Item, Row, item_cmp}
use Rattle.addr_release.specs.Names.{bundle_file, side_path}
use Rattle.addr_release.specs.Opened.{Opened, IsUnfolding, Taken}
use Rattle.addr_release.specs.Resolve.{IsOpened, Resolve, ResolvesKey, ResolvesRow}
use Rattle.addr_unityfs.specs.Faults.{bundle_read}
use Rattle.addr_unityfs.specs.Format.{AreBytes, IsBundle}
use Rattle.addr_unityfs.specs.declared.bundle.Bundle.{Bundle}
use Rattle.addr_walks.proofs.Lists.{one-list}
use Rattle.addr_resolve.specs.Laws.{AreFiles}

-- what bytes say of a bundle, and that a bundle holds one list of objects
abbrev pub Meant : Type 0
Meant = (file : List ℕ) (b : Bundle) → AreBytes file → length file < 2 ^ 63 → IsBundle file b ↔ (bundle_read file ≡ Ok b)

abbrev pub OneCab : Type 0
OneCab = (file : List ℕ) (b : Bundle) (name other : Digest) (objects others : List ObjectOut) → length file < 2 ^ 63 → IsBundle file b
    → IsCab file b name objects → IsCab file b other others → (name ≡ other) × (objects ≡ others)

-- partners that are determined make one list
pub zip-one : {A B : Type 0} (R : A → B → Type 0) → ((x : A) → AtMostOne (R x)) → (xs : List A) → AtMostOne (AllZip R xs)
zip-one R each [] [] [] first second = refl
zip-one R each [] [] (z ∷ zs) first second = absurd second
zip-one R each [] (y ∷ ys) zs first second = absurd first
zip-one R each (x ∷ xs) [] zs first second = absurd first
zip-one R each (x ∷ xs) (y ∷ ys) [] first second = absurd second
zip-one R each (x ∷ xs) (y ∷ ys) (z ∷ zs) first second = let here = each x y z first.0 second.0 in let rest = zip-one R each xs ys zs first.1 second.1 in cc

item_total : IsTotalOrder item_cmp
item_total = on_total (λ (i : Item). i.guid.0) nat_list_cmp_total

-- a bundle's file is one of the files
pub file-bytes : (files : List MemFile) (folder key file : List ℕ) → AreFiles files → bundle_file files folder key ≡ Some file → AreBytes file × (length file < 2 ^ 63)
file-bytes files folder key file are at = by_side (file_at (side_path folder false key) files) refl at
  where
    by_side : (near : Option (List ℕ)) → file_at (side_path folder false key) files ≡ near → option_or near (file_at (side_path folder true key) files) ≡ Some file → AreBytes file × (length file < 2 ^ 63)
    by_side None is there = are (side_path folder true key) file there
    by_side (Some bytes) is there = are (side_path folder false key) file (is ∙ there)

pub same-bundle : (file other : List ℕ) (b d : Bundle) → file ≡ other → bundle_read file ≡ Ok b → bundle_read other ≡ Ok d → b ≡ d
same-bundle file other b d same first second = let e = sym first ∙ (ap bundle_read same ∙ second) in cc e

pub one-opened : Meant → OneCab → (files : List MemFile) (folder : List ℕ) → AreFiles files → (row : BundleRow) → AtMostOne (IsOpened files folder row)
one-opened meant one files folder are row x y (f, f-at, (name, (b, b-read, cab)), x-name) (g, g-at, (other, (d, d-read, cab2)), y-name) =
    let same : f ≡ g = same-some f g (sym f-at ∙ g-at) in
    let bundles : b ≡ d = same-bundle f g b d same b-read d-read in
    let bytes = file-bytes files folder row.key f are f-at in
    let again : IsCab f b other y.objects = subst (λ w. IsCab f w other y.objects) (sym bundles) (subst (λ w. IsCab w d other y.objects) (sym same) cab2) in
    let objects = (one f b name other x.objects y.objects bytes.1 ((meant f b bytes.0 bytes.1).1 b-read) cab again).1 in
    ap₂ (λ n os. let o : Opened = record { name = n; objects = os } in o) (x-name ∙ sym y-name) objects

pub one-row : (r : Rows) (opened : List Opened) (a : AssetRow) → AtMostOne (ResolvesRow r opened a)
one-row r opened a x y (first, first-at, are, id, kind, items) (second, second-at, are2, id2, kind2, items2) =
    let firsts : first ≡ second = same-some first second (sym first-at ∙ second-at) in
    let bytes : x.guid.0 ≡ y.guid.0 = decoded_same (hex_of x.guid.0) x.guid.0 y.guid.0 (spelled_decodes (hex_of x.guid.0) x.guid.0 are refl) are2 (sym id ∙ id2) in
    let guids : x.guid ≡ y.guid = same-guid x.guid y.guid bytes in
    let again : IsUnfolding opened (place first.0 x.guid) y.items = subst (λ (b : BundleNo). IsUnfolding opened (place b.0 x.guid) y.items) (sym firsts) (subst (λ (g : Guid). IsUnfolding opened (place second.0 g) y.items) (sym guids) items2) in
    let same : x.items ≡ y.items = one-list item_total (Taken opened (place first.0 x.guid)) x.items y.items items.lists again.lists in
    ap₂ (λ g k. let w : Row = record { guid = g; kind = k; items = x.items } in w) guids (kind ∙ sym kind2)
    ∙ ap (λ is. let w : Row = record { guid = y.guid; kind = y.kind; items = is } in w) same

same-catalogue : (bytes other : List ℕ) (c d : Catalogue) → bytes ≡ other → catalogue_read bytes ≡ Ok c → catalogue_read other ≡ Ok d → c ≡ d
same-catalogue bytes other c d same first second = let e = sym first ∙ (ap catalogue_read same ∙ second) in cc e

pub one-resolve : Meant → OneCab → (files : List MemFile) (folder key : List ℕ) → AreFiles files → AtMostOne (Resolve files folder key)
one-resolve meant one files folder key are x y (c, opened, release, shows) (d, others, release2, shows2) =
    let bytes : release.bytes ≡ release2.bytes = same-some release.bytes release2.bytes (sym release.there ∙ release2.there) in
    let catalogues : c ≡ d = same-catalogue release.bytes release2.bytes c d bytes release.read release2.read in
    let bundles : AllZip (IsOpened files folder) c.locator.bundles others = subst (λ (w : Catalogue). AllZip (IsOpened files folder) w.locator.bundles others) (sym catalogues) release2.bundles in
    let files-same : opened ≡ others = zip-one (IsOpened files folder) (one-opened meant one files folder are) c.locator.bundles opened others release.bundles bundles in
    let again : ResolvesKey c.locator opened key y = subst (λ (w : Catalogue). ResolvesKey w.locator opened key y) (sym catalogues) (subst (λ (os : List Opened). ResolvesKey d.locator os key y) (sym files-same) shows2) in
    zip-one (ResolvesRow c.locator opened) (one-row c.locator opened) (filter (has_key_text c.locator key) c.locator.assets) x y shows again

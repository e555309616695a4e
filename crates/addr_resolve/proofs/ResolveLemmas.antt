-- Resolving a key from its steps: the catalogue, the rows of the key, the opened bundles, and the rows one by one.
use Rattle.std.proofs.Common.{ℕ, suc, ◌≡◌, ◌<◌, ◌∙◌, List, [], ◌∷◌, length, map, refl, ap, sym, subst}
use Rattle.std.specs.List.{AllZip}
use Rattle.std.specs.Prelude.{Ok, Err}
use Rattle.addr_base.specs.declared.files.MemFile.{MemFile}
use Rattle.addr_base.specs.declared.ids.Guid.{Guid}
use Rattle.addr_base.specs.declared.ids.RowNo.{RowNo}
use Rattle.addr_cab.specs.Lookup.{Held}
use Rattle.addr_catalog.specs.declared.catalogue.Catalogue.{Catalogue}
use Rattle.addr_locate.specs.Rows.{Rows}
use Rattle.addr_locate.specs.declared.rows.AssetRow.{AssetRow}
use Rattle.addr_locate.specs.declared.rows.BundleRow.{BundleRow}
use Rattle.addr_release.specs.Opened.{Opened}
use Rattle.addr_resolve.specs.Items.{ShowsCabs}
use Rattle.addr_resolve.specs.Items.{AreNamed}
use Rattle.addr_resolve.specs.Opening.{IsOpenedAs, opened_all}
use Rattle.addr_resolve.specs.Resolving.{HasCatalogue, ResolveRose, Resolves, row_view, rows_with}
use Rattle.addr_resolve.specs.within.Steps.{AreNumbersOf, FindsKey, ReadsRelease, ResolvesIn, ResolvesRows}
use Rattle.addr_resolve.specs.declared.error.BundleFault.TheVariants.{Lost}
use Rattle.addr_resolve.specs.declared.error.ResolveErr.{ResolveErr}
use Rattle.addr_resolve.specs.declared.error.ResolveErr.TheVariants.{NoRelease, BadCatalogue, NoKey, BadBundle, DepotFault, NoMemory}
use Rattle.addr_resolve.specs.declared.rows.Resolved.{Resolved}
use Rattle.addr_resolve.specs.declared.rows.RowErr.TheVariants.{Lost as LostRow}
use Rattle.addr_resolve.proofs.GraphLemmas.{opened-from, shows-from}

-- ---- over opened bundles

pub named-from : (files : List MemFile) (folder : List ℕ) (rows : List BundleRow) (helds : List Held) → AllZip (IsOpenedAs files folder) rows helds → AreNamed (opened_all rows helds) rows
named-from files folder [] [] zipped = tt
named-from files folder [] (h ∷ hs) zipped = absurd zipped
named-from files folder (r ∷ rs) [] zipped = absurd zipped
named-from files folder (r ∷ rs) (h ∷ hs) zipped = (refl, named-from files folder rs hs zipped.1)

pub opened-done : (files : List MemFile) (folder : List ℕ) (r : Rows) (cabs : List Held) (numbers : List RowNo) (assets : List AssetRow) (shown : List Resolved)
    → AllZip (IsOpenedAs files folder) r.bundles cabs → AreNumbersOf r assets numbers
    → ((opened : List Opened) (all : List AssetRow) → AreNamed opened r.bundles → ShowsCabs opened cabs → AreNumbersOf r all numbers → ResolvesRows r opened all (Ok shown))
    → ResolvesIn files folder r assets (Ok shown)
opened-done files folder r cabs numbers assets shown opens are does =
    (opened_all r.bundles cabs, opened-from files folder r.bundles cabs opens, does (opened_all r.bundles cabs) assets (named-from files folder r.bundles cabs opens) (shows-from files folder r.bundles cabs opens) are)

pub opened-lost : (files : List MemFile) (folder : List ℕ) (r : Rows) (cabs : List Held) (numbers : List RowNo) (assets : List AssetRow) (key : List ℕ) (guid : Guid)
    → AllZip (IsOpenedAs files folder) r.bundles cabs → AreNumbersOf r assets numbers
    → ((opened : List Opened) (all : List AssetRow) → AreNamed opened r.bundles → ShowsCabs opened cabs → AreNumbersOf r all numbers → ResolvesRows r opened all (Err (LostRow key guid)))
    → ResolvesIn files folder r assets (Err (BadBundle key (Lost guid)))
opened-lost files folder r cabs numbers assets key guid opens are does =
    (opened_all r.bundles cabs, opened-from files folder r.bundles cabs opens, does (opened_all r.bundles cabs) assets (named-from files folder r.bundles cabs opens) (shows-from files folder r.bundles cabs opens) are)

-- ---- the steps together

pub zip-length : {A B : Type 0} (R : A → B → Type 0) (xs : List A) (ys : List B) → AllZip R xs ys → length xs ≡ length ys
zip-length R [] [] zip = refl
zip-length R [] (b ∷ bs) zip = absurd zip
zip-length R (a ∷ as') [] zip = absurd zip
zip-length R (a ∷ as') (b ∷ bs) zip = ap suc (zip-length R as' bs zip.1)

pub same-length : (rows : List Resolved) → length (map row_view rows) ≡ length rows
same-length [] = refl
same-length (r ∷ rs) = ap suc (same-length rs)

pub release-stops : (files : List MemFile) (folder key : List ℕ) (e : ResolveErr) → ReadsRelease files folder (Err e) → Resolves files folder key (Err e)
release-stops files folder key (NoRelease name) is = is
release-stops files folder key (BadCatalogue fault) is = is
release-stops files folder key NoKey is = absurd is
release-stops files folder key (BadBundle name why) is = absurd is
release-stops files folder key DepotFault is = tt
release-stops files folder key NoMemory is = tt

pub key-stops : (files : List MemFile) (folder key : List ℕ) (c : Catalogue) (e : ResolveErr) → HasCatalogue files folder c → FindsKey c.locator key (Err e) → Resolves files folder key (Err e)
key-stops files folder key c (NoRelease name) has is = absurd is
key-stops files folder key c (BadCatalogue fault) has is = absurd is
key-stops files folder key c NoKey has is = (c, has, is)
key-stops files folder key c (BadBundle name why) has is = absurd is
key-stops files folder key c DepotFault has is = absurd is
key-stops files folder key c NoMemory has is = tt

-- looking for a key meets no fault of the depot
pub key-rose : (r : Rows) (key : List ℕ) (e : ResolveErr) (before now : ℕ) → FindsKey r key (Err e) → now ≡ before → ResolveRose {T = List Resolved} before now (Err e)
key-rose r key (NoRelease name) before now is same = same
key-rose r key (BadCatalogue fault) before now is same = same
key-rose r key NoKey before now is same = same
key-rose r key (BadBundle name why) before now is same = same
key-rose r key DepotFault before now is same = absurd is
key-rose r key NoMemory before now is same = same

some-rows : (r : Rows) (key : List ℕ) (numbers : List RowNo) → FindsKey r key (Ok numbers) → 0 < length (rows_with r key)
some-rows r key numbers (some, are) = subst (λ n. 0 < n) (sym (zip-length _ (rows_with r key) numbers are)) some

pub rows-stop : (files : List MemFile) (folder key : List ℕ) (c : Catalogue) (numbers : List RowNo) (e : ResolveErr) → HasCatalogue files folder c → FindsKey c.locator key (Ok numbers)
    → ResolvesIn files folder c.locator (rows_with c.locator key) (Err e) → Resolves files folder key (Err e)
rows-stop files folder key c numbers (NoRelease name) has finds is = absurd is
rows-stop files folder key c numbers (BadCatalogue fault) has finds is = absurd is
rows-stop files folder key c numbers NoKey has finds is = absurd is
rows-stop files folder key c numbers (BadBundle name why) has finds is = (c, has, some-rows c.locator key numbers finds, is)
rows-stop files folder key c numbers DepotFault has finds is = tt
rows-stop files folder key c numbers NoMemory has finds is = tt

pub rows-done : (files : List MemFile) (folder key : List ℕ) (c : Catalogue) (numbers : List RowNo) (shown : List Resolved) → HasCatalogue files folder c → FindsKey c.locator key (Ok numbers)
    → ResolvesIn files folder c.locator (rows_with c.locator key) (Ok shown) → Resolves files folder key (Ok shown)
rows-done files folder key c numbers shown (bytes, there, read) finds (opened, opens, are) = (
  subst (λ n. 0 < n) (zip-length _ (rows_with c.locator key) (map row_view shown) are ∙ same-length shown) (some-rows c.locator key numbers finds),
  (c, opened, record { bytes = bytes; there = there; read = read; bundles = opens }, are),
)

-- Files have one answer under a key: a bundle is opened or has one fault, a row resolves or loses one GUID, and of those that
-- fail one is the first.
use Rattle.std.proofs.Common.{ℕ, zero, suc, ◌≡◌, ◌<◌, ◌^◌, ◌⊎◌, inl, inr, ◌∙◌, List, [], ◌∷◌, length, map, take, Option, Some, None, Less, Equal, Greater, refl, ap, ap₂, sym, subst, arith}
use Rattle.std.proofs.lemmas.Bool.{cases_order}
use Rattle.std.specs.List.{AllZip, Contains, slice_get}
use Rattle.std.specs.Ordering.{ordering_reverse}
use Rattle.std.specs.declared.cmp.Ordering.{Ordering}
use Rattle.std.specs.Prelude.{Result, Ok, Err}
use Rattle.addr_base.specs.Files.{file_at}
use Rattle.addr_base.specs.Ids.{Are16Bytes, hex_of}
use Rattle.addr_base.specs.declared.files.MemFile.{MemFile}
use Rattle.addr_base.specs.declared.ids.BundleNo.{BundleNo}
use Rattle.addr_base.specs.declared.ids.Digest.{Digest}
use Rattle.addr_base.specs.declared.ids.Guid.{Guid}
use Rattle.addr_base.proofs.HexLemmas.{decoded_same, spelled_decodes}
use Rattle.addr_cab.specs.Faults.{table_read}
use Rattle.addr_cab.specs.Lookup.{HasFault, HasNoTable}
use Rattle.addr_cab.specs.Objects.{IsCab}
use Rattle.addr_cab.specs.Searches.{Ascend}
use Rattle.addr_cab.specs.declared.error.CabErr.{CabErr}
use Rattle.addr_cab.specs.declared.error.CabErr.TheVariants.{Nodes}
use Rattle.addr_cab.specs.declared.object.ObjectOut.{ObjectOut}
use Rattle.addr_catalog.specs.Catalogue.{catalogue_read}
use Rattle.addr_catalog.specs.declared.catalogue.Catalogue.{Catalogue}
use Rattle.addr_catalog.specs.declared.error.CatErr.{CatErr}
use Rattle.addr_layout.specs.Agreement.{Place, place}
use Rattle.addr_layout.proofs.GuidLemmas.{exact-guid, guid_total, same-guid}
use Rattle.addr_layout.proofs.RankLemmas.{same-some}
use Rattle.addr_locate.specs.Rows.{Rows}
use Rattle.addr_locate.specs.declared.rows.AssetRow.{AssetRow}
use Rattle.addr_locate.specs.declared.rows.BundleRow.{BundleRow}
use Rattle.addr_project.specs.Reach.{Row, guid_cmp}
use Rattle.addr_release.specs.Names.{bundle_file, catalogue_path}
use Rattle.addr_release.specs.Opened.{Opened, IsWhole, Jumps}
use Rattle.addr_release.specs.Resolve.{IsOpened, ResolvesRow}
use Rattle.addr_unityfs.specs.Faults.{bundle_read}
use Rattle.addr_unityfs.specs.Format.{IsBundle, node_bytes}
use Rattle.addr_unityfs.specs.declared.bundle.Bundle.{Bundle}
use Rattle.addr_unityfs.specs.declared.bundle.NodePlace.{NodePlace}
use Rattle.addr_walks.specs.Walks.{Leads}
use Rattle.addr_walks.specs.Walks.Leads.{stays, goes}
use Rattle.addr_walks.proofs.Zips.{zip-left, zip-right}
use Rattle.addr_resolve.specs.Graph.{Misses}
use Rattle.addr_resolve.specs.Items.{HoldOne}
use Rattle.addr_resolve.specs.Laws.{AreFiles, IsOfFiles, answer_view}
use Rattle.addr_resolve.specs.Lost.{IsFirstUnfound, IsUnfound, LosesRow}
use Rattle.addr_resolve.specs.Opening.{IsBad, IsBadTable, IsFirstBad}
use Rattle.addr_resolve.specs.Resolving.{AreLost, IsFirstLostRow, IsWrong, Resolves, row_view, rows_with}
use Rattle.addr_resolve.specs.declared.error.BundleFault.{BundleFault}
use Rattle.addr_resolve.specs.declared.error.BundleFault.TheVariants.{Missing, Fs, Cab, Lost}
use Rattle.addr_resolve.specs.declared.error.ResolveErr.{ResolveErr}
use Rattle.addr_resolve.specs.declared.error.ResolveErr.TheVariants.{NoRelease, BadCatalogue, NoKey, BadBundle, DepotFault, NoMemory}
use Rattle.addr_resolve.specs.declared.rows.Resolved.{Resolved}
use Rattle.addr_resolve.proofs.GraphLemmas.{hold-one}
use Rattle.addr_resolve.proofs.OnceLemmas.{Meant, OneCab, file-bytes, one-opened, one-row, same-bundle, zip-one}
use Rattle.addr_resolve.proofs.ResolveLemmas.{same-length, zip-length}

-- a file that holds objects has no fault as their table
abbrev pub NeverBoth : Type 0
NeverBoth = (file : List ℕ) (b : Bundle) (e : CabErr) (name : Digest) (objects : List ObjectOut) → length file < 2 ^ 63 → IsBundle file b
    → HasFault file b e → IsCab file b name objects → ⊥

-- ---- what has two answers has none

no-both : {X : Type 0} (o : Option X) (x : X) → o ≡ Some x → o ≡ None → ⊥
no-both o x some none = let clash = sym some ∙ none in absurd (cc clash)

no-error : {X E : Type 0} (r : Result X E) (x : X) (e : E) → r ≡ Ok x → r ≡ Err e → ⊥
no-error r x e done failed = let clash = sym done ∙ failed in absurd (cc clash)

same-error : {X E : Type 0} (r : Result X E) (d e : E) → r ≡ Err d → r ≡ Err e → d ≡ e
same-error r d e first second = let both = sym first ∙ second in cc both

same-done : {X E : Type 0} (r : Result X E) (x y : X) → r ≡ Ok x → r ≡ Ok y → x ≡ y
same-done r x y first second = let both = sym first ∙ second in cc both

slice_get-take : {X : Type 0} (xs : List X) (n k : ℕ) (x : X) → k < n → slice_get xs k ≡ Some x → slice_get (take n xs) k ≡ Some x
slice_get-take [] n k x less at = absurd (cc at)
slice_get-take (y ∷ ys) zero k x less at = absurd (omega (arith, less))
slice_get-take (y ∷ ys) (suc n) zero x less at = at
slice_get-take (y ∷ ys) (suc n) (suc k) x less at = slice_get-take ys n k x (omega (arith, less)) at

one-guid : (text : List ℕ) (x y : Guid) → Are16Bytes x.0 → text ≡ hex_of x.0 → Are16Bytes y.0 → text ≡ hex_of y.0 → x ≡ y
one-guid text x y are is are2 is2 = same-guid x y (decoded_same text x.0 y.0 (spelled_decodes text x.0 are is) are2 is2)

-- ---- a file has one fault as a table

same-nodes : {X : Type 0} (a b c d : X) → a ∷ b ∷ [] ≡ c ∷ d ∷ [] → (a ≡ c) × (b ≡ d)
same-nodes a b c d same = (cc same, cc same)

one-fault : (f : List ℕ) (b : Bundle) (d e : CabErr) → HasFault f b d → HasFault f b e → d ≡ e
one-fault f b d e first second =
    let same = same-nodes first.table first.content second.table second.content (sym first.nodes.nodes ∙ second.nodes.nodes) in
    let read = ap₂ (λ (table content : NodePlace). table_read content.size (node_bytes f b table)) same.0 same.1 in
    same-error (table_read second.content.size (node_bytes f b second.table)) d e (sym read ∙ first.fault_is) second.fault_is

one-table : (f : List ℕ) (d e : CabErr) → IsBadTable f d → IsBadTable f e → d ≡ e
one-table f d e (b, b-read, bad) (c, c-read, worse) =
    by_case bad (subst (λ (w : Bundle). ((e ≡ Nodes) × HasNoTable w) ⊎ HasFault f w e) (same-bundle f f c b refl c-read b-read) worse)
  where
    by_case : ((d ≡ Nodes) × HasNoTable b) ⊎ HasFault f b d → ((e ≡ Nodes) × HasNoTable b) ⊎ HasFault f b e → d ≡ e
    by_case (inl (is, none)) (inl (is2, none2)) = is ∙ sym is2
    by_case (inl (is, none)) (inr fault) = absurd (none fault.name fault.table fault.content fault.nodes)
    by_case (inr fault) (inl (is, none)) = absurd (none fault.name fault.table fault.content fault.nodes)
    by_case (inr first) (inr second) = one-fault f b d e first second

-- ---- a walk is whole, or loses one GUID

module _ (opened : List Opened) (once : HoldOne opened) where
  whole-misses-none : (start q : Place) (g : Guid) → IsWhole opened start → Leads (Jumps opened) start q → Misses opened q g → ⊥
  whole-misses-none start q g whole walk (o, holds, r, here, guid, nowhere) =
      let solid = whole q walk in
      let led = solid.2 r (subst (λ (x : ObjectOut). Contains x.refs r) (sym (once q solid.0 o solid.1 holds)) here) in
      let next : Leads (Jumps opened) start (place led.0 g) = goes walk (o, holds, r, here, guid, led.1) in
      let there = whole (place led.0 g) next in
      nowhere (led.0, led.1, (there.0, there.1))

  whole-finds-all : (start : Place) (g : Guid) → IsWhole opened start → IsUnfound opened start g → ⊥
  whole-finds-all start g whole (inl (same, none)) = let here = whole start stays in none (here.0, here.1)
  whole-finds-all start g whole (inr (q, walk, misses)) = whole-misses-none start q g whole walk misses

  one-unfound : (start : Place) (g h : Guid) → IsFirstUnfound opened start g → IsFirstUnfound opened start h → g ≡ h
  one-unfound start g h first second = by_order (guid_cmp g h) refl
    where
      by_order : (o : Ordering) → guid_cmp g h ≡ o → g ≡ h
      by_order Less is = absurd (second.1 g first.0 is)
      by_order Equal is = exact-guid g h is
      by_order Greater is =
          let turned : guid_cmp h g ≡ Less = guid_total.antisymm h g ∙ ap ordering_reverse is in
          absurd (first.1 h second.0 turned)

  one-loss : (a : AssetRow) (first : ℕ) (g h : Guid) → LosesRow opened a first g → LosesRow opened a first h → g ≡ h
  one-loss a first g h (inl (none, is)) (inl (none2, is2)) = is ∙ sym is2
  one-loss a first g h (inl (none, is)) (inr (x, are, id, lost)) = absurd (none x.0 are id)
  one-loss a first g h (inr (x, are, id, lost)) (inl (none, is)) = absurd (none x.0 are id)
  one-loss a first g h (inr (x, are, id, lost)) (inr (y, are2, id2, lost2)) =
      one-unfound (place first x) g h lost (subst (λ (w : Guid). IsFirstUnfound opened (place first w) h) (one-guid a.id y x are2 id2 are id) lost2)

  resolves-no-loss : (r : Rows) (a : AssetRow) (row : Row) (first : BundleNo) (g : Guid) → ResolvesRow r opened a row → slice_get a.deps 0 ≡ Some first → LosesRow opened a first.0 g → ⊥
  resolves-no-loss r a row first g (dep, dep-at, are, id, kind, items) at (inl (none, is)) = none row.guid.0 are id
  resolves-no-loss r a row first g (dep, dep-at, are, id, kind, items) at (inr (x, are2, id2, lost)) =
      let guids : row.guid ≡ x = one-guid a.id row.guid x are id are2 id2 in
      let firsts : dep ≡ first = same-some dep first (sym dep-at ∙ at) in
      let whole : IsWhole opened (place dep.0 x) = subst (λ (w : Guid). IsWhole opened (place dep.0 w)) guids items.whole in
      whole-finds-all (place first.0 x) g (subst (λ (b : BundleNo). IsWhole opened (place b.0 x)) firsts whole) lost.0

  -- ---- of the rows that lose a GUID one is the first

  resolved-before : (r : Rows) (rows : List AssetRow) (shown : List Row) (n k : ℕ) (a : AssetRow) (first : BundleNo) (g : Guid) → AllZip (ResolvesRow r opened) (take n rows) shown
      → k < n → slice_get rows k ≡ Some a → slice_get a.deps 0 ≡ Some first → LosesRow opened a first.0 g → ⊥
  resolved-before r rows shown n k a first g zipped less at first-at loses =
      let beside = zip-left (ResolvesRow r opened) (take n rows) shown zipped k a (slice_get-take rows n k a less at) in
      resolves-no-loss r a beside.0 first g beside.2 first-at loses

  all-resolved : (r : Rows) (rows : List AssetRow) (shown : List Row) (key : List ℕ) (g : Guid) → AllZip (ResolvesRow r opened) rows shown → IsFirstLostRow r opened rows key g → ⊥
  all-resolved r rows shown key g zipped lost =
      let beside = zip-left (ResolvesRow r opened) rows shown zipped lost.number lost.row lost.at in
      resolves-no-loss r lost.row beside.0 lost.first g beside.2 lost.first_at lost.loses

  one-lost-row : (r : Rows) (rows : List AssetRow) (key said : List ℕ) (g h : Guid) → IsFirstLostRow r opened rows key g → IsFirstLostRow r opened rows said h → (key ≡ said) × (g ≡ h)
  one-lost-row r rows key said g h x y = by_order (cases_order x.number y.number)
    where
      by_order : (x.number ≡ y.number) ⊎ ((x.number < y.number) ⊎ (y.number < x.number)) → (key ≡ said) × (g ≡ h)
      by_order (inl same) =
          let assets : y.row ≡ x.row = same-some y.row x.row (sym y.at ∙ (ap (slice_get rows) (sym same) ∙ x.at)) in
          let firsts : y.first ≡ x.first = same-some y.first x.first (sym y.first_at ∙ (ap (λ (a : AssetRow). slice_get a.deps 0) assets ∙ x.first_at)) in
          let bundles : y.bundle ≡ x.bundle = same-some y.bundle x.bundle (sym y.bundle_at ∙ (ap (λ (b : BundleNo). slice_get r.bundles b.0) firsts ∙ x.bundle_at)) in
          let loses : LosesRow opened x.row x.first.0 h = subst (λ (b : BundleNo). LosesRow opened x.row b.0 h) firsts (subst (λ (a : AssetRow). LosesRow opened a y.first.0 h) assets y.loses) in
          (x.named ∙ (ap (λ (b : BundleRow). b.key) (sym bundles) ∙ sym y.named), one-loss x.row x.first.0 g h x.loses loses)
      by_order (inr (inl less)) = absurd (resolved-before r rows y.before y.number x.number x.row x.first g y.shown less x.at x.first_at x.loses)
      by_order (inr (inr less)) = absurd (resolved-before r rows x.before x.number y.number y.row y.first h x.shown less y.at y.first_at y.loses)

-- ---- a bundle is opened or has one fault

module _ (meant : Meant) (one : OneCab) (never : NeverBoth) (files : List MemFile) (folder : List ℕ) (are : AreFiles files) where
  same-file : (row : BundleRow) (f g : List ℕ) → bundle_file files folder row.key ≡ Some f → bundle_file files folder row.key ≡ Some g → g ≡ f
  same-file row f g at there = same-some g f (sym there ∙ at)

  opened-not-bad : (row : BundleRow) (x : Opened) (why : BundleFault) → IsOpened files folder row x → IsBad files folder row why → ⊥
  opened-not-bad row x Missing (f, at, (name, (b, read, cab)), named) bad = no-both (bundle_file files folder row.key) f at bad
  opened-not-bad row x (Fs e) (f, at, (name, (b, read, cab)), named) (g, there, bad) =
      no-error (bundle_read f) b e read (subst (λ (w : List ℕ). bundle_read w ≡ Err e) (same-file row f g at there) bad)
  opened-not-bad row x (Cab e) (f, at, (name, (b, read, cab)), named) (g, there, table) = by_table (subst (λ (w : List ℕ). IsBadTable w e) (same-file row f g at there) table)
    where
      by_case : ((e ≡ Nodes) × HasNoTable b) ⊎ HasFault f b e → ⊥
      by_case (inl (is, none)) = none name cab.table cab.content cab.nodes
      by_case (inr fault) =
          let bytes = file-bytes files folder row.key f are at in
          never f b e name x.objects bytes.1 ((meant f b bytes.0 bytes.1).1 read) fault cab

      by_table : IsBadTable f e → ⊥
      by_table (c, c-read, bad) = by_case (subst (λ (w : Bundle). ((e ≡ Nodes) × HasNoTable w) ⊎ HasFault f w e) (same-bundle f f c b refl c-read read) bad)
  opened-not-bad row x (Lost g) opens bad = bad

  one-bad : (row : BundleRow) (x y : BundleFault) → IsBad files folder row x → IsBad files folder row y → x ≡ y
  one-bad row Missing Missing none none2 = refl
  one-bad row Missing (Fs e) none (f, at, bad) = absurd (no-both (bundle_file files folder row.key) f at none)
  one-bad row Missing (Cab e) none (f, at, table) = absurd (no-both (bundle_file files folder row.key) f at none)
  one-bad row Missing (Lost h) none bad = absurd bad
  one-bad row (Fs d) Missing (f, at, bad) none = absurd (no-both (bundle_file files folder row.key) f at none)
  one-bad row (Fs d) (Fs e) (f, at, bad) (g, there, worse) =
      ap Fs (same-error (bundle_read f) d e bad (subst (λ (w : List ℕ). bundle_read w ≡ Err e) (same-file row f g at there) worse))
  one-bad row (Fs d) (Cab e) (f, at, bad) (g, there, (b, read, table)) =
      absurd (no-error (bundle_read f) b d (subst (λ (w : List ℕ). bundle_read w ≡ Ok b) (same-file row f g at there) read) bad)
  one-bad row (Fs d) (Lost h) bad worse = absurd worse
  one-bad row (Cab d) Missing (f, at, table) none = absurd (no-both (bundle_file files folder row.key) f at none)
  one-bad row (Cab d) (Fs e) (f, at, (b, read, table)) (g, there, bad) =
      absurd (no-error (bundle_read f) b e read (subst (λ (w : List ℕ). bundle_read w ≡ Err e) (same-file row f g at there) bad))
  one-bad row (Cab d) (Cab e) (f, at, table) (g, there, other) = ap Cab (one-table f d e table (subst (λ (w : List ℕ). IsBadTable w e) (same-file row f g at there) other))
  one-bad row (Cab d) (Lost h) bad worse = absurd worse
  one-bad row (Lost g) y bad worse = absurd bad

  -- ---- of the bundles that have one, one is the first

  opened-before : (rows : List BundleRow) (opened : List Opened) (n k : ℕ) (row : BundleRow) (why : BundleFault) → AllZip (IsOpened files folder) (take n rows) opened
      → k < n → slice_get rows k ≡ Some row → IsBad files folder row why → ⊥
  opened-before rows opened n k row why zipped less at bad =
      let beside = zip-left (IsOpened files folder) (take n rows) opened zipped k row (slice_get-take rows n k row less at) in
      opened-not-bad row beside.0 why beside.2 bad

  all-opened : (rows : List BundleRow) (opened : List Opened) (key : List ℕ) (why : BundleFault) → AllZip (IsOpened files folder) rows opened → IsFirstBad files folder rows key why → ⊥
  all-opened rows opened key why zipped first =
      let beside = zip-left (IsOpened files folder) rows opened zipped first.number first.row first.at in
      opened-not-bad first.row beside.0 why beside.2 first.bad

  one-first-bad : (rows : List BundleRow) (key said : List ℕ) (x y : BundleFault) → IsFirstBad files folder rows key x → IsFirstBad files folder rows said y → (key ≡ said) × (x ≡ y)
  one-first-bad rows key said x y a b = by_order (cases_order a.number b.number)
    where
      by_order : (a.number ≡ b.number) ⊎ ((a.number < b.number) ⊎ (b.number < a.number)) → (key ≡ said) × (x ≡ y)
      by_order (inl same) =
          let bundles : b.row ≡ a.row = same-some b.row a.row (sym b.at ∙ (ap (slice_get rows) (sym same) ∙ a.at)) in
          (a.named ∙ (ap (λ (r : BundleRow). r.key) (sym bundles) ∙ sym b.named), one-bad a.row x y a.bad (subst (λ (r : BundleRow). IsBad files folder r y) bundles b.bad))
      by_order (inr (inl less)) = absurd (opened-before rows b.before b.number a.number a.row x b.opened less a.at a.bad)
      by_order (inr (inr less)) = absurd (opened-before rows a.before a.number b.number b.row y a.opened less b.at b.bad)

  holds-once : (rows : List BundleRow) (opened : List Opened) → AllZip (IsOpened files folder) rows opened → HoldOne opened
  holds-once rows opened zipped = hold-one opened (λ b file at. let beside = zip-right (IsOpened files folder) rows opened zipped b file at in ascends beside.0 file beside.2)
    where
      ascends : (row : BundleRow) (x : Opened) → IsOpened files folder row x → Ascend (λ (o : ObjectOut). o.guid.0) x.objects
      ascends row x (f, at, (name, (b, read, cab)), named) = cab.text.can.ascend

  same-opened : (rows : List BundleRow) (opened others : List Opened) → AllZip (IsOpened files folder) rows opened → AllZip (IsOpened files folder) rows others → others ≡ opened
  same-opened rows opened others zipped zipped2 = zip-one (IsOpened files folder) (one-opened meant one files folder are) rows others opened zipped2 zipped

  -- ---- what is wrong with a catalogue's bundles is one thing

  abbrev IsBundleOrLost : Rows → List AssetRow → List ℕ → BundleFault → Type 0
  IsBundleOrLost r rows key why = IsFirstBad files folder r.bundles key why ⊎ ((g : Guid) × (why ≡ Lost g) × AreLost files folder r rows key g)

  by-kind : (r : Rows) (rows : List AssetRow) (key : List ℕ) (why : BundleFault) → IsWrong files folder r rows key why → IsBundleOrLost r rows key why
  by-kind r rows key Missing wrong = inl wrong
  by-kind r rows key (Fs e) wrong = inl wrong
  by-kind r rows key (Cab e) wrong = inl wrong
  by-kind r rows key (Lost g) wrong = inr (g, refl, wrong)

  one-wrong : (r : Rows) (rows : List AssetRow) (key said : List ℕ) (x y : BundleFault) → IsWrong files folder r rows key x → IsWrong files folder r rows said y → (key ≡ said) × (x ≡ y)
  one-wrong r rows key said x y first second = by_kind (by-kind r rows key x first) (by-kind r rows said y second)
    where
      by_kind : IsBundleOrLost r rows key x → IsBundleOrLost r rows said y → (key ≡ said) × (x ≡ y)
      by_kind (inl bad) (inl worse) = one-first-bad r.bundles key said x y bad worse
      by_kind (inl bad) (inr (h, is, (opened, zipped, lost))) = absurd (all-opened r.bundles opened key x zipped bad)
      by_kind (inr (g, is, (opened, zipped, lost))) (inl bad) = absurd (all-opened r.bundles opened said y zipped bad)
      by_kind (inr (g, is, (opened, zipped, lost))) (inr (h, is2, (others, zipped2, lost2))) =
          let again : IsFirstLostRow r opened rows said h = subst (λ (os : List Opened). IsFirstLostRow r os rows said h) (same-opened r.bundles opened others zipped zipped2) lost2 in
          let both = one-lost-row opened (holds-once r.bundles opened zipped) r rows key said g h lost again in
          (both.0, is ∙ (ap Lost both.1 ∙ sym is2))

  shown-not-wrong : (r : Rows) (rows : List AssetRow) (opened : List Opened) (shown : List Row) (key : List ℕ) (why : BundleFault) → AllZip (IsOpened files folder) r.bundles opened
      → AllZip (ResolvesRow r opened) rows shown → IsWrong files folder r rows key why → ⊥
  shown-not-wrong r rows opened shown key why zipped shows wrong = by_kind (by-kind r rows key why wrong)
    where
      by_kind : IsBundleOrLost r rows key why → ⊥
      by_kind (inl bad) = all-opened r.bundles opened key why zipped bad
      by_kind (inr (g, is, (others, zipped2, lost))) =
          let again : IsFirstLostRow r opened rows key g = subst (λ (os : List Opened). IsFirstLostRow r os rows key g) (same-opened r.bundles opened others zipped zipped2) lost in
          all-resolved opened (holds-once r.bundles opened zipped) r rows shown key g shows again

  -- ---- an answer step by step: the catalogue's file, what it is read as, its rows with the key, and what these come to

  module _ (key : List ℕ) where
    abbrev Fails : Catalogue → Result (List Row) ResolveErr → Type 0
    Fails c v = (name : List ℕ) × (why : BundleFault) × IsWrong files folder c.locator (rows_with c.locator key) name why × (v ≡ Err (BadBundle name why))

    abbrev Succeeds : Catalogue → Result (List Row) ResolveErr → Type 0
    Succeeds c v = (opened : List Opened) × AllZip (IsOpened files folder) c.locator.bundles opened
        × (rows : List Row) × AllZip (ResolvesRow c.locator opened) (rows_with c.locator key) rows × (v ≡ Ok rows)

    abbrev InCatalogue : Catalogue → Result (List Row) ResolveErr → Type 0
    InCatalogue c v = ((rows_with c.locator key ≡ []) × (v ≡ Err NoKey)) ⊎ ((0 < length (rows_with c.locator key)) × (Fails c v ⊎ Succeeds c v))

    abbrev InBytes : List ℕ → Result (List Row) ResolveErr → Type 0
    InBytes bytes v = ((e : CatErr) × (catalogue_read bytes ≡ Err e) × (v ≡ Err (BadCatalogue e))) ⊎ ((c : Catalogue) × (catalogue_read bytes ≡ Ok c) × InCatalogue c v)

    abbrev InFiles : Result (List Row) ResolveErr → Type 0
    InFiles v = ((file_at (catalogue_path folder) files ≡ None) × (v ≡ Err (NoRelease (catalogue_path folder))))
        ⊎ ((bytes : List ℕ) × (file_at (catalogue_path folder) files ≡ Some bytes) × InBytes bytes v)

    some-rows : (c : Catalogue) (opened : List Opened) (rows : List Resolved) → 0 < length rows → AllZip (ResolvesRow c.locator opened) (rows_with c.locator key) (map row_view rows) → 0 < length (rows_with c.locator key)
    some-rows c opened rows some zipped =
        subst (λ n. 0 < n) (sym (zip-length (ResolvesRow c.locator opened) (rows_with c.locator key) (map row_view rows) zipped ∙ same-length rows)) some

    in-files : (x : Result (List Resolved) ResolveErr) → Resolves files folder key x → IsOfFiles x → InFiles (answer_view x)
    in-files (Ok rows) (some, (c, opened, release, shows)) of =
        inr (release.bytes, release.there, inr (c, release.read, inr (some-rows c opened rows some shows, inr (opened, release.bundles, map row_view rows, shows, refl))))
    in-files (Err (NoRelease name)) (is, none) of = inl (none, ap (λ n. Err (NoRelease n)) is)
    in-files (Err (BadCatalogue e)) (bytes, there, bad) of = inr (bytes, there, inl (e, bad, refl))
    in-files (Err NoKey) (c, (bytes, there, read), none) of = inr (bytes, there, inr (c, read, inl (none, refl)))
    in-files (Err (BadBundle name why)) (c, (bytes, there, read), some, wrong) of = inr (bytes, there, inr (c, read, inr (some, inl (name, why, wrong, refl))))
    in-files (Err DepotFault) is of = absurd of
    in-files (Err NoMemory) is of = absurd of

    one-in-rows : (c : Catalogue) (v w : Result (List Row) ResolveErr) → Fails c v ⊎ Succeeds c v → Fails c w ⊎ Succeeds c w → v ≡ w
    one-in-rows c v w (inl (name, why, wrong, is)) (inl (said, what, wrong2, is2)) =
        let both = one-wrong c.locator (rows_with c.locator key) name said why what wrong wrong2 in
        is ∙ (ap₂ (λ n y. Err (BadBundle n y)) both.0 both.1 ∙ sym is2)
    one-in-rows c v w (inl (name, why, wrong, is)) (inr (opened, zipped, rows, shows, is2)) = absurd (shown-not-wrong c.locator (rows_with c.locator key) opened rows name why zipped shows wrong)
    one-in-rows c v w (inr (opened, zipped, rows, shows, is)) (inl (name, why, wrong, is2)) = absurd (shown-not-wrong c.locator (rows_with c.locator key) opened rows name why zipped shows wrong)
    one-in-rows c v w (inr (opened, zipped, rows, shows, is)) (inr (others, zipped2, rows2, shows2, is2)) =
        let again : AllZip (ResolvesRow c.locator opened) (rows_with c.locator key) rows2 = subst (λ (os : List Opened). AllZip (ResolvesRow c.locator os) (rows_with c.locator key) rows2) (same-opened c.locator.bundles opened others zipped zipped2) shows2 in
        is ∙ (ap Ok (zip-one (ResolvesRow c.locator opened) (one-row c.locator opened) (rows_with c.locator key) rows rows2 shows again) ∙ sym is2)

    one-in-catalogue : (c : Catalogue) (v w : Result (List Row) ResolveErr) → InCatalogue c v → InCatalogue c w → v ≡ w
    one-in-catalogue c v w (inl (none, is)) (inl (none2, is2)) = is ∙ sym is2
    one-in-catalogue c v w (inl (none, is)) (inr (some, rest)) = absurd (omega (arith, ap length none, some))
    one-in-catalogue c v w (inr (some, rest)) (inl (none, is)) = absurd (omega (arith, ap length none, some))
    one-in-catalogue c v w (inr (some, rest)) (inr (some2, rest2)) = one-in-rows c v w rest rest2

    one-in-bytes : (bytes : List ℕ) (v w : Result (List Row) ResolveErr) → InBytes bytes v → InBytes bytes w → v ≡ w
    one-in-bytes bytes v w (inl (d, bad, is)) (inl (e, bad2, is2)) = is ∙ (ap (λ f. Err (BadCatalogue f)) (same-error (catalogue_read bytes) d e bad bad2) ∙ sym is2)
    one-in-bytes bytes v w (inl (e, bad, is)) (inr (c, read, rest)) = absurd (no-error (catalogue_read bytes) c e read bad)
    one-in-bytes bytes v w (inr (c, read, rest)) (inl (e, bad, is)) = absurd (no-error (catalogue_read bytes) c e read bad)
    one-in-bytes bytes v w (inr (c, read, rest)) (inr (d, read2, rest2)) =
        one-in-catalogue c v w rest (subst (λ (x : Catalogue). InCatalogue x w) (same-done (catalogue_read bytes) d c read2 read) rest2)

    one-in-files : (v w : Result (List Row) ResolveErr) → InFiles v → InFiles w → v ≡ w
    one-in-files v w (inl (none, is)) (inl (none2, is2)) = is ∙ sym is2
    one-in-files v w (inl (none, is)) (inr (bytes, there, rest)) = absurd (no-both (file_at (catalogue_path folder) files) bytes there none)
    one-in-files v w (inr (bytes, there, rest)) (inl (none, is)) = absurd (no-both (file_at (catalogue_path folder) files) bytes there none)
    one-in-files v w (inr (bytes, there, rest)) (inr (other, there2, rest2)) =
        one-in-bytes bytes v w rest (subst (λ (b : List ℕ). InBytes b w) (same-some other bytes (sym there2 ∙ there)) rest2)

    pub one-answer : (x y : Result (List Resolved) ResolveErr) → Resolves files folder key x → Resolves files folder key y → IsOfFiles x → IsOfFiles y → answer_view x ≡ answer_view y
    one-answer x y first second of-x of-y = one-in-files (answer_view x) (answer_view y) (in-files x first of-x) (in-files y second of-y)

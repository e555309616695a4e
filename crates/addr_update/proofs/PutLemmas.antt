-- What stands in a folder after the puts of an update: no file but catalogue and hash gets other bytes, the state stays intact,
-- and the release stands.
use Rattle.std.proofs.Common.{◌≡◌, ◌≢◌, ◌<◌, ◌≤◌, ◌++◌, ℕ, zero, suc, ◌⊎◌, inl, inr, Bool, true, false, List, [], ◌∷◌, length, length-append, map, take, Option, None, Some, refl, sym, ap, subst, ◌∙◌, arith}
use Rattle.std.proofs.lemmas.Cmp.{nat_list_cmp_total}
use Rattle.std.proofs.lemmas.List.{length-map, take_all}
use Rattle.std.specs.Cmp.Lexicographic.{slice_cmp}
use Rattle.std.specs.List.{AllZip, Contains, slice_get}
use Rattle.std.specs.List.Sorted.{IsStrictlySortedBy}
use Rattle.std.specs.Ordering.{nat_cmp}
use Rattle.addr_base.specs.Files.{file_at}
use Rattle.addr_base.specs.Ids.{Are16Bytes, digest_of, hex_of}
use Rattle.addr_base.specs.declared.files.MemFile.{MemFile}
use Rattle.addr_base.specs.declared.ids.Digest.{Digest}
use Rattle.addr_catalog.specs.declared.catalogue.Catalogue.{Catalogue}
use Rattle.addr_layout.proofs.RankLemmas.{same-some}
use Rattle.addr_locate.specs.Rows.{rows_of, written}
use Rattle.addr_locate.specs.declared.rows.BundleRow.{BundleRow}
use Rattle.addr_locate.specs.declared.rows.PlainAsset.{PlainAsset}
use Rattle.addr_locate.proofs.NumberLemmas.{written_back}
use Rattle.addr_pack.specs.declared.bundles.Plan.{Plan}
use Rattle.addr_pack.specs.declared.bundles.PlanBundle.{PlanBundle}
use Rattle.addr_pack.proofs.DigestLemmas.{digests-fit}
use Rattle.addr_project.specs.Reading.{path}
use Rattle.addr_project.proofs.OnceLemmas.{from_map, to_map}
use Rattle.addr_release.specs.Built.{IsEntryRowAs, ReleaseBundle, catalogue_of}
use Rattle.addr_release.specs.Laws.{AreNamed, IsContent, Keeps}
use Rattle.addr_release.specs.Names.{catalogue_path, digest_from, hash_path, side_path}
use Rattle.addr_release.specs.Opened.{Opened}
use Rattle.addr_release.specs.Puts.{IsAfter, bundle_put, catalogue_put, hash_put}
use Rattle.addr_release.specs.within.Standing.{HoldsJust, IsStoredAs, StandsAs}
use Rattle.addr_release.proofs.BuiltLemmas.{found-file, holds-just, holds-one}
use Rattle.addr_release.proofs.ContentLemmas.{behind-cases, keeps-free}
use Rattle.addr_release.proofs.KeyLemmas.{zip-unmap}
use Rattle.addr_release.proofs.NameLemmas.{bundle-apart, bundle-puts-once, bundles-content, key-long, key-name, long-at, name_of, one-key, path-same, side-same, with-once}
use Rattle.addr_release.proofs.PutLemmas.{Agree, after-either, after-there-one, once-agree, take-past, take-within}
use Rattle.addr_release.proofs.TestLemmas.{bundle-side-free, bundles-free}
use Rattle.addr_state.specs.Files.{file_name, side_file, side_folder}
use Rattle.addr_state.specs.declared.model.StateBundle.{StateBundle}
use Rattle.addr_walks.specs.Once.{AreOnce}
use Rattle.addr_walks.specs.Places.{EachAt}
use Rattle.addr_walks.proofs.Lists.{Contains-cases, Contains-here, Contains-later, Contains-map, Contains-none, Contains-slice_get, map-Contains, slice_get-Contains, sorted-map, sorted-once}
use Rattle.addr_walks.proofs.Zips.{zip-left}
use Rattle.addr_update.specs.After.{IsBundleAfter, NeedsAfter, UpdatedRelease, update_puts}
use Rattle.addr_update.specs.Intact.{AreIntact, IsIntact}
use Rattle.addr_update.specs.Laws.{IsUpdateOf}
use Rattle.addr_update.specs.Moved.{Update}
use Rattle.addr_update.specs.Placement.{by_name}
use Rattle.addr_update.proofs.UpdatedLemmas.{HasAfter}

-- the front of a list stands in its first elements
take-in : {X : Type 0} (k : ℕ) (xs ys : List X) (x : X) → length xs ≤ k → Contains xs x → Contains (take k (xs ++ ys)) x
take-in k [] ys x far here = absurd (Contains-none x here)
take-in zero (z ∷ xs) ys x far here = absurd (omega arith)
take-in (suc k) (z ∷ xs) ys x far here = by_place (Contains-cases z xs x here) (λ later. take-in k xs ys x (omega arith) later)
  where
    by_place : (z ≡ x) ⊎ Contains xs x → (Contains xs x → Contains (take k (xs ++ ys)) x) → Contains (z ∷ take k (xs ++ ys)) x
    by_place (inl same) more = subst (Contains (z ∷ take k (xs ++ ys))) same (Contains-here z (take k (xs ++ ys)))
    by_place (inr later) more = Contains-later z (take k (xs ++ ys)) x (more later)

pub zip-in : {A B : Type 0} (R S : A → B → Type 0) (xs : List A) (ys : List B) → ((x : A) (y : B) → Contains xs x → R x y → S x y) → AllZip R xs ys → AllZip S xs ys
zip-in R S [] [] takes zip = tt
zip-in R S [] (y ∷ ys) takes zip = absurd zip
zip-in R S (x ∷ xs) [] takes zip = absurd zip
zip-in R S (x ∷ xs) (y ∷ ys) takes zip = (takes x y (Contains-here x xs) zip.0, zip-in R S xs ys (λ z w here. takes z w (Contains-later x xs z here)) zip.1)

-- a digest of a state's bundle is one of 16 bytes where its file has it
sum-fits : (files : List MemFile) (folder : List ℕ) (old : StateBundle) (w : Opened) → IsIntact files folder old w → Are16Bytes old.digest.0
sum-fits files folder old w intact = subst Are16Bytes intact.digest (digests-fit intact.file)

-- ---- names of first bundles

module _ (u : Update) (plan : Plan) (old : List MemFile) (folder : List ℕ) (intact : AreIntact u.state old folder u.was) (rising : IsStrictlySortedBy by_name plan.bundles)
    (bundles : List ReleaseBundle) (each : EachAt (IsBundleAfter u plan old folder) bundles) where
  plan-once : AreOnce (map (λ (b : PlanBundle). b.name) plan.bundles)
  plan-once = sorted-once nat_list_cmp_total (map (λ (b : PlanBundle). b.name) plan.bundles) (sorted-map by_name (slice_cmp nat_cmp) (λ (b : PlanBundle). b.name) plan.bundles (λ x y here there less. less) rising)

  key-of : (b : ℕ) (made : ReleaseBundle) → slice_get bundles b ≡ Some made
      → (bundle : PlanBundle) × (slice_get plan.bundles b ≡ Some bundle) × (digest : Digest) × Are16Bytes digest.0 × (made.row.key ≡ file_name bundle.name digest)
  key-of b made at = by_kind (each b made at)
    where
      by_kind : IsBundleAfter u plan old folder b made → (bundle : PlanBundle) × (slice_get plan.bundles b ≡ Some bundle) × (digest : Digest) × Are16Bytes digest.0 × (made.row.key ≡ file_name bundle.name digest)
      by_kind (inl new) = (new.bundle, new.at, digest_from made.file, digests-fit made.file, new.told.key)
      by_kind (inr kept) =
          let w = zip-left (IsIntact old folder) u.state.bundles u.was intact kept.number kept.is.old kept.is.stays.0 in
          (kept.is.bundle, kept.is.at, kept.is.old.digest, sum-fits old folder kept.is.old w.0 w.2, kept.told.key ∙ ap (λ n. file_name n kept.is.old.digest) (sym kept.is.name))

  -- all bundles of an update, or the first ones, have names of bundles' files as keys
  pub made-named : AreNamed bundles
  made-named = record {
    named = λ made here. (let at = slice_get-Contains bundles made here in let key = key-of at.0 made at.1 in (key.0.name, key.2, key.3, key.4));
    once = λ i j key here there.
        let first = from_map (λ (made : ReleaseBundle). made.row.key) bundles i key here in
        let second = from_map (λ (made : ReleaseBundle). made.row.key) bundles j key there in
        let one = key-of i first.0 first.1 in
        let two = key-of j second.0 second.1 in
        let names = key-name one.0.name two.0.name one.2 two.2 one.3 two.3 (sym one.4 ∙ (first.2 ∙ (sym second.2 ∙ two.4))) in
        plan-once i j two.0.name
        (to_map (λ (b : PlanBundle). b.name) plan.bundles i one.0 one.1 ∙ ap Some names) (to_map (λ (b : PlanBundle). b.name) plan.bundles j two.0 two.1);
  }

module _ (u : Update) (old : List MemFile) (folder : List ℕ) (named : Option Digest) (r : UpdatedRelease) (of : IsUpdateOf u old folder named r) where
  pub state-once : AreOnce (map (λ (b : StateBundle). b.name) u.state.bundles)
  state-once = sorted-once nat_list_cmp_total (map (λ (b : StateBundle). b.name) u.state.bundles) of.sound.names_rise

  was-at : (m : ℕ) (b : StateBundle) → slice_get u.state.bundles m ≡ Some b → (w : Opened) × (slice_get u.was m ≡ Some w) × IsIntact old folder b w
  was-at m b at = zip-left (IsIntact old folder) u.state.bundles u.was of.intact m b at

  -- ---- names

  bundles-named : AreNamed r.bundles
  bundles-named = made-named u of.plan old folder of.intact of.updated.rising r.bundles of.is.rows.each

  abbrev pub content : List MemFile
  content = map (bundle_put folder) r.bundles

  pub apart : IsContent folder content
  apart = bundles-content folder r.bundles bundles-named

  puts-agree : Agree (update_puts folder r)
  puts-agree = once-agree (update_puts folder r) (with-once folder content r.catalogue (bundle-puts-once folder r.bundles bundles-named) apart)

  -- a put with a bundle's key is that bundle's
  pub own-put : (f : MemFile) (b : ℕ) (made : ReleaseBundle) (side : Bool) → Contains (update_puts folder r) f → slice_get r.bundles b ≡ Some made → f.name ≡ side_path folder side made.row.key → f.bytes ≡ made.file
  own-put f b made side here at is = by_case (behind-cases folder content r.catalogue f here)
    where
      long : 40 ≤ length made.row.key
      long = long-at folder r.bundles bundles-named made (Contains-slice_get r.bundles b made at)

      by_bundle : (other : ReleaseBundle) × Contains r.bundles other × (bundle_put folder other ≡ f) → f.bytes ≡ made.file
      by_bundle (other, within, same) =
          let place = slice_get-Contains r.bundles other within in
          let keys = side-same other.remote side other.row.key made.row.key (path-same folder (side_folder other.remote ++ other.row.key) (side_folder side ++ made.row.key) (ap name_of same ∙ is)) in
          let number : place.0 ≡ b = one-key folder r.bundles bundles-named place.0 b other made place.1 at keys.1 in
          let own : other ≡ made = same-some other made (sym place.1 ∙ (ap (slice_get r.bundles) number ∙ at)) in
          ap (λ (put : MemFile). put.bytes) (sym same) ∙ ap (λ (m : ReleaseBundle). m.file) own

      by_case : Contains content f ⊎ ((catalogue_put folder r.catalogue ≡ f) ⊎ (hash_put folder r.catalogue ≡ f)) → f.bytes ≡ made.file
      by_case (inl within) = by_bundle (map-Contains (bundle_put folder) r.bundles f within)
      by_case (inr (inl same)) = absurd ((bundle-apart folder side made.row.key long).0 (sym (ap name_of same ∙ is)))
      by_case (inr (inr same)) = absurd ((bundle-apart folder side made.row.key long).1 (sym (ap name_of same ∙ is)))

  abbrev pub catalogue : Catalogue
  catalogue = catalogue_of r.bundles r.assets named

  -- all puts are some first ones
  pub all-far : length r.bundles < length (update_puts folder r)
  all-far = let long = length-append content (catalogue_put folder r.catalogue ∷ hash_put folder r.catalogue ∷ []) in let bundles = length-map r.bundles (bundle_put folder) in omega (arith, long, bundles)

  pub all-after : (new : List MemFile) → IsAfter (update_puts folder r) old new → IsAfter (take (length (update_puts folder r)) (update_puts folder r)) old new
  all-after new after = subst (λ puts. IsAfter puts old new) (sym (take_all (length (update_puts folder r)) (update_puts folder r) (omega arith))) after

  -- ---- what is there once the catalogue was put

  module _ (new : List MemFile) (k : ℕ) (far : length r.bundles < k) (after : IsAfter (take k (update_puts folder r)) old new) where
    there : (f : MemFile) → Contains (take k (update_puts folder r)) f → file_at f.name new ≡ Some f.bytes
    there f here = after-there-one (take k (update_puts folder r)) old new after f
        (λ g there same. puts-agree g f (take-within k (update_puts folder r) g there) (take-within k (update_puts folder r) f here) same) here

    bundle-there : (b : ℕ) (made : ReleaseBundle) → slice_get r.bundles b ≡ Some made → file_at (side_path folder made.remote made.row.key) new ≡ Some made.file
    bundle-there b made at = there (bundle_put folder made)
        (take-in k content (catalogue_put folder r.catalogue ∷ hash_put folder r.catalogue ∷ []) (bundle_put folder made)
        (let long = length-map r.bundles (bundle_put folder) in omega (arith, far, long))
        (Contains-map (bundle_put folder) r.bundles made (Contains-slice_get r.bundles b made at)))

    pub catalogue-there : file_at (catalogue_path folder) new ≡ Some r.catalogue
    catalogue-there = there (catalogue_put folder r.catalogue)
        (take-past k content (hash_put folder r.catalogue ∷ []) (catalogue_put folder r.catalogue) (let long = length-map r.bundles (bundle_put folder) in omega (arith, far, long)))

    -- the local side of a bundle's key has no other file
    near : (b : ℕ) (made : ReleaseBundle) → slice_get r.bundles b ≡ Some made → (file_at (side_path folder false made.row.key) new ≡ None) ⊎ (file_at (side_path folder false made.row.key) new ≡ Some made.file)
    near b made at = by_put (after-either (take k (update_puts folder r)) old new after (side_path folder false made.row.key))
      where
        by_old : file_at (side_path folder false made.row.key) new ≡ file_at (side_path folder false made.row.key) old
            → (file_at (side_path folder false made.row.key) old ≡ None) ⊎ (file_at (side_path folder false made.row.key) old ≡ Some made.file)
            → (file_at (side_path folder false made.row.key) new ≡ None) ⊎ (file_at (side_path folder false made.row.key) new ≡ Some made.file)
        by_old same (inl none) = inl (same ∙ none)
        by_old same (inr some) = inr (same ∙ some)

        by_put : (file_at (side_path folder false made.row.key) new ≡ file_at (side_path folder false made.row.key) old)
            ⊎ ((f : MemFile) × Contains (take k (update_puts folder r)) f × (f.name ≡ side_path folder false made.row.key) × (file_at (side_path folder false made.row.key) new ≡ Some f.bytes))
            → (file_at (side_path folder false made.row.key) new ≡ None) ⊎ (file_at (side_path folder false made.row.key) new ≡ Some made.file)
        by_put (inl same) = by_old same (bundle-side-free folder r.bundles old of.free b made false at)
        by_put (inr (f, here, is, put)) = inr (put ∙ ap Some (own-put f b made false (take-within k (update_puts folder r) f here) at is))

    -- ---- what stays

    pub keeps : Keeps folder old new
    keeps = keeps-free folder content r.catalogue k old new (bundles-free folder r.bundles old of.free) after

    pub intact-after : AreIntact u.state new folder u.was
    intact-after = zip-in (IsIntact old folder) (IsIntact new folder) u.state.bundles u.was stays of.intact
      where
        stays : (b : StateBundle) (w : Opened) → Contains u.state.bundles b → IsIntact old folder b w → IsIntact new folder b w
        stays b w here intact = record {
          file = intact.file;
          there = keeps (path folder b.file) intact.file beside.0 beside.1 intact.there;
          bytes = intact.bytes;
          short = intact.short;
          size = intact.size;
          digest = intact.digest;
          name = intact.name;
          cab = intact.cab;
          holds = intact.holds;
          objects = intact.objects;
        }
          where
            long : 40 ≤ length (file_name b.name b.digest)
            long = let is = key-long b.name b.digest (sum-fits old folder b w intact) in omega (arith, is)

            by_side : (b.file ≡ side_file false b.name b.digest) ⊎ (b.file ≡ side_file true b.name b.digest) → (path folder b.file ≢ catalogue_path folder) × (path folder b.file ≢ hash_path folder)
            by_side (inl is) = let aside = bundle-apart folder false (file_name b.name b.digest) long in (λ e. aside.0 (ap (path folder) (sym is) ∙ e), λ e. aside.1 (ap (path folder) (sym is) ∙ e))
            by_side (inr is) = let aside = bundle-apart folder true (file_name b.name b.digest) long in (λ e. aside.0 (ap (path folder) (sym is) ∙ e), λ e. aside.1 (ap (path folder) (sym is) ∙ e))

            beside : (path folder b.file ≢ catalogue_path folder) × (path folder b.file ≢ hash_path folder)
            beside = let at = slice_get-Contains u.state.bundles b here in by_side (of.sound.formed at.0 b at.1).file

    -- ---- the release stands

    stored-made : (b : ℕ) (made : ReleaseBundle) → slice_get r.bundles b ≡ Some made → IsBundleAfter u of.plan old folder b made → IsStoredAs of.plan (HasAfter u of.plan) new folder b made.row
    stored-made b made at (inl fresh) = record {
      bundle = fresh.bundle;
      at = fresh.at;
      objects = fresh.is.objects;
      are = inl ((fresh.bundle, fresh.at, fresh.new), fresh.is.are);
      file = made.file;
      just = holds-just u.project of.plan b made.file fresh.is;
      there = found-file new folder made.row.key made.file made.remote (bundle-there b made at) (near b made at);
      size = fresh.told.size;
      digest = ap (λ (d : Digest). d.0) fresh.told.digest;
      name = fresh.told.name;
    }
    stored-made b made at (inr kept) =
        let w = was-at kept.number kept.is.old kept.is.stays.0 in
        let same : w.2.file ≡ made.file = same-some w.2.file made.file (sym w.2.there ∙ kept.file) in
        record {
          bundle = kept.is.bundle;
          at = kept.is.at;
          objects = w.0.objects;
          are = inr (kept.number, kept.is, w.0, w.1, refl);
          file = made.file;
          just = subst (λ f. HoldsJust f w.0.objects) same (holds-one w.2.file w.2.cab w.0.objects w.2.bytes w.2.short w.2.holds);
          there = found-file new folder made.row.key made.file made.remote (bundle-there b made at) (near b made at);
          size = kept.told.size ∙ (sym w.2.size ∙ ap length same);
          digest = ap (λ (d : Digest). d.0) kept.told.digest ∙ (sym w.2.digest ∙ ap digest_of same);
          name = kept.told.name ∙ ap (λ t. hex_of (digest_of t)) (sym kept.is.name);
        }

    stored : (b : ℕ) (row : BundleRow) → slice_get (map (λ (made : ReleaseBundle). made.row) r.bundles) b ≡ Some row → IsStoredAs of.plan (HasAfter u of.plan) new folder b row
    stored b row at =
        let made = from_map (λ (made : ReleaseBundle). made.row) r.bundles b row at in
        subst (IsStoredAs of.plan (HasAfter u of.plan) new folder b) made.2 (stored-made b made.0 made.1 (of.is.rows.each b made.0 made.1))

    pub stands : StandsAs u.project of.plan (HasAfter u of.plan) (NeedsAfter u of.plan) new folder catalogue
    unfolding rows_of
    stands = record {
      bytes = r.catalogue;
      there = catalogue-there;
      alike = of.is.alike;
      as_many = length-map r.bundles (λ (made : ReleaseBundle). made.row) ∙ of.is.rows.as_many;
      stored = stored;
      entries = zip-unmap (IsEntryRowAs u.project of.plan (NeedsAfter u of.plan)) (written catalogue.locator) u.project.entries catalogue.locator.assets
          (subst (λ (rows : List PlainAsset). AllZip (IsEntryRowAs u.project of.plan (NeedsAfter u of.plan)) u.project.entries rows) (sym (written_back (map (λ (made : ReleaseBundle). made.row) r.bundles) r.assets)) of.is.rows.entries);
    }

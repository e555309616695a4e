-- A full build: every place of a member is good, so the release shows what the project shows, is sound, and holds its state.
use Rattle.std.proofs.Common.{◌≡◌, ◌↔◌, ℕ, suc, ◌+◌, ◌-◌, ◌<◌, ◌^◌, arith, List, [], ◌∷◌, ◌++◌, length, map, take, None, Some, refl, sym, ap, subst, ◌∙◌, ◌⊎◌, inl, inr, Bool, true, false}
use Rattle.std.proofs.lemmas.List.{length-append, length-map}
use Rattle.std.proofs.lemmas.List.Elements.{Contains-append_cases, Contains-append_left, Contains-append_right, Contains-push}
use Rattle.std.proofs.Math.Seq.{take-append-add, take-length}
use Rattle.std.specs.List.{AllZip, Contains, slice_get}
use Rattle.std.specs.Option.{option_or}
use Rattle.addr_base.specs.Files.{file_at}
use Rattle.addr_base.specs.declared.files.MemFile.{MemFile}
use Rattle.addr_base.specs.declared.ids.Digest.{Digest}
use Rattle.hex.specs.Hex.{IsBytes}
use Rattle.addr_cab.specs.Objects.{HoldsCab, IsCab}
use Rattle.addr_cab.specs.declared.object.ObjectOut.{ObjectOut}
use Rattle.addr_cab.proofs.HoldLaws.{one_cab}
use Rattle.addr_catalog.specs.declared.catalogue.Catalogue.{Catalogue}
use Rattle.addr_layout.specs.Agreement.{Place}
use Rattle.addr_layout.specs.Members.{IsShared, Member}
use Rattle.addr_layout.specs.Needs.{Needs}
use Rattle.addr_layout.proofs.AgreementLemmas.{holds-on, needs-on}
use Rattle.addr_layout.proofs.SharedLemmas.{shared}
use Rattle.addr_locate.specs.Rows.{rows_of, written}
use Rattle.addr_locate.specs.declared.rows.BundleRow.{BundleRow}
use Rattle.addr_locate.specs.declared.rows.PlainAsset.{PlainAsset}
use Rattle.addr_locate.proofs.NumberLemmas.{written_back}
use Rattle.addr_pack.specs.Placement.{IsPlaced}
use Rattle.addr_pack.specs.declared.bundles.Plan.{Plan}
use Rattle.addr_pack.proofs.UniqueLemmas.{one_placement}
use Rattle.addr_project.specs.Kept.{IsKept}
use Rattle.addr_project.specs.Model.{Project}
use Rattle.addr_project.specs.Reach.{Row, Shown}
use Rattle.addr_project.proofs.OnceLemmas.{from_map}
use Rattle.addr_unityfs.proofs.Promises.{is_bundle}
use Rattle.addr_unityfs.specs.declared.bundle.Bundle.{Bundle}
use Rattle.addr_walks.specs.Walks.Leads.{stays}
use Rattle.addr_walks.proofs.Lists.{Contains-cases, Contains-here, Contains-map, Contains-none, Contains-slice_get}
use Rattle.addr_release.specs.Built.{IsEntryRow, IsFileOf, IsReleaseIn, IsReleaseOf, Release, ReleaseBundle, catalogue_of}
use Rattle.addr_release.specs.Held.{HasDigest, IsHeld, IsHeldAs}
use Rattle.addr_release.specs.Images.{AreObjects, NamesApart}
use Rattle.addr_release.specs.Laws.{AreNamed, AreThere}
use Rattle.addr_release.specs.Names.{bundle_file, catalogue_path, digest_from, side_path, state_path}
use Rattle.addr_release.specs.Opened.{Opened}
use Rattle.addr_release.specs.Puts.{IsAfter, NoneTaken, bundle_put, catalogue_put, content_puts, hash_put, puts_of, state_put}
use Rattle.addr_release.specs.Resolve.{Resolve}
use Rattle.addr_release.specs.Sound.{HasSoundRelease}
use Rattle.addr_release.specs.within.Standing.{HoldsJust, IsStoredAs, Stands}
use Rattle.addr_release.proofs.FaithfulLemmas.{Carries, has-assets}
use Rattle.addr_release.proofs.ImageLemmas.{AreOpened, image-at, image-item, jump-follows, member-held, ref-at}
use Rattle.addr_release.proofs.KeyLemmas.{zip-unmap}
use Rattle.addr_release.proofs.NameLemmas.{release-once}
use Rattle.addr_release.proofs.OpenedLemmas.{files-apart, same-ok}
use Rattle.addr_release.proofs.OwnLemmas.{are-named, one-release}
use Rattle.addr_release.proofs.PutLemmas.{after-there, after-there-one, once-agree, take-within}
use Rattle.addr_release.proofs.ReleaseLemmas as release
use Rattle.addr_release.proofs.SoundLemmas as sound
use Rattle.addr_release.proofs.TestLemmas.{none-after, side-free}

-- ---- what stands is read

module _ (p : Project) (plan : Plan) (kept : IsKept p) (shared : IsShared p plan) (apart : NamesApart plan) where
  abbrev pub is_member : List Opened → Place → Type 0
  is_member opened q = Member p plan q.bundle q.guid

  pub built-carries : (opened : List Opened) → AreOpened plan (AreObjects p plan) opened → Carries p plan (Needs p plan) opened (is_member opened)
  built-carries opened are =
      let assets = has-assets p kept in
      let names = files-apart plan (AreObjects p plan) apart opened are in
      let follows = jump-follows p plan assets shared (AreObjects p plan) opened are names (λ b. Unit {0}) (λ b objects new is. is) in
      record {
        faithful = record {
          some = λ q member. member-held p plan assets shared (AreObjects p plan) opened are names (λ b. Unit {0}) (λ b objects new is. is) q tt member;
          same = λ q member o holds. let image = image-at p plan assets shared (AreObjects p plan) opened are names (λ b. Unit {0}) (λ b objects new is. is) q o tt holds in (image.0, image.1, image-item p plan q.bundle image.0 o image.3);
          leads = λ q member o holds r here. let led = ref-at p plan assets shared (AreObjects p plan) opened are names (λ b. Unit {0}) (λ b objects new is. is) q o r tt member holds here in (led.0, led.1);
          kept = λ q s member jump. holds-on p plan q s member (follows q s tt member jump);
        };
        entries = λ b a has. (a, has, stays);
        needed = λ q s member jump other. needs-on p plan q s member (follows q s tt member jump) other;
      }

  pub built-shows : (files : List MemFile) (folder : List ℕ) (c : Catalogue) → Stands p plan files folder c → (key : List ℕ) (shown : List Row) → Resolve files folder key shown ↔ Shown p key shown
  built-shows files folder c stands key shown = release.stands-shows p plan (AreObjects p plan) (Needs p plan) is_member built-carries files folder c kept stands key shown

  pub built-sound : (files : List MemFile) (folder : List ℕ) (c : Catalogue) → Stands p plan files folder c → HasSoundRelease files folder
  built-sound files folder c stands = sound.sound-release p plan (AreObjects p plan) (Needs p plan) is_member built-carries files folder c kept apart stands

-- ---- what is put stands

-- a file of bytes that holds objects holds no others
pub holds-one : (file : List ℕ) (name : Digest) (objects : List ObjectOut) → IsBytes file → length file < 2 ^ 63 → HoldsCab file name objects → HoldsJust file objects
holds-one file name objects bytes short holds = record {
  name = name;
  held = holds;
  one = λ other others held.
      let bundle = holds.0 in
      let meant = (is_bundle file bundle bytes short).1 holds.1 in
      let same : held.0 ≡ bundle = same-ok held.0 bundle (sym held.1 ∙ holds.1) in
      (one_cab file bundle name other objects others short meant holds.2 (subst (λ (x : Bundle). IsCab file x other others) same held.2)).1;
}

-- so does a written file
pub holds-just : (p : Project) (plan : Plan) (b : ℕ) (file : List ℕ) (is : IsFileOf p plan b file) → HoldsJust file is.objects
holds-just p plan b file is = holds-one file (digest_from is.bundle.name) is.objects is.bytes is.short is.holds

-- a bundle's file is found, where the other side is free
pub found-file : (files : List MemFile) (folder key file : List ℕ) (remote : Bool) → file_at (side_path folder remote key) files ≡ Some file
    → (file_at (side_path folder false key) files ≡ None) ⊎ (file_at (side_path folder false key) files ≡ Some file) → bundle_file files folder key ≡ Some file
found-file files folder key file false there free = ap (λ o. option_or o (file_at (side_path folder true key) files)) there
found-file files folder key file true there (inl none) = ap (λ o. option_or o (file_at (side_path folder true key) files)) none ∙ there
found-file files folder key file true there (inr some) = ap (λ o. option_or o (file_at (side_path folder true key) files)) some

-- the files of a release but for the hash: what a folder shows doesn't depend on that
abbrev pub listed_puts : List ℕ → Release → List MemFile
listed_puts folder r = content_puts folder r ++ catalogue_put folder r.catalogue ∷ []

-- they are there once the catalogue is put, whether or not the hash is
pub listed-there : (folder : List ℕ) (r : Release) → AreNamed r.bundles → (k : ℕ) (old new : List MemFile) → length (content_puts folder r) < k → IsAfter (take k (puts_of folder r)) old new → AreThere (listed_puts folder r) new
listed-there folder r named k old new past after put here =
    after-there-one (take k (puts_of folder r)) old new after put (λ g there same. once-agree (puts_of folder r) (release-once folder r named) g put (take-within k (puts_of folder r) g there) (take-within k (puts_of folder r) put within) same) within
  where
    j : ℕ
    j = k - length (content_puts folder r) - 1

    split : take k (puts_of folder r) ≡ content_puts folder r ++ catalogue_put folder r.catalogue ∷ take j (hash_put folder r.catalogue ∷ [])
    split = (let e : k ≡ length (content_puts folder r) + (j + 1) = omega (arith, past) in ap (λ n. take n (puts_of folder r)) e) ∙ (take-append-add (content_puts folder r) (catalogue_put folder r.catalogue ∷ hash_put folder r.catalogue ∷ []) (j + 1) ∙ first j)
      where
        first : (n : ℕ) → content_puts folder r ++ take (n + 1) (catalogue_put folder r.catalogue ∷ hash_put folder r.catalogue ∷ []) ≡ content_puts folder r ++ catalogue_put folder r.catalogue ∷ take n (hash_put folder r.catalogue ∷ [])
        first n = let e : n + 1 ≡ suc n = omega arith in ap (λ m. content_puts folder r ++ take m (catalogue_put folder r.catalogue ∷ hash_put folder r.catalogue ∷ [])) e

    by_last : (catalogue_put folder r.catalogue ≡ put) ⊎ Contains [] put → Contains (content_puts folder r ++ catalogue_put folder r.catalogue ∷ take j (hash_put folder r.catalogue ∷ [])) put
    by_last (inl same) = Contains-append_right (content_puts folder r) (catalogue_put folder r.catalogue ∷ take j (hash_put folder r.catalogue ∷ [])) put (subst (Contains (catalogue_put folder r.catalogue ∷ take j (hash_put folder r.catalogue ∷ []))) same (Contains-here (catalogue_put folder r.catalogue) (take j (hash_put folder r.catalogue ∷ []))))
    by_last (inr none) = absurd (Contains-none put none)

    by_case : Contains (content_puts folder r) put ⊎ Contains (catalogue_put folder r.catalogue ∷ []) put → Contains (content_puts folder r ++ catalogue_put folder r.catalogue ∷ take j (hash_put folder r.catalogue ∷ [])) put
    by_case (inl content) = Contains-append_left (content_puts folder r) (catalogue_put folder r.catalogue ∷ take j (hash_put folder r.catalogue ∷ [])) put content
    by_case (inr last) = by_last (Contains-cases (catalogue_put folder r.catalogue) [] put last)

    within : Contains (take k (puts_of folder r)) put
    within = subst (λ ps. Contains ps put) (sym split) (by_case (Contains-append_cases (content_puts folder r) (catalogue_put folder r.catalogue ∷ []) put here))

module _ (p : Project) (plan : Plan) (r : Release) (placed : IsPlaced p plan) (is : IsReleaseIn p plan r) (folder : List ℕ) (files : List MemFile)
    (free : NoneTaken files folder r) (there : AreThere (listed_puts folder r) files) where
  abbrev catalogue : Catalogue
  catalogue = catalogue_of r.bundles r.assets (Some (digest_from r.state_bytes))

  pub bundle-there : (b : ℕ) (made : ReleaseBundle) → slice_get r.bundles b ≡ Some made → file_at (side_path folder made.remote made.row.key) files ≡ Some made.file
  bundle-there b made at = there (bundle_put folder made)
      (Contains-append_left (content_puts folder r) (catalogue_put folder r.catalogue ∷ []) (bundle_put folder made)
      (Contains-append_left (map (bundle_put folder) r.bundles) (state_put folder r.state_bytes ∷ []) (bundle_put folder made) (Contains-map (bundle_put folder) r.bundles made (Contains-slice_get r.bundles b made at))))

  state-there : file_at (state_path folder (Some (digest_from r.state_bytes))) files ≡ Some r.state_bytes
  state-there = there (state_put folder r.state_bytes)
      (Contains-append_left (content_puts folder r) (catalogue_put folder r.catalogue ∷ []) (state_put folder r.state_bytes)
      (Contains-push (map (bundle_put folder) r.bundles) (state_put folder r.state_bytes)))

  catalogue-there : file_at (catalogue_path folder) files ≡ Some r.catalogue
  catalogue-there = there (catalogue_put folder r.catalogue)
      (Contains-append_right (content_puts folder r) (catalogue_put folder r.catalogue ∷ []) (catalogue_put folder r.catalogue) (Contains-here (catalogue_put folder r.catalogue) []))

  near : (b : ℕ) (made : ReleaseBundle) → slice_get r.bundles b ≡ Some made → (file_at (side_path folder false made.row.key) files ≡ None) ⊎ (file_at (side_path folder false made.row.key) files ≡ Some made.file)
  near b made at = side-free folder r files free b made false at

  stored : (b : ℕ) (row : BundleRow) → slice_get (map (λ (made : ReleaseBundle). made.row) r.bundles) b ≡ Some row → IsStoredAs plan (AreObjects p plan) files folder b row
  stored b row at =
      let from = from_map (λ (made : ReleaseBundle). made.row) r.bundles b row at in
      let made = is.rows.each b from.0 from.1 in
      subst (IsStoredAs plan (AreObjects p plan) files folder b) from.2 (record {
        bundle = made.bundle;
        at = made.at;
        objects = made.is.objects;
        are = made.is.are;
        file = from.0.file;
        just = holds-just p plan b from.0.file made.is;
        there = found-file files folder from.0.row.key from.0.file from.0.remote (bundle-there b from.0 from.1) (near b from.0 from.1);
        size = made.told.size;
        digest = ap (λ (d : Digest). d.0) made.told.digest;
        name = made.told.name;
      })

  pub stands-so : Stands p plan files folder catalogue
  unfolding rows_of
  stands-so = record {
    bytes = r.catalogue;
    there = catalogue-there;
    alike = is.alike;
    as_many = length-map r.bundles (λ (made : ReleaseBundle). made.row) ∙ is.rows.as_many;
    stored = stored;
    entries = zip-unmap (IsEntryRow p plan) (written catalogue.locator) p.entries catalogue.locator.assets
        (subst (λ (rows : List PlainAsset). AllZip (IsEntryRow p plan) p.entries rows) (sym (written_back (map (λ (made : ReleaseBundle). made.row) r.bundles) r.assets)) is.rows.entries);
  }

  -- the state is there, and read
  pub held-as : IsHeldAs files folder is.alike.0 r.state
  held-as = record {
    bytes = r.catalogue;
    there = catalogue-there;
    read = is.alike.1;
    kept = r.state_bytes;
    kept_there = ap (λ d. file_at (state_path folder d) files) is.alike.3 ∙ state-there;
    kept_read = is.again;
    digest = subst (HasDigest r.state_bytes) (sym is.alike.3) refl;
  }

  pub held-so : IsHeld files folder
  held-so = (is.alike.0, r.state, held-as)

-- ---- the laws

-- once the catalogue is put
module _ (p : Project) (plan : Plan) (kept : IsKept p) (placed : IsPlaced p plan) (r : Release) (folder : List ℕ) (files : List MemFile)
    (is : IsReleaseOf p r) (free : NoneTaken files folder r) (there : AreThere (listed_puts folder r) files) where
  own : IsReleaseIn p plan r
  own = subst (λ (q : Plan). IsReleaseIn p q r) (one_placement p is.0 plan is.1 placed) is.2

  stands : Stands p plan files folder (catalogue_of r.bundles r.assets (Some (digest_from r.state_bytes)))
  stands = stands-so p plan r placed own folder files free there

  pub listed-shows : NamesApart plan → (key : List ℕ) (shown : List Row) → Resolve files folder key shown ↔ Shown p key shown
  listed-shows apart = built-shows p plan kept (shared p plan placed) apart files folder (catalogue_of r.bundles r.assets (Some (digest_from r.state_bytes))) stands

  pub listed-sound : NamesApart plan → HasSoundRelease files folder
  listed-sound apart = built-sound p plan kept (shared p plan placed) apart files folder (catalogue_of r.bundles r.assets (Some (digest_from r.state_bytes))) stands

  pub listed-held : IsHeld files folder
  listed-held = held-so p plan r placed own folder files free there

-- after all puts
module _ (p : Project) (plan : Plan) (kept : IsKept p) (placed : IsPlaced p plan) (r : Release) (folder : List ℕ) (old new : List MemFile)
    (is : IsReleaseOf p r) (none : NoneTaken old folder r) (after : IsAfter (puts_of folder r) old new) where
  named : AreNamed r.bundles
  named = are-named p r is

  pub free-after : NoneTaken new folder r
  free-after = none-after folder r named (puts_of folder r) old new (λ f here. here) none after

  pub there-after : AreThere (listed_puts folder r) new
  there-after = listed-there folder r named (length (puts_of folder r)) old new
      (let long = length-append (content_puts folder r) (catalogue_put folder r.catalogue ∷ hash_put folder r.catalogue ∷ []) in omega (arith, long))
      (subst (λ ps. IsAfter ps old new) (sym (take-length (puts_of folder r))) after)

  pub release-shows : NamesApart plan → (key : List ℕ) (shown : List Row) → Resolve new folder key shown ↔ Shown p key shown
  release-shows = listed-shows p plan kept placed r folder new is free-after there-after

  pub release-sound : NamesApart plan → HasSoundRelease new folder
  release-sound = listed-sound p plan kept placed r folder new is free-after there-after

  pub release-held : IsHeld new folder
  release-held = listed-held p plan kept placed r folder new is free-after there-after

-- a second build has the same release, which is there
pub release-again : (p : Project) → IsKept p → (r s : Release) (folder : List ℕ) (old new : List MemFile) → IsReleaseOf p r → IsReleaseOf p s → NoneTaken old folder r → IsAfter (puts_of folder r) old new
    → NoneTaken new folder s × AreThere (puts_of folder s) new
release-again p kept r s folder old new is was none after =
    let named = are-named p r is in
    subst (λ (t : Release). NoneTaken new folder t × AreThere (puts_of folder t) new) (one-release p kept r s is was)
    (none-after folder r named (puts_of folder r) old new (λ f here. here) none after, after-there (puts_of folder r) old new (once-agree (puts_of folder r) (release-once folder r named)) after)

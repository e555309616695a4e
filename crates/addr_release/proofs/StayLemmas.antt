-- What stays while a release is put: files that were there, and what keys resolve to until the catalogue is put.
use Rattle.std.proofs.Common.{◌≡◌, ◌+◌, ◌<◌, ◌≤◌, ℕ, Bool, true, false, List, [], ◌∷◌, ◌++◌, length, map, Option, Some, None, refl, sym, ap, subst, ◌∙◌, ◌⊎◌, inl, inr, arith}
use Rattle.std.proofs.lemmas.List.Elements.{Contains-append_left, Contains-append_right}
use Rattle.std.proofs.lemmas.Option.{slice_get_within}
use Rattle.std.specs.List.{AllZip, Contains, slice_get}
use Rattle.std.specs.Option.{option_or}
use Rattle.addr_base.specs.Files.{file_at}
use Rattle.addr_base.specs.declared.files.MemFile.{MemFile}
use Rattle.addr_base.specs.declared.ids.Digest.{Digest}
use Rattle.addr_layout.proofs.RankLemmas.{same-some}
use Rattle.addr_locate.specs.declared.rows.BundleRow.{BundleRow}
use Rattle.addr_project.proofs.OnceLemmas.{from_map, to_map}
use Rattle.addr_project.specs.Reach.{Row}
use Rattle.addr_walks.proofs.Lists.{Contains-here, Contains-slice_get, slice_get-Contains}
use Rattle.addr_release.specs.Built.{Release, ReleaseBundle}
use Rattle.addr_release.specs.Laws.{AreNamed}
use Rattle.addr_release.specs.Names.{bundle_file, catalogue_path, digest_from, side_path, state_path}
use Rattle.addr_release.specs.Opened.{Opened}
use Rattle.addr_release.specs.Puts.{AreUntaken, IsAfter, NoneTaken, Test, all_bundle_tests, bundle_put, content_puts, is_taken, puts_of, state_put, tests_of}
use Rattle.addr_release.specs.Resolve.{IsOpened, Resolve}
use Rattle.addr_release.proofs.NameLemmas.{content-cases, name_of, path-same, release-once, side-same, state-apart}
use Rattle.addr_release.proofs.PutLemmas.{after-either}
use Rattle.addr_release.proofs.TestLemmas.{last, none-find, other-free, put-of-test, side_test, test-cases, tests-here}

-- ---- puts that find no other bytes

abbrev pub IsFreeAt : List MemFile → List ℕ → List ℕ → Type 0
IsFreeAt files name bytes = (file_at name files ≡ None) ⊎ (file_at name files ≡ Some bytes)

-- a bundle's put finds none on both sides, a state's none under its name
abbrev pub FindsFree : List ℕ → List MemFile → MemFile → Type 0
FindsFree folder old f = ((made : ReleaseBundle) × (bundle_put folder made ≡ f) × ((side : Bool) → IsFreeAt old (side_path folder side made.row.key) made.file))
    ⊎ ((digest : Digest) × (f.name ≡ state_path folder (Some digest)) × IsFreeAt old f.name f.bytes)

finds-free : (folder : List ℕ) (old : List MemFile) (f : MemFile) → FindsFree folder old f → IsFreeAt old f.name f.bytes
finds-free folder old f (inl (made, is, sides)) = subst (λ (g : MemFile). IsFreeAt old g.name g.bytes) is (sides made.remote)
finds-free folder old f (inr (digest, named, free)) = free

-- ---- what the tests of a put say

-- a bundle's put whose names aren't taken
pub untaken-bundle : (folder : List ℕ) (bundles : List ReleaseBundle) (files : List MemFile) (k n : ℕ) (f : MemFile) → AreUntaken files folder k (all_bundle_tests bundles)
    → n < k → slice_get (map (bundle_put folder) bundles) n ≡ Some f → FindsFree folder files f
untaken-bundle folder bundles files k n f untaken few here =
    let (made, at, is) = from_map (bundle_put folder) bundles n f here in
    let number : 0 + n < k = omega (arith, few) in
    inl (made, is, λ side. other-free made.file (file_at (side_path folder side made.row.key) files) (untaken (side_test (0 + n) made side) (tests-here 0 bundles n made side at) number))

module _ (folder : List ℕ) (r : Release) (are : AreNamed r.bundles) (files : List MemFile) (k : ℕ) (untaken : AreUntaken files folder k (tests_of r)) where
  -- a put of a release that is content
  pub untaken-content : (n : ℕ) (f : MemFile) → n < k → slice_get (puts_of folder r) n ≡ Some f → Contains (content_puts folder r) f → FindsFree folder files f
  untaken-content n f few here content = by_case (content-cases folder r are f content)
    where
      within : Contains (puts_of folder r) f
      within = Contains-slice_get (puts_of folder r) n f here

      number : (t : Test) → slice_get (puts_of folder r) t.number ≡ Some f → n ≡ t.number
      number t at = release-once folder r are n t.number f.name (to_map name_of (puts_of folder r) n f here) (to_map name_of (puts_of folder r) t.number f at)

      by_case : ((made : ReleaseBundle) × Contains r.bundles made × (bundle_put folder made ≡ f)) ⊎ (state_put folder r.state_bytes ≡ f) → FindsFree folder files f
      by_case (inl (made, inside, is)) =
          let (i, at) = slice_get-Contains r.bundles made inside in
          let own = side_test (0 + i) made made.remote in
          let place = put-of-test folder r are own (inl (i, made, made.remote, at, refl)) f within (sym (ap name_of is)) in
          let same : n ≡ 0 + i = number own place.1 in
          let less : 0 + i < k = omega (arith, few, same) in
          inl (
            made,
            is,
            λ side. other-free made.file (file_at (side_path folder side made.row.key) files)
                (untaken (side_test (0 + i) made side) (Contains-append_left (all_bundle_tests r.bundles) (last folder r ∷ []) (side_test (0 + i) made side) (tests-here 0 r.bundles i made side at)) less),
          )
      by_case (inr is) =
          let place = put-of-test folder r are (last folder r) (inr refl) f within (sym (ap name_of is)) in
          let same : n ≡ length r.bundles = number (last folder r) place.1 in
          let less : length r.bundles < k = omega (arith, few, same) in
          inr (
            digest_from r.state_bytes,
            sym (ap name_of is),
            subst (λ (g : MemFile). IsFreeAt files g.name g.bytes) is
                (other-free r.state_bytes (file_at (state_path folder (Some (digest_from r.state_bytes))) files)
                (untaken (last folder r) (Contains-append_right (all_bundle_tests r.bundles) (last folder r ∷ []) (last folder r) (Contains-here (last folder r) [])) less)),
          )

  -- where the put behind the content was reached, no name is taken
  pub untaken-whole : length r.bundles < k → NoneTaken files folder r
  untaken-whole past = none-find (is_taken files folder) (tests_of r) (λ t here. untaken t here (early t (test-cases folder r t here)))
    where
      early : (t : Test) → ((i : ℕ) × (made : ReleaseBundle) × (side : Bool) × (slice_get r.bundles i ≡ Some made) × (side_test (0 + i) made side ≡ t)) ⊎ (last folder r ≡ t) → t.number < k
      early t (inl (i, made, side, at, is)) =
          let number : 0 + i ≡ t.number = ap (λ (u : Test). u.number) is in
          let within = slice_get_within r.bundles i made at in
          omega (arith, number, within, past)
      early t (inr is) =
          let number : length r.bundles ≡ t.number = ap (λ (u : Test). u.number) is in
          omega (arith, number, past)

-- ---- what stays

module _ (folder : List ℕ) (puts old new : List MemFile) (free : (f : MemFile) → Contains puts f → FindsFree folder old f) (after : IsAfter puts old new) where
  -- a file that is there
  pub content-stays : (name bytes : List ℕ) → file_at name old ≡ Some bytes → file_at name new ≡ Some bytes
  content-stays name bytes there = by_put (after-either puts old new after name)
    where
      by_free : (f : MemFile) → f.name ≡ name → IsFreeAt old f.name f.bytes → f.bytes ≡ bytes
      by_free f named (inl none) = absurd (let at : file_at name old ≡ None = ap (λ n. file_at n old) (sym named) ∙ none in cc (sym there ∙ at))
      by_free f named (inr some) = same-some f.bytes bytes (sym some ∙ (ap (λ n. file_at n old) named ∙ there))

      by_put : (file_at name new ≡ file_at name old) ⊎ ((f : MemFile) × Contains puts f × (f.name ≡ name) × (file_at name new ≡ Some f.bytes)) → file_at name new ≡ Some bytes
      by_put (inl same) = same ∙ there
      by_put (inr (f, here, named, at)) = at ∙ ap Some (by_free f named (finds-free folder old f (free f here)))

  -- a bundle's file that is found, on whichever side
  pub content-finds : (key bytes : List ℕ) → bundle_file old folder key ≡ Some bytes → bundle_file new folder key ≡ Some bytes
  content-finds key bytes found = by_near (file_at (side_path folder false key) old) refl
    where
      near : List ℕ
      near = side_path folder false key

      far : List ℕ
      far = side_path folder true key

      -- a put on the local side of a file that was found on the remote one has its bytes
      by_put : file_at far old ≡ Some bytes → (f : MemFile) → f.name ≡ near → FindsFree folder old f → f.bytes ≡ bytes
      by_put there f named (inl (made, is, sides)) =
          let keys = side-same made.remote false made.row.key key (path-same folder _ _ (ap name_of is ∙ named)) in
          by_free (subst (λ k. IsFreeAt old (side_path folder true k) made.file) keys.1 (sides true))
        where
          by_free : IsFreeAt old far made.file → f.bytes ≡ bytes
          by_free (inl none) = absurd (cc (sym there ∙ none))
          by_free (inr some) = sym (ap (λ (g : MemFile). g.bytes) is) ∙ same-some made.file bytes (sym some ∙ there)
      by_put there f named (inr (digest, state, free)) = absurd (state-apart digest false key (path-same folder _ _ (sym state ∙ named)))

      by_none : file_at far old ≡ Some bytes → file_at near old ≡ None → (file_at near new ≡ file_at near old) ⊎ ((f : MemFile) × Contains puts f × (f.name ≡ near) × (file_at near new ≡ Some f.bytes)) → bundle_file new folder key ≡ Some bytes
      by_none there none (inl same) = ap (λ o. option_or o (file_at far new)) (same ∙ none) ∙ content-stays far bytes there
      by_none there none (inr (f, here, named, at)) = ap (λ o. option_or o (file_at far new)) (at ∙ ap Some (by_put there f named (free f here)))

      by_near : (o : Option (List ℕ)) → file_at near old ≡ o → bundle_file new folder key ≡ Some bytes
      by_near (Some first) is =
          let same : Some first ≡ Some bytes = sym (ap (λ o. option_or o (file_at far old)) is) ∙ found in
          ap (λ o. option_or o (file_at far new)) (content-stays near bytes (is ∙ same))
      by_near None is = by_none (sym (ap (λ o. option_or o (file_at far old)) is) ∙ found) is (after-either puts old new after near)

-- ---- keys go on resolving

opened-on : (old new : List MemFile) (folder : List ℕ) → ((key bytes : List ℕ) → bundle_file old folder key ≡ Some bytes → bundle_file new folder key ≡ Some bytes)
    → (rows : List BundleRow) (opened : List Opened) → AllZip (IsOpened old folder) rows opened → AllZip (IsOpened new folder) rows opened
opened-on old new folder finds [] [] each = tt
opened-on old new folder finds [] (o ∷ os) each = absurd each
opened-on old new folder finds (row ∷ rows) [] each = absurd each
opened-on old new folder finds (row ∷ rows) (o ∷ os) ((file, at, holds, named), later) = ((file, finds row.key file at, holds, named), opened-on old new folder finds rows os later)

-- while the catalogue stays, and each bundle's file that is found
pub resolves-on : (folder : List ℕ) (old new : List MemFile) → file_at (catalogue_path folder) new ≡ file_at (catalogue_path folder) old
    → ((key bytes : List ℕ) → bundle_file old folder key ≡ Some bytes → bundle_file new folder key ≡ Some bytes)
    → (key : List ℕ) (shown : List Row) → Resolve old folder key shown → Resolve new folder key shown
resolves-on folder old new same finds key shown (c, opened, is, resolves) = (
  c,
  opened,
  record { bytes = is.bytes; there = same ∙ is.there; read = is.read; bundles = opened-on old new folder finds c.locator.bundles opened is.bundles },
  resolves,
)

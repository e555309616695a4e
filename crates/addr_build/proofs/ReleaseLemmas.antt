-- Putting state, catalogue and hash behind the bundles of a release.
use Rattle.std.proofs.Common.{◌≡◌, ℕ, suc, ◌+◌, List, [], ◌∷◌, ◌++◌, length, map, Some, Result, Ok, Err, refl, sym, ap, subst, ◌∙◌, inl, inr, arith, append_assoc}
use Rattle.std.proofs.lemmas.List.{length-map}
use Rattle.std.proofs.lemmas.List.Elements.{Contains-append_left, Contains-append_right, Contains-push}
use Rattle.std.specs.Prelude.{IfSome}
use Rattle.std.specs.List.{AllZip, Contains}
use Rattle.addr_base.specs.Files.{SameStore, Store, file_at}
use Rattle.addr_base.specs.Ids.{digest_of, hex_of}
use Rattle.addr_base.specs.declared.files.MemFile.{MemFile}
use Rattle.addr_locate.specs.declared.rows.BundleRow.{BundleRow}
use Rattle.addr_pack.specs.declared.bundles.Plan.{Plan}
use Rattle.addr_project.specs.Model.{Project}
use Rattle.addr_release.specs.Built.{IsBundleOf, IsEntryRow, IsReleaseIn, Release}
use Rattle.addr_release.specs.Laws.{AreThere}
use Rattle.addr_release.specs.Names.{catalogue_path, digest_from, hash_path, state_file, state_path}
use Rattle.addr_release.specs.Puts.{Test, all_bundle_tests, bundle_put, catalogue_put, content_puts, hash_put, puts_of, state_put, tests_of}
use Rattle.addr_build.specs.Release.{count_owed}
use Rattle.addr_build.specs.within.Building.{AreLaid, PutsRelease, StopsIn}
use Rattle.addr_build.specs.Endings.{Ends, name_tests}
use Rattle.addr_build.specs.within.Index.{IndexOf}
use Rattle.addr_build.specs.declared.bundles.PutBundles.{PutBundles}
use Rattle.addr_build.specs.declared.error.PutErr.{PutErr}
use Rattle.addr_build.specs.declared.error.PutErr.TheVariants.{NoMemory}
use Rattle.addr_build.specs.declared.release.Summary.{Summary}
use Rattle.addr_build.proofs.EndLemmas.{ends-then, lays-untaken, renumber-name}
use Rattle.addr_build.proofs.KeyLemmas.{state-beside}
use Rattle.addr_build.specs.Putting.{AreListed}
use Rattle.addr_build.proofs.LaidLemmas.{ends-as, none-owed}
use Rattle.addr_build.proofs.PutLemmas.{same-then, told-at}
use Rattle.addr_walks.proofs.Lists.{Contains-here, Contains-later}

zip-lengths : {X Y : Type 0} (R : X → Y → Type 0) (xs : List X) (ys : List Y) → AllZip R xs ys → length xs ≡ length ys
zip-lengths R [] [] each = refl
zip-lengths R [] (y ∷ ys) each = absurd each
zip-lengths R (x ∷ xs) [] each = absurd each
zip-lengths R (x ∷ xs) (y ∷ ys) (here, later) = ap suc (zip-lengths R xs ys later)

abbrev last-puts : List ℕ → List ℕ → List ℕ → List MemFile
last-puts folder state catalogue = state_put folder state ∷ catalogue_put folder catalogue ∷ hash_put folder catalogue ∷ []

abbrev last-tests : ℕ → List ℕ → List Test
last-tests n state = name_tests n (state_file (Some (digest_from state))) state

module _ (p : Project) (plan : Plan) (folder : List ℕ) where
  -- bundles that stopped
  pub stopped-release : (old new : Store) (e : PutErr) → StopsIn (IsBundleOf p plan) folder old new e → PutsRelease p plan folder old new (Err e)
  stopped-release old new e (bundles, each, ends) = (
    map (bundle_put folder) bundles,
    all_bundle_tests bundles,
    inl (bundles, each, refl, refl),
    ends-as PutBundles Summary folder (map (bundle_put folder) bundles) 0 (all_bundle_tests bundles) old new e ends,
  )

  module _ (old mid new : Store) (rows : List BundleRow) (put : ℕ) (laid : AreLaid (IsBundleOf p plan) folder old mid rows put) where
    -- memory was refused behind the bundles
    pub release-memory : PutsRelease p plan folder old mid (Err NoMemory)
    release-memory = (map (bundle_put folder) laid.bundles, all_bundle_tests laid.bundles, inl (laid.bundles, laid.each, refl, refl), lays-untaken folder (map (bundle_put folder) laid.bundles) 0 (all_bundle_tests laid.bundles) old mid laid.lays.some laid.free)

    module _ (r : Release) (bundles : r.bundles ≡ laid.bundles) where
      puts-same : map (bundle_put folder) laid.bundles ++ last-puts folder r.state_bytes r.catalogue ≡ puts_of folder r
      puts-same = ap (λ bs. map (bundle_put folder) bs ++ last-puts folder r.state_bytes r.catalogue) (sym bundles)
          ∙ sym (append_assoc (map (bundle_put folder) r.bundles) (state_put folder r.state_bytes ∷ []) (catalogue_put folder r.catalogue ∷ hash_put folder r.catalogue ∷ []))

      tests-same : all_bundle_tests laid.bundles ++ last-tests (length laid.bundles) r.state_bytes ≡ tests_of r
      tests-same = ap (λ bs. all_bundle_tests bs ++ last-tests (length bs) r.state_bytes) (sym bundles)

      pub release-ends : {T : Type 0} (result : Result T PutErr) → Ends folder (last-puts folder r.state_bytes r.catalogue) 0 (last-tests 0 r.state_bytes) mid new result
          → Ends folder (puts_of folder r) 0 (tests_of r) old new result
      release-ends result ends =
          subst (λ ps. Ends folder ps 0 (tests_of r) old new result) puts-same
          (subst (λ ts. Ends folder (map (bundle_put folder) laid.bundles ++ last-puts folder r.state_bytes r.catalogue) 0 ts old new result) tests-same
          (ends-then folder (map (bundle_put folder) laid.bundles) (last-puts folder r.state_bytes r.catalogue) 0 (length laid.bundles) (all_bundle_tests laid.bundles) (last-tests (length laid.bundles) r.state_bytes) old mid new
          (let e : 0 + length (map (bundle_put folder) laid.bundles) ≡ length (map (bundle_put folder) laid.bundles) = omega arith in e ∙ length-map laid.bundles (bundle_put folder))
          (state-beside folder laid.bundles (length laid.bundles) r.state_bytes) laid.lays laid.free result
          (renumber-name folder (last-puts folder r.state_bytes r.catalogue) 0 (length laid.bundles) (state_file (Some (digest_from r.state_bytes))) r.state_bytes mid new result ends)))

    -- the puts of the whole release
    pub release-put : {T : Type 0} (state catalogue s c : List ℕ) (result : Result T PutErr) → IndexOf p plan laid.bundles state catalogue → s ≡ state → c ≡ catalogue
        → Ends folder (last-puts folder s c) 0 (last-tests 0 s) mid new result
        → (r : Release) × IsReleaseIn p plan r × (r.bundles ≡ laid.bundles) × (s ≡ r.state_bytes) × (c ≡ r.catalogue) × Ends folder (puts_of folder r) 0 (tests_of r) old new result
    release-put state catalogue s c result (r, is, bundles, told, listed) one two ends = (
      r,
      is,
      bundles,
      one ∙ sym told,
      two ∙ sym listed,
      release-ends r bundles result
          (subst (λ x. Ends folder (last-puts folder x r.catalogue) 0 (last-tests 0 x) mid new result) (one ∙ sym told)
          (subst (λ x. Ends folder (last-puts folder s x) 0 (last-tests 0 s) mid new result) (two ∙ sym listed) ends)),
    )

    pub release-stopped : (state catalogue s c : List ℕ) (e : PutErr) → IndexOf p plan laid.bundles state catalogue → s ≡ state → c ≡ catalogue
        → Ends {T = Unit {0}} folder (last-puts folder s c) 0 (last-tests 0 s) mid new (Err e) → PutsRelease p plan folder old new (Err e)
    release-stopped state catalogue s c e index one two ends =
        let (r, is, bundles, state_is, listed_is, whole) = release-put {T = Unit {0}} state catalogue s c (Err e) index one two ends in
        (puts_of folder r, tests_of r, inr (r, is, refl, refl), ends-as (Unit {0}) Summary folder (puts_of folder r) 0 (tests_of r) old new e whole)

    -- where all of the release is there, nothing was put
    release-still : (r : Release) → r.bundles ≡ laid.bundles → (s c : List ℕ) → (put ≡ 0 → SameStore old mid)
        → IfSome mid.files (λ files. (file_at (state_path folder (Some (digest_from s))) files ≡ Some s) × AreListed folder c files → SameStore mid new)
        → s ≡ r.state_bytes → c ≡ r.catalogue → (files : List MemFile) → old.files ≡ Some files → AreThere (puts_of folder r) files → SameStore old new
    release-still r bundles s c still tell state_is listed_is files at there =
        same-then old mid new first (told-at mid.files _ files (first.files ∙ at) tell (state, (catalogue, hash)))
      where
        behind : List MemFile
        behind = catalogue_put folder r.catalogue ∷ hash_put folder r.catalogue ∷ []

        made : List MemFile
        made = map (bundle_put folder) r.bundles

        within : (f : MemFile) → Contains (content_puts folder r) f → file_at f.name files ≡ Some f.bytes
        within f here = there f (Contains-append_left (content_puts folder r) behind f here)

        last : (f : MemFile) → Contains behind f → file_at f.name files ≡ Some f.bytes
        last f here = there f (Contains-append_right (content_puts folder r) behind f here)

        owed : put ≡ 0
        owed = laid.count files at ∙ none-owed files (map (bundle_put folder) laid.bundles) (λ f here. within f (Contains-append_left made (state_put folder r.state_bytes ∷ []) f (subst (λ bs. Contains (map (bundle_put folder) bs) f) (sym bundles) here)))

        first : SameStore old mid
        first = still owed

        state : file_at (state_path folder (Some (digest_from s))) files ≡ Some s
        state = subst (λ x. file_at (state_path folder (Some (digest_from x))) files ≡ Some x) (sym state_is) (within (state_put folder r.state_bytes) (Contains-push made (state_put folder r.state_bytes)))

        catalogue : file_at (catalogue_path folder) files ≡ Some c
        catalogue = subst (λ x. file_at (catalogue_path folder) files ≡ Some x) (sym listed_is) (last (catalogue_put folder r.catalogue) (Contains-here (catalogue_put folder r.catalogue) (hash_put folder r.catalogue ∷ [])))

        hash : file_at (hash_path folder) files ≡ Some (hex_of (digest_of c))
        hash = subst (λ x. file_at (hash_path folder) files ≡ Some (hex_of (digest_of x))) (sym listed_is)
            (last (hash_put folder r.catalogue) (Contains-later (catalogue_put folder r.catalogue) (hash_put folder r.catalogue ∷ []) (hash_put folder r.catalogue) (Contains-here (hash_put folder r.catalogue) [])))

    pub release-done : (state catalogue s c : List ℕ) (done : Unit {0}) (summary : Summary) → IndexOf p plan laid.bundles state catalogue → s ≡ state → c ≡ catalogue
        → Ends {T = Unit {0}} folder (last-puts folder s c) 0 (last-tests 0 s) mid new (Ok done)
        → summary.moved ≡ 0 → summary.bundles ≡ length plan.bundles → summary.put ≡ put → summary.rows ≡ length p.entries
        → (put ≡ 0 → SameStore old mid) → IfSome mid.files (λ files. (file_at (state_path folder (Some (digest_from s))) files ≡ Some s) × AreListed folder c files → SameStore mid new)
        → PutsRelease p plan folder old new (Ok summary)
    release-done state catalogue s c done summary index one two ends moved many owed rows_many still tell =
        let (r, is, bundles, state_is, listed_is, whole) = release-put {T = Unit {0}} state catalogue s c (Ok done) index one two ends in (
          r,
          is,
          whole,
          λ files at. record {
            moved = moved;
            bundles = many ∙ sym is.rows.as_many;
            put = owed ∙ laid.count files at ∙ ap (λ bs. count_owed files (map (bundle_put folder) bs)) (sym bundles);
            rows = rows_many ∙ zip-lengths (IsEntryRow p plan) p.entries r.assets is.rows.entries;
          },
          λ files at there. release-still r bundles s c still tell state_is listed_is files at there,
        )

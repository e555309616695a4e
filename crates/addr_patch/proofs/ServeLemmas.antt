-- What readers find while an update is under way: the old release, or the new one.
use Rattle.std.proofs.Common.{◌≡◌, ◌+◌, ◌<◌, ◌≤◌, ℕ, Bool, true, false, nat_le, List, [], ◌∷◌, ◌++◌, length, map, take, None, refl, sym, ap, subst, ◌∙◌, ◌⊎◌, inl, inr, arith}
use borrow.Author.Tests.{leb-true, leb-false}
use Rattle.std.proofs.lemmas.List.{length-map, take-append-le}
use Rattle.std.specs.List.{Contains, enumerate_from, flat_map}
use Rattle.addr_base.specs.declared.files.MemFile.{MemFile}
use Rattle.addr_pack.specs.declared.bundles.Plan.{Plan}
use Rattle.addr_project.specs.Kept.{IsKept}
use Rattle.addr_release.specs.Built.{ReleaseBundle}
use Rattle.addr_release.specs.Laws.{Keeps}
use Rattle.addr_release.specs.Puts.{AreUntaken, IsAfter, Test, all_bundle_tests, bundle_put, bundle_tests, catalogue_put, hash_put, is_taken}
use Rattle.addr_release.proofs.TestLemmas.{none-find, side_test}
use Rattle.addr_state.specs.Sound.{IsSound}
use Rattle.addr_update.specs.After.{IsBundleAfter, IsReleaseAfter, NoBundleTaken, UpdatedRelease, update_puts}
use Rattle.addr_update.specs.Laws.{IsUpdateOf, LeavesShown}
use Rattle.addr_update.specs.Moved.{Update}
use Rattle.addr_update.specs.Placement.{IsSplit, IsUpdatePlan}
use Rattle.addr_update.specs.declared.model.KeptBundle.{KeptBundle}
use Rattle.addr_update.proofs.HistoryLemmas.{held-after}
use Rattle.addr_update.proofs.PutLemmas.{catalogue-there, intact-after, keeps, made-named}
use Rattle.addr_update.proofs.ShowsLemmas.{leaves-shown}
use Rattle.addr_walks.proofs.Lists.{Contains-cases, Contains-none}
use Rattle.addr_walks.specs.Places.{EachAt}
use Rattle.addr_build.proofs.ServeLemmas.{AfterSome, bundles-keep, bundles-serve}
use Rattle.addr_check.specs.Checking.{IsCompared}
use Rattle.addr_patch.specs.After.{HasNew, NamesDiffer, Serves}
use Rattle.addr_patch.specs.Outcomes.{IsBegunIn}

-- the tests of bundles from the n-th on
abbrev tests-from : ℕ → List ReleaseBundle → List Test
tests-from n bundles = flat_map (λ (numbered : ℕ × ReleaseBundle). bundle_tests numbered.0 numbered.1) (enumerate_from n bundles)

-- each is made for one of their puts
test-below : (n : ℕ) (bundles : List ReleaseBundle) (t : Test) → Contains (tests-from n bundles) t → t.number < n + length bundles
test-below n [] t here = absurd (Contains-none t here)
test-below n (b ∷ bundles) t here = by_local (Contains-cases (side_test n b false) (side_test n b true ∷ tests-from (n + 1) bundles) t here) (λ later. test-below (n + 1) bundles t later)
  where
    own : (side : Bool) → side_test n b side ≡ t → t.number < n + length (b ∷ bundles)
    own side same = let number : n ≡ t.number = ap (λ (s : Test). s.number) same in omega (arith, number)

    by_remote : (side_test n b true ≡ t) ⊎ Contains (tests-from (n + 1) bundles) t → (Contains (tests-from (n + 1) bundles) t → t.number < n + 1 + length bundles) → t.number < n + length (b ∷ bundles)
    by_remote (inl same) more = own true same
    by_remote (inr later) more = let less = more later in omega (arith, less)

    by_local : (side_test n b false ≡ t) ⊎ Contains (side_test n b true ∷ tests-from (n + 1) bundles) t → (Contains (tests-from (n + 1) bundles) t → t.number < n + 1 + length bundles) → t.number < n + length (b ∷ bundles)
    by_local (inl same) more = own false same
    by_local (inr behind) more = by_remote (Contains-cases (side_test n b true) (tests-from (n + 1) bundles) t behind) more

-- the update to a release, of which no name is taken
abbrev pub update-to : (folder : List ℕ) (old : List MemFile) (u : Update) (compared : IsCompared old folder u) → IsSound u.state → (plan : Plan) (kept : List KeptBundle) (moved : List ℕ) → IsSplit u kept moved → IsUpdatePlan u.project u.now kept moved plan
    → (r : UpdatedRelease) → IsReleaseAfter u plan old folder compared.catalogue.state r → NoBundleTaken old folder r → IsUpdateOf u old folder compared.catalogue.state r
update-to folder old u compared sound plan kept moved split updated r is free = record { sound = sound; intact = compared.intact; placed = compared.placed; kept = kept; moved = moved; split = split; plan = plan; updated = updated; is = is; free = free }

module _ (folder : List ℕ) (old : List MemFile) (u : Update) (compared : IsCompared old folder u) (project : IsKept u.project) (sound : IsSound u.state)
    (plan : Plan) (kept : List KeptBundle) (moved : List ℕ) (split : IsSplit u kept moved) (updated : IsUpdatePlan u.project u.now kept moved plan) where
  module _ (files : List MemFile) where
    -- first bundles
    first-holds : (bundles : List ReleaseBundle) → EachAt (IsBundleAfter u plan old folder) bundles → (k : ℕ) → AreUntaken old folder k (all_bundle_tests bundles) → (i : ℕ) → i ≤ k → IsAfter (take i (map (bundle_put folder) bundles)) old files
        → Serves folder old files × Keeps folder old files
    first-holds bundles each k untaken i few after =
        let are = made-named u plan old folder compared.intact updated.rising bundles each in
        (inl (bundles-serve folder old files bundles are k untaken i few after), bundles-keep folder old files bundles are k untaken i few after)

    -- the whole release
    module _ (r : UpdatedRelease) (is : IsReleaseAfter u plan old folder compared.catalogue.state r) (k : ℕ) (untaken : AreUntaken old folder k (all_bundle_tests r.bundles)) (i : ℕ) (few : i ≤ k)
        (after : IsAfter (take i (update_puts folder r)) old files) where
      -- up to the catalogue's put
      early-holds : i ≤ length r.bundles → Serves folder old files × Keeps folder old files
      early-holds early = first-holds r.bundles is.rows.each k untaken i few (subst (λ puts. IsAfter puts old files) front after)
        where
          front : take i (update_puts folder r) ≡ take i (map (bundle_put folder) r.bundles)
          front = take-append-le i (map (bundle_put folder) r.bundles) (catalogue_put folder r.catalogue ∷ hash_put folder r.catalogue ∷ []) (let long = length-map r.bundles (bundle_put folder) in omega (arith, early, long))

      -- from there on
      module _ (late : length r.bundles < i) where
        free : NoBundleTaken old folder r
        free = none-find (is_taken old folder) (all_bundle_tests r.bundles) (λ t here. untaken t here (let below = test-below 0 r.bundles t here in omega (arith, below, late, few)))

        abbrev of : IsUpdateOf u old folder compared.catalogue.state r
        of = update-to folder old u compared sound plan kept moved split updated r is free

        leaves : NamesDiffer old folder → LeavesShown u old files folder
        leaves differ = leaves-shown u project old folder compared.catalogue.state r of (differ u compared plan (kept, moved, split, updated)) files i late after

        late-holds : Serves folder old files × Keeps folder old files
        late-holds = (
          inr (record {
            u = u;
            compared = compared;
            release = r;
            of = of;
            catalogue = catalogue-there u old folder compared.catalogue.state r of files i late after;
            shows = λ differ. (leaves differ).shows;
            sound = λ differ. (leaves differ).sound;
            held = (is.alike.0, held-after u old folder compared.catalogue compared.held r of files i late after);
            intact = intact-after u old folder compared.catalogue.state r of files i late after;
          }),
          keeps u old folder compared.catalogue.state r of files i late after,
        )

      by_place : (t : Bool) → nat_le i (length r.bundles) ≡ t → Serves folder old files × Keeps folder old files
      by_place true at = early-holds (leb-true i (length r.bundles) at)
      by_place false at = late-holds (leb-false i (length r.bundles) at)

      whole-holds : Serves folder old files × Keeps folder old files
      whole-holds = by_place (nat_le i (length r.bundles)) refl

    pub begun-holds : (puts : List MemFile) (tests : List Test) (k : ℕ) → IsBegunIn u plan old folder compared.catalogue.state puts tests → AreUntaken old folder k tests → AfterSome puts k old files → Serves folder old files × Keeps folder old files
    begun-holds puts tests k (inl (bundles, each, same, told)) untaken (i, few, after) = first-holds bundles each k (subst (AreUntaken old folder k) told untaken) i few (subst (λ ps. IsAfter (take i ps) old files) same after)
    begun-holds puts tests k (inr (r, is, same, told)) untaken (i, few, after) = whole-holds r is k (subst (AreUntaken old folder k) told untaken) i few (subst (λ ps. IsAfter (take i ps) old files) same after)

-- Tests for taken names: what they find on the way is what they found before the first put.
use Rattle.std.proofs.Common.{◌≡◌, ℕ, zero, suc, ◌+◌, ◌≤◌, Bool, true, false, cond, not, List, [], ◌∷◌, ◌++◌, length, map, take, Option, Some, None, refl, sym, ap, subst, ◌∙◌, ◌⊎◌, inl, inr, arith}
use Rattle.std.proofs.lemmas.Bool.{false≢true}
use Rattle.std.proofs.lemmas.List.{length-map}
use Rattle.std.proofs.lemmas.List.Elements.{Contains-append_cases, Contains-append_left, Contains-append_right}
use Rattle.std.proofs.lemmas.Slice.Eq.{bytes_eq-Decides}
use Rattle.std.specs.List.{Contains, enumerate_from, find, flat_map, slice_get}
use Rattle.std.specs.Str.{bytes_eq}
use Rattle.addr_base.specs.Files.{file_at}
use Rattle.addr_base.specs.declared.files.MemFile.{MemFile}
use Rattle.addr_layout.proofs.RankLemmas.{same-some}
use Rattle.addr_project.specs.Reading.{path}
use Rattle.addr_project.proofs.OnceLemmas.{to_map}
use Rattle.addr_state.specs.Files.{side_folder}
use Rattle.addr_walks.proofs.Lists.{Contains-here, Contains-later, Contains-cases, Contains-none, Contains-slice_get, map-Contains, slice_get-Contains, slice_get-append_left, slice_get-push_last}
use Rattle.addr_release.specs.Built.{Release, ReleaseBundle}
use Rattle.addr_release.specs.Laws.{AreFree, AreNamed, IsFree, SameFound}
use Rattle.addr_release.specs.Names.{digest_from, side_path, state_file, state_path}
use Rattle.addr_release.specs.Puts.{IsAfter, NoneTaken, Test, all_bundle_tests, are_other, bundle_put, bundle_tests, catalogue_put, content_puts, first_taken, hash_put, is_taken, puts_of, state_put, state_test, tests_of}
use Rattle.addr_release.proofs.NameLemmas.{bundle-apart, content-cases, long-at, name_of, one-key, path-same, release-once, side-same, state-apart, state-beside, take-at}
use Rattle.addr_release.proofs.PutLemmas.{after-either, after-same, take-within}
use Rattle.addr_release.proofs.ContentLemmas.{behind-cases}

-- ---- lists

pub find-none : {X : Type 0} (p : X → Bool) (xs : List X) → find p xs ≡ None → (x : X) → Contains xs x → p x ≡ false
find-none p [] none x here = absurd (Contains-none x here)
find-none p (y ∷ xs) none x here = by_test (p y) refl none (Contains-cases y xs x here) (λ rest later. find-none p xs rest x later)
  where
    by_test : (t : Bool) → p y ≡ t → cond t (Some y) (find p xs) ≡ None → (y ≡ x) ⊎ Contains xs x → (find p xs ≡ None → Contains xs x → p x ≡ false) → p x ≡ false
    by_test true is found either more = absurd (cc found)
    by_test false is rest (inl same) more = ap p (sym same) ∙ is
    by_test false is rest (inr later) more = more rest later

pub none-find : {X : Type 0} (p : X → Bool) (xs : List X) → ((x : X) → Contains xs x → p x ≡ false) → find p xs ≡ None
none-find p [] fails = refl
none-find p (y ∷ xs) fails = ap (λ t. cond t (Some y) (find p xs)) (fails y (Contains-here y xs)) ∙ none-find p xs (λ x here. fails x (Contains-later y xs x here))

-- ---- which tests there are

-- the test of a bundle's put on a side
abbrev pub side_test : ℕ → ReleaseBundle → Bool → Test
side_test n made side = record { number = n; name = side_folder side ++ made.row.key; bytes = made.file }

abbrev pub tests_from : ℕ → List ReleaseBundle → List Test
tests_from n bundles = flat_map (λ (numbered : ℕ × ReleaseBundle). bundle_tests numbered.0 numbered.1) (enumerate_from n bundles)

-- a test is one of these
abbrev pub IsSideTest : ℕ → List ReleaseBundle → Test → Type 0
IsSideTest n bundles t = (i : ℕ) × (made : ReleaseBundle) × (side : Bool) × (slice_get bundles i ≡ Some made) × (side_test (n + i) made side ≡ t)

tests-at : (n : ℕ) (bundles : List ReleaseBundle) (t : Test) → Contains (tests_from n bundles) t → IsSideTest n bundles t
tests-at n [] t here = absurd (Contains-none t here)
tests-at n (b ∷ bundles) t here = by_local (Contains-cases (side_test n b false) (side_test n b true ∷ tests_from (n + 1) bundles) t here) (λ later. tests-at (n + 1) bundles t later)
  where
    by_later : IsSideTest (n + 1) bundles t → IsSideTest n (b ∷ bundles) t
    by_later at =
        let number : n + suc at.0 ≡ (n + 1) + at.0 = omega arith in
        (suc at.0, at.1, at.2, at.3, ap (λ (j : ℕ). side_test j at.1 at.2) number ∙ at.4)

    first : n + 0 ≡ n
    first = omega arith

    by_remote : (side_test n b true ≡ t) ⊎ Contains (tests_from (n + 1) bundles) t → (Contains (tests_from (n + 1) bundles) t → IsSideTest (n + 1) bundles t) → IsSideTest n (b ∷ bundles) t
    by_remote (inl same) more = (0, b, true, refl, ap (λ (j : ℕ). side_test j b true) first ∙ same)
    by_remote (inr later) more = by_later (more later)

    by_local : (side_test n b false ≡ t) ⊎ Contains (side_test n b true ∷ tests_from (n + 1) bundles) t → (Contains (tests_from (n + 1) bundles) t → IsSideTest (n + 1) bundles t) → IsSideTest n (b ∷ bundles) t
    by_local (inl same) more = (0, b, false, refl, ap (λ (j : ℕ). side_test j b false) first ∙ same)
    by_local (inr behind) more = by_remote (Contains-cases (side_test n b true) (tests_from (n + 1) bundles) t behind) more

pub tests-here : (n : ℕ) (bundles : List ReleaseBundle) (i : ℕ) (made : ReleaseBundle) (side : Bool) → slice_get bundles i ≡ Some made → Contains (tests_from n bundles) (side_test (n + i) made side)
tests-here n [] i made side at = absurd (cc at)
tests-here n (b ∷ bundles) zero made side at = subst (λ j. Contains (tests_from n (b ∷ bundles)) (side_test j made side)) first (subst (λ (x : ReleaseBundle). Contains (tests_from n (b ∷ bundles)) (side_test n x side)) (same-some b made at) (by_side side))
  where
    first : n ≡ n + 0
    first = omega arith

    by_side : (s : Bool) → Contains (tests_from n (b ∷ bundles)) (side_test n b s)
    by_side false = Contains-here (side_test n b false) (side_test n b true ∷ tests_from (n + 1) bundles)
    by_side true = Contains-later (side_test n b false) (side_test n b true ∷ tests_from (n + 1) bundles) (side_test n b true) (Contains-here (side_test n b true) (tests_from (n + 1) bundles))
tests-here n (b ∷ bundles) (suc i) made side at =
    let number : (n + 1) + i ≡ n + suc i = omega arith in
    subst (λ j. Contains (tests_from n (b ∷ bundles)) (side_test j made side)) number
    (Contains-append_right (bundle_tests n b) (tests_from (n + 1) bundles) (side_test ((n + 1) + i) made side) (tests-here (n + 1) bundles i made side at))

-- ---- what isn't taken is free

pub other-free : (bytes : List ℕ) (found : Option (List ℕ)) → are_other bytes found ≡ false → (found ≡ None) ⊎ (found ≡ Some bytes)
other-free bytes None is = inl refl
other-free bytes (Some there) is = by_test (bytes_eq there bytes) refl is
  where
    by_test : (t : Bool) → bytes_eq there bytes ≡ t → not t ≡ false → (Some there ≡ None) ⊎ (Some there ≡ Some bytes)
    by_test true same e = inr (ap Some ((bytes_eq-Decides there bytes).0 same))
    by_test false same e = absurd (false≢true (sym e))

same-free : (bytes : List ℕ) (found : Option (List ℕ)) → found ≡ Some bytes → are_other bytes found ≡ false
same-free bytes found is = ap (are_other bytes) is ∙ ap not ((bytes_eq-Decides bytes bytes).1 refl)

abbrev bytes_of : MemFile → List ℕ
bytes_of put = put.bytes

-- where no name of these bundles is taken, each of their files is free
pub bundles-free : (folder : List ℕ) (bundles : List ReleaseBundle) (files : List MemFile) → first_taken files folder (all_bundle_tests bundles) ≡ None → AreFree (map (bundle_put folder) bundles) files
bundles-free folder bundles files none put here =
    let made = map-Contains (bundle_put folder) bundles put here in
    let at = slice_get-Contains bundles made.0 made.1 in
    let test = side_test (0 + at.0) made.0 made.0.remote in
    subst (IsFree files) made.2 (other-free made.0.file (file_at (path folder test.name) files) (find-none (is_taken files folder) (all_bundle_tests bundles) none test (tests-here 0 bundles at.0 made.0 made.0.remote at.1)))

-- and so is each side of their keys
pub bundle-side-free : (folder : List ℕ) (bundles : List ReleaseBundle) (files : List MemFile) → first_taken files folder (all_bundle_tests bundles) ≡ None
    → (i : ℕ) (made : ReleaseBundle) (side : Bool) → slice_get bundles i ≡ Some made
    → (file_at (side_path folder side made.row.key) files ≡ None) ⊎ (file_at (side_path folder side made.row.key) files ≡ Some made.file)
bundle-side-free folder bundles files none i made side at =
    let test = side_test (0 + i) made side in
    other-free made.file (file_at (side_path folder side made.row.key) files) (find-none (is_taken files folder) (all_bundle_tests bundles) none test (tests-here 0 bundles i made side at))

module _ (folder : List ℕ) (r : Release) where
  abbrev pub last : Test
  last = state_test (length r.bundles) r.state_bytes

  -- a test is one of a bundle's, or the state's
  abbrev pub IsOneOf : Test → Type 0
  IsOneOf t = IsSideTest 0 r.bundles t ⊎ (last ≡ t)

  pub test-cases : (t : Test) → Contains (tests_of r) t → IsOneOf t
  test-cases t here = by_case (Contains-append_cases (all_bundle_tests r.bundles) (last ∷ []) t here)
    where
      by_last : (last ≡ t) ⊎ Contains [] t → IsOneOf t
      by_last (inl same) = inr same
      by_last (inr none) = absurd (Contains-none t none)

      by_case : Contains (all_bundle_tests r.bundles) t ⊎ Contains (last ∷ []) t → IsOneOf t
      by_case (inl bundle) = inl (tests-at 0 r.bundles t bundle)
      by_case (inr behind) = by_last (Contains-cases last [] t behind)

  -- where no name is taken, each file of the content is free
  pub none-free : (files : List MemFile) → AreNamed r.bundles → NoneTaken files folder r → AreFree (content_puts folder r) files
  none-free files are none put here = by_case (content-cases folder r are put here)
    where
      by_test : (t : Test) → Contains (tests_of r) t → path folder t.name ≡ put.name → t.bytes ≡ put.bytes → IsFree files put
      by_test t there named bytes = subst (λ b. (file_at put.name files ≡ None) ⊎ (file_at put.name files ≡ Some b)) bytes
          (subst (λ n. (file_at n files ≡ None) ⊎ (file_at n files ≡ Some t.bytes)) named (other-free t.bytes (file_at (path folder t.name) files) (find-none (is_taken files folder) (tests_of r) none t there)))

      by_case : ((made : ReleaseBundle) × Contains r.bundles made × (bundle_put folder made ≡ put)) ⊎ (state_put folder r.state_bytes ≡ put) → IsFree files put
      by_case (inl (made, within, is)) =
          let at = slice_get-Contains r.bundles made within in
          let test = side_test (0 + at.0) made made.remote in
          by_test test (Contains-append_left (all_bundle_tests r.bundles) (last ∷ []) test (tests-here 0 r.bundles at.0 made made.remote at.1)) (ap name_of is) (ap bytes_of is)
      by_case (inr is) = by_test last (Contains-append_right (all_bundle_tests r.bundles) (last ∷ []) last (Contains-here last [])) (ap name_of is) (ap bytes_of is)

  -- and each side of a bundle's key is free
  pub side-free : (files : List MemFile) → NoneTaken files folder r → (i : ℕ) (made : ReleaseBundle) (side : Bool) → slice_get r.bundles i ≡ Some made
      → (file_at (side_path folder side made.row.key) files ≡ None) ⊎ (file_at (side_path folder side made.row.key) files ≡ Some made.file)
  side-free files none i made side at =
      let test = side_test (0 + i) made side in
      other-free made.file (file_at (side_path folder side made.row.key) files)
      (find-none (is_taken files folder) (tests_of r) none test (Contains-append_left (all_bundle_tests r.bundles) (last ∷ []) test (tests-here 0 r.bundles i made side at)))

  module _ (are : AreNamed r.bundles) where
    -- a put with the name of a bundle's test is that bundle's put
    side-put : (f : MemFile) (i : ℕ) (made : ReleaseBundle) (side : Bool) → Contains (puts_of folder r) f → slice_get r.bundles i ≡ Some made → f.name ≡ path folder (side_folder side ++ made.row.key) → bundle_put folder made ≡ f
    side-put f i made side here at named = by_case (behind-cases folder (content_puts folder r) r.catalogue f here)
      where
        long : 40 ≤ length made.row.key
        long = long-at folder r.bundles are made (Contains-slice_get r.bundles i made at)

        by_content : ((other : ReleaseBundle) × Contains r.bundles other × (bundle_put folder other ≡ f)) ⊎ (state_put folder r.state_bytes ≡ f) → bundle_put folder made ≡ f
        by_content (inl (other, within, is)) =
            let place = slice_get-Contains r.bundles other within in
            let keys = side-same other.remote side other.row.key made.row.key (path-same folder (side_folder other.remote ++ other.row.key) (side_folder side ++ made.row.key) (ap name_of is ∙ named)) in
            let number : place.0 ≡ i = one-key folder r.bundles are place.0 i other made place.1 at keys.1 in
            let same : other ≡ made = same-some other made (sym place.1 ∙ (ap (slice_get r.bundles) number ∙ at)) in
            ap (bundle_put folder) (sym same) ∙ is
        by_content (inr is) = absurd (state-apart (digest_from r.state_bytes) side made.row.key (path-same folder (state_file (Some (digest_from r.state_bytes))) (side_folder side ++ made.row.key) (ap name_of is ∙ named)))

        by_case : Contains (content_puts folder r) f ⊎ ((catalogue_put folder r.catalogue ≡ f) ⊎ (hash_put folder r.catalogue ≡ f)) → bundle_put folder made ≡ f
        by_case (inl within) = by_content (content-cases folder r are f within)
        by_case (inr (inl same)) = absurd ((bundle-apart folder side made.row.key long).0 (sym (ap name_of same ∙ named)))
        by_case (inr (inr same)) = absurd ((bundle-apart folder side made.row.key long).1 (sym (ap name_of same ∙ named)))

    -- and one with the state's name is the state's
    last-put : (f : MemFile) → Contains (puts_of folder r) f → f.name ≡ state_path folder (Some (digest_from r.state_bytes)) → state_put folder r.state_bytes ≡ f
    last-put f here named = by_case (behind-cases folder (content_puts folder r) r.catalogue f here)
      where
        by_content : ((other : ReleaseBundle) × Contains r.bundles other × (bundle_put folder other ≡ f)) ⊎ (state_put folder r.state_bytes ≡ f) → state_put folder r.state_bytes ≡ f
        by_content (inl (other, within, is)) = absurd (state-apart (digest_from r.state_bytes) other.remote other.row.key (path-same folder (state_file (Some (digest_from r.state_bytes))) (side_folder other.remote ++ other.row.key) (sym (ap name_of is ∙ named))))
        by_content (inr is) = is

        by_case : Contains (content_puts folder r) f ⊎ ((catalogue_put folder r.catalogue ≡ f) ⊎ (hash_put folder r.catalogue ≡ f)) → state_put folder r.state_bytes ≡ f
        by_case (inl within) = by_content (content-cases folder r are f within)
        by_case (inr (inl same)) = absurd ((state-beside folder (digest_from r.state_bytes)).0 (sym (ap name_of same ∙ named)))
        by_case (inr (inr same)) = absurd ((state-beside folder (digest_from r.state_bytes)).1 (sym (ap name_of same ∙ named)))

    -- a put with the name of a test has its bytes, and stands at its number
    pub put-of-test : (t : Test) → IsOneOf t → (f : MemFile) → Contains (puts_of folder r) f → f.name ≡ path folder t.name → (f.bytes ≡ t.bytes) × (slice_get (puts_of folder r) t.number ≡ Some f)
    put-of-test t (inl (i, made, side, at, is)) f here named =
        let put = side-put f i made side here at (named ∙ ap (λ (u : Test). path folder u.name) (sym is)) in
        let plain : i ≡ 0 + i = omega arith in
        let number : i ≡ t.number = plain ∙ ap (λ (u : Test). u.number) is in
        let place : slice_get (puts_of folder r) i ≡ Some (bundle_put folder made) =
        slice_get-append_left (content_puts folder r) (catalogue_put folder r.catalogue ∷ hash_put folder r.catalogue ∷ []) i (bundle_put folder made)
        (slice_get-append_left (map (bundle_put folder) r.bundles) (state_put folder r.state_bytes ∷ []) i (bundle_put folder made) (to_map (bundle_put folder) r.bundles i made at)) in
        (sym (ap bytes_of put) ∙ ap (λ (u : Test). u.bytes) is, ap (slice_get (puts_of folder r)) (sym number) ∙ (place ∙ ap Some put))
    put-of-test t (inr is) f here named =
        let put = last-put f here (named ∙ ap (λ (u : Test). path folder u.name) (sym is)) in
        let number : length r.bundles ≡ t.number = ap (λ (u : Test). u.number) is in
        let place : slice_get (puts_of folder r) (length r.bundles) ≡ Some (state_put folder r.state_bytes) =
        slice_get-append_left (content_puts folder r) (catalogue_put folder r.catalogue ∷ hash_put folder r.catalogue ∷ []) (length r.bundles) (state_put folder r.state_bytes)
        (ap (slice_get (content_puts folder r)) (sym (length-map r.bundles (bundle_put folder))) ∙ slice_get-push_last (map (bundle_put folder) r.bundles) (state_put folder r.state_bytes)) in
        (sym (ap bytes_of put) ∙ ap (λ (u : Test). u.bytes) is, ap (slice_get (puts_of folder r)) (sym number) ∙ (place ∙ ap Some put))

    -- where no name is taken, none is on the way
    pub none-after : (done old new : List MemFile) → ((f : MemFile) → Contains done f → Contains (puts_of folder r) f) → NoneTaken old folder r → IsAfter done old new → NoneTaken new folder r
    none-after done old new within none after = none-find (is_taken new folder) (tests_of r) each
      where
        each : (t : Test) → Contains (tests_of r) t → is_taken new folder t ≡ false
        each t here = by_put (after-either done old new after (path folder t.name))
          where
            by_put : (file_at (path folder t.name) new ≡ file_at (path folder t.name) old) ⊎ ((f : MemFile) × Contains done f × (f.name ≡ path folder t.name) × (file_at (path folder t.name) new ≡ Some f.bytes)) → is_taken new folder t ≡ false
            by_put (inl same) = ap (are_other t.bytes) same ∙ find-none (is_taken old folder) (tests_of r) none t here
            by_put (inr (f, there, named, at)) = same-free t.bytes (file_at (path folder t.name) new) (at ∙ ap Some (put-of-test t (test-cases t here) f (within f there) named).0)

    pub none-stays : (k : ℕ) (old new : List MemFile) → NoneTaken old folder r → IsAfter (take k (puts_of folder r)) old new → NoneTaken new folder r
    none-stays k old new none after = none-after (take k (puts_of folder r)) old new (λ f here. take-within k (puts_of folder r) f here) none after

    -- what is tested for a later put was not changed by the earlier ones
    pub test-stays : (k : ℕ) (old new : List MemFile) (t : Test) → IsAfter (take k (puts_of folder r)) old new → Contains (tests_of r) t → k ≤ t.number → SameFound folder old new t
    test-stays k old new t after here late = after-same (take k (puts_of folder r)) old new after (path folder t.name) apart
      where
        apart : (f : MemFile) → Contains (take k (puts_of folder r)) f → f.name ≡ path folder t.name → ⊥
        apart f there named =
            let at = take-at k (puts_of folder r) f there in
            let own = put-of-test t (test-cases t here) f (take-within k (puts_of folder r) f there) named in
            let same : at.0 ≡ t.number = release-once folder r are at.0 t.number f.name (to_map name_of (puts_of folder r) at.0 f at.2) (to_map name_of (puts_of folder r) t.number f own.1) in
            omega (arith, same, at.1, late)

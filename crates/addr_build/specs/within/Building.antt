-- Making and putting bundles one after the other, and then the rest of a release.
use Rattle.std.specs.Prelude.{ℕ, ◌≡◌, ◌≤◌, List, length, map, Some, None, Result, Ok, Err}
use Rattle.addr_base.specs.Files.{SameStore, Store}
use Rattle.addr_base.specs.declared.files.MemFile.{MemFile}
use Rattle.addr_locate.specs.declared.rows.BundleRow.{BundleRow}
use Rattle.addr_pack.specs.declared.bundles.Plan.{Plan}
use Rattle.addr_project.specs.Model.{Project}
use Rattle.addr_release.specs.Built.{ReleaseBundle, IsReleaseIn, Release}
use Rattle.addr_release.specs.Laws.{AreThere}
use Rattle.addr_release.specs.Puts.{all_bundle_tests, bundle_put, first_taken, Test, puts_of, tests_of}
use Rattle.addr_walks.specs.Places.{EachAt}
use Rattle.addr_build.specs.Moments.{LaysAll}
use Rattle.addr_build.specs.declared.error.PutErr.{PutErr}
use Rattle.addr_build.specs.declared.bundles.MadeBundle.{MadeBundle}
use Rattle.addr_build.specs.declared.bundles.PutBundles.{PutBundles}
use Rattle.addr_build.specs.declared.release.Summary.{Summary}
use Rattle.addr_build.specs.Release.{IsBegunIn, Sums, count_owed}
use Rattle.addr_build.specs.Endings.{Ends}

-- a bundle that was made, as one of a release
abbrev pub release_bundle : MadeBundle → ReleaseBundle
release_bundle m = record { remote = m.remote; row = m.row; file = m.file }

-- the first bundles of a release were put, and none of their names was taken
pub record AreLaid (is_bundle : ℕ → ReleaseBundle → Type 0) (folder : List ℕ) (old new : Store)
    (rows : List BundleRow) (put : ℕ) : Type 0 where
  pub bundles : List ReleaseBundle
  pub each : EachAt is_bundle bundles
  pub told : rows ≡ map (λ made. made.row) bundles
  pub lays : LaysAll (map (bundle_put folder) bundles) old new
  pub free : (files : List MemFile) → old.files ≡ Some files → first_taken files folder (all_bundle_tests bundles) ≡ None
  pub count : (files : List MemFile) → old.files ≡ Some files → put ≡ count_owed files (map (bundle_put folder) bundles)

-- putting bundles stopped: the last of these was being put, or memory was refused after it
abbrev pub StopsIn : (ℕ → ReleaseBundle → Type 0) → List ℕ → Store → Store → PutErr → Type 0
StopsIn is_bundle folder old new e = (bundles : List ReleaseBundle) × EachAt is_bundle bundles
    × Ends {T = PutBundles} folder (map (bundle_put folder) bundles) 0 (all_bundle_tests bundles) old new (Err e)

-- what putting all n bundles answers and leaves
abbrev pub PutsBundles : (ℕ → ReleaseBundle → Type 0) → ℕ → List ℕ → Store → Store → Result PutBundles PutErr → Type 0
PutsBundles is_bundle n folder old new (Ok laid) =
    AreLaid is_bundle folder old new laid.rows laid.put × (length laid.rows ≡ n) × (laid.put ≤ length laid.rows)
    × (laid.put ≡ 0 → SameStore old new)
PutsBundles is_bundle n folder old new (Err e) = StopsIn is_bundle folder old new e

-- what putting the release answers and leaves
abbrev pub PutsRelease : Project → Plan → List ℕ → Store → Store → Result Summary PutErr → Type 0
PutsRelease p plan folder old new (Ok summary) = (r : Release) × IsReleaseIn p plan r
    × Ends folder (puts_of folder r) 0 (tests_of r) old new (Ok summary)
    × ((files : List MemFile) → old.files ≡ Some files → Sums folder files r summary)
    × ((files : List MemFile) → old.files ≡ Some files → AreThere (puts_of folder r) files → SameStore old new)
PutsRelease p plan folder old new (Err e) = (puts : List MemFile) × (tests : List Test) × IsBegunIn p plan folder puts tests
    × Ends {T = Summary} folder puts 0 tests old new (Err e)

-- Putting the release of a project whole: how far a build has come, and what it ends with.
use Rattle.std.specs.Prelude.{ℕ, ◌≡◌, ◌⊎◌, List, length, map, Some, not, Bool, false, Option, None}
use Rattle.addr_base.specs.Files.{file_at}
use Rattle.addr_base.specs.declared.files.MemFile.{MemFile}
use Rattle.addr_pack.specs.declared.bundles.Plan.{Plan}
use Rattle.addr_project.specs.Model.{Project}
use Rattle.addr_release.specs.Built.{IsBundleOf, IsReleaseIn, Release, ReleaseBundle}
use Rattle.addr_release.specs.Puts.{Test, all_bundle_tests, bundle_put, puts_of, tests_of}
use Rattle.addr_walks.specs.Places.{EachAt}
use Rattle.addr_build.specs.declared.release.Summary.{Summary}
use Rattle.std.specs.List.{count_by}
use Rattle.std.specs.Str.{bytes_eq}

-- bytes that are there
abbrev pub has_bytes : List ℕ → Option (List ℕ) → Bool
has_bytes bytes None = false
has_bytes bytes (Some found) = bytes_eq found bytes

-- how many of these puts are of files that aren't there
abbrev pub count_owed : List MemFile → List MemFile → ℕ
count_owed files puts = count_by (λ put. not (has_bytes put.bytes (file_at put.name files))) puts

-- how far a build has come: it has made the first bundles of the project's release in this placement, or all of the release;
-- the puts of what was made, and the tests of their names
abbrev pub IsBegunIn : Project → Plan → List ℕ → List MemFile → List Test → Type 0
IsBegunIn p plan folder puts tests =
    ((bundles : List ReleaseBundle) × EachAt (IsBundleOf p plan) bundles
    × (puts ≡ map (bundle_put folder) bundles) × (tests ≡ all_bundle_tests bundles))
    ⊎ ((r : Release) × IsReleaseIn p plan r × (puts ≡ puts_of folder r) × (tests ≡ tests_of r))

-- the numbers of a build of this release
pub record Sums (folder : List ℕ) (old : List MemFile) (r : Release) (summary : Summary) : Type 0 where
  pub moved : summary.moved ≡ 0
  pub bundles : summary.bundles ≡ length r.bundles
  pub put : summary.put ≡ count_owed old (map (bundle_put folder) r.bundles)
  pub rows : summary.rows ≡ length r.assets

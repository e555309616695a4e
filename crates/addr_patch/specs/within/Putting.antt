-- Putting the bundles of an update one after the other, and then its catalogue.
use Rattle.std.specs.Prelude.{ℕ, ◌≡◌, ◌≤◌, ◌++◌, length, map, Bool, false, true, List, Option, Some, None, Result, Ok, Err}
use Rattle.std.specs.List.{AllZip, slice_get}
use Rattle.addr_base.specs.Files.{Store, file_at}
use Rattle.addr_base.specs.declared.files.MemFile.{MemFile}
use Rattle.addr_base.specs.declared.ids.Digest.{Digest}
use Rattle.addr_build.specs.Endings.{Ends, IsTakenFirst}
use Rattle.addr_build.specs.Making.{IsKeyed}
use Rattle.addr_build.specs.Release.{count_owed}
use Rattle.addr_build.specs.declared.bundles.PutBundles.{PutBundles}
use Rattle.addr_build.specs.within.Building.{AreLaid, StopsIn}
use Rattle.addr_build.specs.declared.error.PutErr.{PutErr}
use Rattle.addr_build.specs.declared.error.PutErr.TheVariants.{Taken, Fault, NoMemory}
use Rattle.addr_build.specs.declared.release.Summary.{Summary}
use Rattle.addr_catalog.specs.ReadsAlike.{ReadsAlike}
use Rattle.addr_catalog.specs.Written.{catalogue_text}
use Rattle.addr_images.specs.Catalogues.{catalogue_for}
use Rattle.addr_locate.specs.declared.rows.BundleRow.{BundleRow}
use Rattle.addr_locate.specs.declared.rows.PlainAsset.{PlainAsset}
use Rattle.addr_pack.specs.declared.bundles.Plan.{Plan}
use Rattle.addr_project.specs.Reading.{path}
use Rattle.addr_release.specs.Built.{IsEntryRowAs, ReleaseBundle}
use Rattle.addr_release.specs.Puts.{Test, all_bundle_tests, bundle_put, first_taken}
use Rattle.addr_state.specs.Files.{side_file, side_folder}
use Rattle.addr_state.specs.declared.model.State.{State}
use Rattle.addr_state.specs.declared.model.StateBundle.{StateBundle}
use Rattle.addr_update.specs.After.{IsBundleAfter, IsReleaseAfter, NeedsAfter, UpdatedRelease, update_puts}
use Rattle.addr_update.specs.Moved.{Update}
use Rattle.addr_patch.specs.Outcomes.{IsBegunIn}
use Rattle.addr_patch.specs.declared.preparing.Prepared.{Prepared}

-- ---- kept bundles

-- what the test of the name of a file that is there answers: no other bytes have the name on the other side, or they do
abbrev pub TellsKept : List MemFile → List ℕ → List Test → Result (Unit {0}) PutErr → Type 0
TellsKept files folder tests (Ok done) = first_taken files folder tests ≡ None
TellsKept files folder tests (Err (Taken name)) = IsTakenFirst files folder tests 0 name
TellsKept files folder tests (Err Fault) = Unit {0}
TellsKept files folder tests (Err NoMemory) = Unit {0}

-- the refusal of a name on a side, unless it is free
abbrev pub Refuses : Bool → List ℕ → Bool → Result (Unit {0}) PutErr → Type 0
Refuses remote key free (Ok done) = free ≡ true
Refuses remote key free (Err (Taken name)) = (free ≡ false) × (name ≡ side_folder remote ++ key)
Refuses remote key free (Err Fault) = ⊥
Refuses remote key free (Err NoMemory) = Unit {0}

-- a bundle of the state with its row, as it stands: on the side that the state says, with the file that is there
pub record Stands (old : StateBundle) (given : BundleRow) (now : Store) (folder : List ℕ) (b : ℕ) (made : ReleaseBundle) : Type 0 where
  pub row : made.row ≡ given
  pub side : old.file ≡ side_file made.remote old.name old.digest
  pub file : (files : List MemFile) → now.files ≡ Some files → file_at (path folder old.file) files ≡ Some made.file

-- the file of each bundle of the state is there
abbrev pub AreThere : State → List ℕ → List MemFile → Type 0
AreThere s folder files = (m : ℕ) (old : StateBundle) → slice_get s.bundles m ≡ Some old
    → (file : List ℕ) × (file_at (path folder old.file) files ≡ Some file)

-- ---- bundles

-- a bundle that is put: its key is that of its name; and, where files are told, it is one of the update's over these
pub record IsPutBundle (u : Update) (plan : Plan) (folder : List ℕ) (old : Store) (b : ℕ) (made : ReleaseBundle) : Type 0 where
  pub keyed : IsKeyed plan b made.row.key
  pub after : (files : List MemFile) → old.files ≡ Some files → IsBundleAfter u plan files folder b made

-- no earlier moment changed
abbrev pub Grows : Store → Store → Type 0
Grows old new = (passed : List (List MemFile)) × (new.past ≡ old.past ++ passed)

-- what putting all bundles answers and leaves
abbrev pub LaysBundles : Update → Plan → List ℕ → Store → Store → Result PutBundles PutErr → Type 0
LaysBundles u plan folder old new (Ok laid) = AreLaid (IsPutBundle u plan folder old) folder old new laid.rows laid.put
    × (length laid.rows ≡ length plan.bundles) × (laid.put ≤ length laid.rows)
LaysBundles u plan folder old new (Err e) = StopsIn (IsPutBundle u plan folder old) folder old new e

-- ---- the catalogue

-- the bytes of the catalogue over bundle rows: the one text of them and of the entries' rows, which is read as alike rows
pub record IsCatalogueAfter (u : Update) (plan : Plan) (rows : List BundleRow) (named : Option Digest) (bytes : List ℕ) : Type 0 where
  pub assets : List PlainAsset
  pub entries : AllZip (IsEntryRowAs u.project plan (NeedsAfter u plan)) u.project.entries assets
  pub text : bytes ≡ catalogue_text (catalogue_for rows assets named)
  pub alike : ReadsAlike bytes (catalogue_for rows assets named)

-- ---- all of it

-- the release that was put over files that are told, and its numbers
pub record IsPut (u : Update) (made : Prepared) (folder : List ℕ) (named : Option Digest) (files : List MemFile) (r : UpdatedRelease)
    (summary : Summary) : Type 0 where
  pub is : IsReleaseAfter u made.plan files folder named r
  pub bundles : summary.bundles ≡ length r.bundles
  pub put : summary.put ≡ count_owed files (map (bundle_put folder) r.bundles)
  pub rows : summary.rows ≡ length r.assets

-- what putting a prepared update answers and leaves
abbrev pub PutsUpdate : Update → Prepared → List ℕ → Option Digest → Store → Store → Result Summary PutErr → Type 0
PutsUpdate u made folder named old new (Ok summary) = (r : UpdatedRelease)
    × Ends folder (update_puts folder r) 0 (all_bundle_tests r.bundles) old new (Ok summary)
    × (summary.moved ≡ made.moved)
    × ((files : List MemFile) → old.files ≡ Some files → IsPut u made folder named files r summary)
PutsUpdate u made folder named old new (Err e) = (puts : List MemFile) × (tests : List Test)
    × Ends {T = Summary} folder puts 0 tests old new (Err e)
    × ((files : List MemFile) → old.files ≡ Some files → IsBegunIn u made.plan files folder named puts tests)

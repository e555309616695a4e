-- Making a bundle that is written anew, and putting its file.
use Rattle.std.specs.Prelude.{ℕ, ◌≡◌, ◌⊎◌, false, List, [], ◌∷◌, Some, None, Result, Ok, Err}
use Rattle.std.specs.Bool.{MatchBool}
use Rattle.std.specs.List.{slice_get}
use Rattle.addr_base.specs.Files.{SameStore, Store, file_at}
use Rattle.addr_base.specs.Ids.{Are16Bytes}
use Rattle.addr_base.specs.declared.files.MemFile.{MemFile}
use Rattle.addr_base.specs.declared.ids.Digest.{Digest}
use Rattle.addr_images.specs.Sides.{side_at}
use Rattle.addr_pack.specs.declared.bundles.Plan.{Plan}
use Rattle.addr_pack.specs.declared.bundles.PlanBundle.{PlanBundle}
use Rattle.addr_project.specs.Model.{Project}
use Rattle.addr_release.specs.Built.{IsFileOf, IsRowOf, ReleaseBundle}
use Rattle.addr_release.specs.Puts.{bundle_put, bundle_tests}
use Rattle.addr_state.specs.Files.{file_name}
use Rattle.addr_build.specs.Endings.{Ends}
use Rattle.addr_build.specs.declared.bundles.PutBundle.{PutBundle}
use Rattle.addr_build.specs.declared.error.PutErr.{PutErr}
use Rattle.addr_build.specs.declared.error.PutErr.TheVariants.{NoMemory}

-- bundle b as it is written anew: on its side, with its file and the row of that
pub record IsMade (p : Project) (plan : Plan) (b : ℕ) (made : ReleaseBundle) : Type 0 where
  pub bundle : PlanBundle
  pub at : slice_get plan.bundles b ≡ Some bundle
  pub side : made.remote ≡ side_at p bundle.group
  pub is : IsFileOf p plan b made.file
  pub told : IsRowOf p made.remote bundle made.file made.row

-- what putting bundle b answers and leaves, whatever its bundles are
abbrev pub PutsOne : (ℕ → ReleaseBundle → Type 0) → List ℕ → ℕ → Store → Store → Result PutBundle PutErr → Type 0
PutsOne is_bundle folder b old new (Ok one) = (made : ReleaseBundle) × is_bundle b made × (one.row ≡ made.row)
    × Ends folder (bundle_put folder made ∷ []) 0 (bundle_tests 0 made) old new (Ok one)
    × ((files : List MemFile) → old.files ≡ Some files
    → MatchBool one.put (file_at (bundle_put folder made).name files ≡ None)
    (file_at (bundle_put folder made).name files ≡ Some made.file))
    × (one.put ≡ false → SameStore old new)
PutsOne is_bundle folder b old new (Err e) =
    ((made : ReleaseBundle) × is_bundle b made
    × Ends {T = PutBundle} folder (bundle_put folder made ∷ []) 0 (bundle_tests 0 made) old new (Err e))
    ⊎ (SameStore old new × (e ≡ NoMemory))

-- the key of bundle b is that of its name in the placement, with some digest
pub record IsKeyed (plan : Plan) (b : ℕ) (key : List ℕ) : Type 0 where
  pub bundle : PlanBundle
  pub at : slice_get plan.bundles b ≡ Some bundle
  pub digest : Digest
  pub fits : Are16Bytes digest.0
  pub is : key ≡ file_name bundle.name digest

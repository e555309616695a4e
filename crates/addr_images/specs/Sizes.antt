-- How large the files of all bundles are together.
use Rattle.std.specs.Prelude.{ℕ, ◌≡◌, List, length, Some}
use Rattle.std.specs.Bool.{MatchBool}
use Rattle.std.specs.List.{slice_get, sum}
use Rattle.addr_cab.specs.declared.object.ObjectOut.{ObjectOut}
use Rattle.addr_pack.specs.declared.bundles.Plan.{Plan}
use Rattle.addr_pack.specs.declared.bundles.PlanBundle.{PlanBundle}
use Rattle.addr_project.specs.Model.{Project}
use Rattle.addr_release.specs.Built.{file_text}
use Rattle.addr_release.specs.Images.{AreObjects}
use Rattle.addr_walks.specs.Places.{EachAt}

-- the file that is written for a bundle's objects has so many bytes
abbrev pub IsFileSize : Project → Plan → ℕ → PlanBundle → ℕ → Type 0
IsFileSize p plan b bundle n = (objects : List ObjectOut) × AreObjects p plan b objects × (n ≡ length (file_text p bundle objects))

-- the size of a bundle's file; a kept bundle counts none
abbrev pub IsSizeAt : Project → Plan → ℕ → ℕ → Type 0
IsSizeAt p plan b n = (bundle : PlanBundle) × (slice_get plan.bundles b ≡ Some bundle) × MatchBool bundle.kept (n ≡ 0) (IsFileSize p plan b bundle n)

-- the sizes of all bundles' files together
pub record IsBytesCount (p : Project) (plan : Plan) (n : ℕ) : Type 0 where
  pub sizes : List ℕ
  pub as_many : length sizes ≡ length plan.bundles
  pub each : EachAt (IsSizeAt p plan) sizes
  pub total : n ≡ sum sizes

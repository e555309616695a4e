-- The limits of an update, in the order in which they are tested, each with the whole count: names are measured in the project's own
-- placement, and all else in the release that the update would leave. Kept bundles count neither members nor bytes.
use Rattle.std.specs.Prelude.{ℕ, List}
use Rattle.addr_base.specs.declared.files.MemFile.{MemFile}
use Rattle.addr_check.specs.Checking.{HasLongName, IsCompared}
use Rattle.addr_images.specs.Limits.{Fits, Passes}
use Rattle.addr_images.specs.Sizes.{IsBytesCount}
use Rattle.addr_layout.specs.Counts.{IsDepsCountOver, IsMembersCount}
use Rattle.addr_pack.specs.LongNames.{NamesFit}
use Rattle.addr_pack.specs.declared.bundles.Plan.{Plan}
use Rattle.addr_project.specs.declared.limit.Limit.{Limit}
use Rattle.addr_project.specs.declared.limit.Limit.TheVariants as limit
use Rattle.addr_update.specs.After.{NeedsAfter}
use Rattle.addr_update.specs.Moved.{Update}
use Rattle.addr_update.specs.Placement.{IsUpdated}

-- the dependencies of all bundles of an update together
abbrev pub IsDepsCountAfter : Update → Plan → ℕ → Type 0
IsDepsCountAfter u plan n = IsDepsCountOver (NeedsAfter u plan) plan n

-- the update's placement, within all limits
pub record IsWithin (u : Update) (plan : Plan) : Type 0 where
  pub names : NamesFit u.project
  pub updated : IsUpdated u plan
  pub members : Fits (IsMembersCount u.project plan) limit.Members
  pub deps : Fits (IsDepsCountAfter u plan) limit.Deps
  pub bytes : Fits (IsBytesCount u.project plan) limit.BundleBytes

-- the first limit that an update's release passes
abbrev pub ReleasePasses : Update → Plan → Limit → ℕ → Type 0
ReleasePasses u plan limit.Members n = Passes (IsMembersCount u.project plan) limit.Members n
ReleasePasses u plan limit.Deps n = Fits (IsMembersCount u.project plan) limit.Members × Passes (IsDepsCountAfter u plan) limit.Deps n
ReleasePasses u plan limit.BundleBytes n = Fits (IsMembersCount u.project plan) limit.Members × Fits (IsDepsCountAfter u plan) limit.Deps
    × Passes (IsBytesCount u.project plan) limit.BundleBytes n
ReleasePasses u plan _ n = ⊥

-- the first limit that an update of the folder passes
abbrev pub IsTooLarge : List MemFile → List ℕ → Limit → ℕ → Type 0
IsTooLarge files folder limit.BundleName n = HasLongName files folder n
IsTooLarge files folder which n = (u : Update) × IsCompared files folder u × NamesFit u.project
    × (plan : Plan) × IsUpdated u plan × ReleasePasses u plan which n

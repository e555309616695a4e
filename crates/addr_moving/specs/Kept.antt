-- What the bundles are like that an update keeps, whatever stands in them.
use Rattle.std.specs.Prelude.{◌≡◌, List, map, Some, true}
use Rattle.std.specs.List.{Contains, slice_get}
use Rattle.addr_pack.specs.BundleNames.{BeginsWith, beginning}
use Rattle.addr_project.specs.Model.{Project}
use Rattle.addr_project.specs.declared.model.Group.{Group}
use Rattle.addr_walks.specs.Once.{AreOnce}
use Rattle.addr_update.specs.declared.model.KeptBundle.{KeptBundle}

-- a bundle of a fixed group, named as those of this group are
pub record IsOfFixedGroup (p : Project) (k : KeptBundle) : Type 0 where
  pub group : Group
  pub at : slice_get p.groups k.group ≡ Some group
  pub fixed : group.fixed ≡ true
  pub begins : BeginsWith (beginning group) k.name

-- each is of a fixed group, and no two have one name
pub record AreKept (p : Project) (kept : List KeptBundle) : Type 0 where
  pub each : (k : KeptBundle) → Contains kept k → IsOfFixedGroup p k
  pub once : AreOnce (map (λ k. k.name) kept)

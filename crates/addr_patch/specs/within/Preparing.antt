-- What deciding and measuring an update answers.
use Rattle.std.specs.Prelude.{ℕ, ◌≡◌, ◌<◌, ◌^◌, length, List}
use Rattle.std.specs.List.{AllZip}
use Rattle.addr_layout.specs.Layout.{IsLayout}
use Rattle.addr_layout.specs.Members.{IsShared}
use Rattle.addr_pack.specs.Placement.{IsPlaced}
use Rattle.addr_pack.specs.declared.bundles.Plan.{Plan}
use Rattle.addr_update.specs.After.{IsRowOfOld}
use Rattle.addr_update.specs.Moved.{Update}
use Rattle.addr_update.specs.Placement.{IsSplit, IsUpdated, IsUpdatePlan}
use Rattle.addr_update.specs.declared.model.KeptBundle.{KeptBundle}
use Rattle.addr_needs.specs.Needed.{AreNeeds}
use Rattle.addr_needs.specs.Numbers.{AreNumbers}
use Rattle.addr_walks.specs.Rows.{AreBelow}
use Rattle.addr_patch.specs.Limits.{IsWithin, ReleasePasses}
use Rattle.addr_patch.specs.declared.error.UpdateErr.{UpdateErr}
use Rattle.addr_patch.specs.declared.error.UpdateErr.TheVariants.{Project, NoRelease, BadCatalogue, BadRelease, TooLarge, NameTaken, DepotFault, NoMemory}
use Rattle.addr_patch.specs.declared.preparing.Decided.{Decided}
use Rattle.addr_patch.specs.declared.preparing.Needed.{Needed}
use Rattle.addr_patch.specs.declared.preparing.Prepared.{Prepared}

-- the placement of what is kept and what moves; it has few bundles, each entry stands in one of them, and moved entries are counted
pub record IsDecided (u : Update) (d : Decided) : Type 0 where
  pub kept : List KeptBundle
  pub moved : List ℕ
  pub split : IsSplit u kept moved
  pub updated : IsUpdatePlan u.project u.now kept moved d.plan
  pub few : length d.plan.bundles < 2 ^ 31
  pub shared : IsShared u.project d.plan
  pub counted : d.moved ≡ length moved

-- beside each bundle its number in the state, where it is kept, and what it needs
pub record IsNeeded (u : Update) (plan : Plan) (made : Needed) : Type 0 where
  pub olds : AreNumbers u.state plan made.olds
  pub needs : AreNeeds u plan made.needs
  pub below : AreBelow made.needs (length made.needs)

-- an update, decided within all limits
pub record IsPrepared (u : Update) (made : Prepared) : Type 0 where
  pub placed : IsPlaced u.project u.now
  pub kept : List KeptBundle
  pub moved : List ℕ
  pub split : IsSplit u kept moved
  pub updated : IsUpdatePlan u.project u.now kept moved made.plan
  pub within : IsWithin u made.plan
  pub few : length made.plan.bundles < 2 ^ 31
  pub shared : IsShared u.project made.plan
  pub laid : IsLayout u.project made.plan made.layout
  pub olds : AreNumbers u.state made.plan made.olds
  pub needs : AreNeeds u made.plan made.needs
  pub below : AreBelow made.needs (length made.needs)
  pub rows : AllZip IsRowOfOld u.state.bundles made.rows
  pub counted : made.moved ≡ length moved

-- why an update isn't made: the first limit that its release passes
abbrev pub RefusesPreparing : Update → UpdateErr → Type 0
RefusesPreparing u (Project fault) = ⊥
RefusesPreparing u (NoRelease name) = ⊥
RefusesPreparing u (BadCatalogue fault) = ⊥
RefusesPreparing u (BadRelease name why) = ⊥
RefusesPreparing u (TooLarge which n) = (plan : Plan) × IsUpdated u plan × ReleasePasses u plan which n
RefusesPreparing u (NameTaken name) = ⊥
RefusesPreparing u DepotFault = ⊥
RefusesPreparing u NoMemory = Unit {0}

-- What stands in a bundle: the assets of its entries, and copies of all that these lead to through assets that are no entries.
use Rattle.std.specs.Prelude.{ℕ, ◌≡◌, ◌<◌, length, Some}
use Rattle.std.specs.List.{slice_get}
use Rattle.addr_base.specs.declared.ids.Guid.{Guid}
use Rattle.addr_pack.specs.declared.bundles.Plan.{Plan}
use Rattle.addr_pack.specs.Placement.{InBundle}
use Rattle.addr_project.specs.declared.model.Asset.{Asset}
use Rattle.addr_project.specs.declared.model.Entry.{Entry}
use Rattle.addr_project.specs.Model.{Project}
use Rattle.addr_project.specs.Reach.{Refers}
use Rattle.addr_walks.specs.Walks.{Leads}

-- the asset with a number has a GUID
abbrev pub IsNumbered : Project → ℕ → Guid → Type 0
IsNumbered p n g = (asset : Asset) × (slice_get p.assets n ≡ Some asset) × (asset.guid ≡ g)

-- the entry with a number is that of the asset with a GUID
abbrev pub IsEntryOf : Project → ℕ → Guid → Type 0
IsEntryOf p x g = (e : Entry) × (slice_get p.entries x ≡ Some e) × IsNumbered p e.asset g

-- the asset with a GUID is an entry
abbrev pub IsEntry : Project → Guid → Type 0
IsEntry p g = (x : ℕ) × IsEntryOf p x g

-- a bundle has the entry of the asset with a GUID
abbrev pub HasEntry : Project → Plan → ℕ → Guid → Type 0
HasEntry p plan b g = (x : ℕ) × InBundle plan b x × IsEntryOf p x g

-- an asset refers to one that is no entry
abbrev pub RefersWithin : Project → Guid → Guid → Type 0
RefersWithin p x y = Refers p x y × ¬ IsEntry p y

-- an entry of the bundle leads to the asset by references to assets that are no entries, or is it
abbrev pub Member : Project → Plan → ℕ → Guid → Type 0
Member p plan b d = (e : Guid) × HasEntry p plan b e × Leads (RefersWithin p) e d

-- each entry stands in a bundle
abbrev pub EachPlaced : Project → Plan → Type 0
EachPlaced p plan = (x : ℕ) → x < length p.entries → (b : ℕ) × InBundle plan b x

-- each entry stands in exactly one bundle, and nothing else stands in them
pub record IsShared (p : Project) (plan : Plan) : Type 0 where
  pub each : EachPlaced p plan
  pub one : (b c x : ℕ) → InBundle plan b x → InBundle plan c x → b ≡ c
  pub entries : (b x : ℕ) → InBundle plan b x → x < length p.entries

-- Where references lead, and which bundles one bundle needs.
use Rattle.std.specs.Prelude.{ℕ, ◌≡◌, ◌≢◌, ◌⊎◌}
use Rattle.addr_base.specs.declared.ids.Guid.{Guid}
use Rattle.addr_pack.specs.declared.bundles.Plan.{Plan}
use Rattle.addr_project.specs.Model.{Project}
use Rattle.addr_project.specs.Reach.{Refers}
use Rattle.addr_layout.specs.declared.model.RefHome.{RefHome}
use Rattle.addr_layout.specs.declared.model.RefHome.TheVariants.{Own, Bundle}
use Rattle.addr_layout.specs.Members.{HasEntry, IsEntry, Member}

-- a reference to y from bundle b leads to the bundle of the entry y, and stays in b where y is no entry
abbrev pub Home : Project → Plan → ℕ → Guid → ℕ → Type 0
Home p plan b y c = HasEntry p plan c y ⊎ ((¬ IsEntry p y) × (b ≡ c))

-- it is told as the own bundle, or by the number of another one
abbrev pub IsHome : Project → Plan → ℕ → Guid → RefHome → Type 0
IsHome p plan b y Own = Home p plan b y b
IsHome p plan b y (Bundle c) = (b ≢ c) × Home p plan b y c

-- a bundle needs another one: a member of the one refers to an entry of the other
abbrev pub Needs : Project → Plan → ℕ → ℕ → Type 0
Needs p plan b c = (b ≢ c) × (x : Guid) × (y : Guid) × Member p plan b x × Refers p x y × HasEntry p plan c y

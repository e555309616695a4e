-- Names that are too long for a bundle.
use Rattle.std.specs.Prelude.{ℕ, ◌≡◌, ◌<◌, List, length}
use Rattle.addr_project.specs.declared.limit.Limit.TheVariants as limit
use Rattle.addr_project.specs.Limits.{most}
use Rattle.addr_project.specs.Model.{Project}
use Rattle.addr_pack.specs.declared.error.PlanErr.{PlanErr}
use Rattle.addr_pack.specs.declared.error.PlanErr.TheVariants.{NameTooLong, NoMemory}
use Rattle.addr_pack.specs.Naming.{IsNamed}

-- an entry stands in a bundle whose name has this many bytes, which are more than a name may have
abbrev pub HasLongName : Project → ℕ → ℕ → Type 0
HasLongName p x size = (group : ℕ) × (name : List ℕ) × IsNamed p x group name × (size ≡ length name) × (most limit.BundleName < size)

-- no bundle has too long a name
abbrev pub NamesFit : Project → Type 0
NamesFit p = (x size : ℕ) → HasLongName p x size → ⊥

-- the first entry, in the order of the project, that stands in a bundle with too long a name, and how long it is
abbrev pub IsFirstLong : Project → ℕ → ℕ → Type 0
IsFirstLong p x size = HasLongName p x size × ((y other : ℕ) → y < x → HasLongName p y other → ⊥)

-- what a refusal says
abbrev pub Refuses : Project → PlanErr → Type 0
Refuses p (NameTooLong row length) = IsFirstLong p row length
Refuses p NoMemory = Unit {0}

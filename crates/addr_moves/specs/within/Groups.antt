-- The project's fixed groups by name.
use Rattle.std.specs.Prelude.{ℕ, ◌≡◌, List, Option, Some, None, true}
use Rattle.std.specs.List.{slice_get}
use Rattle.addr_project.specs.declared.model.Group.{Group}
use Rattle.addr_project.specs.Model.{Project}
use Rattle.addr_release.specs.Built.{IsFixedName}

-- the number of the fixed group with a name
abbrev pub IsFixedAt : Project → List ℕ → Option ℕ → Type 0
IsFixedAt p name None = IsFixedName p name → ⊥
IsFixedAt p name (Some n) = (g : Group) × (slice_get p.groups n ≡ Some g) × (g.fixed ≡ true) × (g.name ≡ name)

-- Which bundles of the state stay.
use Rattle.std.specs.Prelude.{ℕ, ◌≡◌, List, Option, Some, None, true}
use Rattle.std.specs.List.{Contains, slice_get}
use Rattle.addr_project.specs.declared.model.Group.{Group}
use Rattle.addr_project.specs.Model.{Project}
use Rattle.addr_release.specs.Built.{IsFixedName}
use Rattle.addr_state.specs.declared.model.StateBundle.{StateBundle}

-- a bundle's group is among the state's fixed ones and is the project's fixed group with a number; or it isn't fixed in both
abbrev pub StaysAs : List (List ℕ) → Project → StateBundle → Option ℕ → Type 0
StaysAs fixed p old None = Contains fixed old.group → IsFixedName p old.group → ⊥
StaysAs fixed p old (Some n) = Contains fixed old.group
    × ((g : Group) × (slice_get p.groups n ≡ Some g) × (g.fixed ≡ true) × (g.name ≡ old.group))

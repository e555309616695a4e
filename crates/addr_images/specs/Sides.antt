-- The side of a bundle.
use Rattle.std.specs.Prelude.{ℕ, Bool, true, Option, Some, None}
use Rattle.std.specs.List.{slice_get}
use Rattle.addr_project.specs.declared.model.Group.{Group}
use Rattle.addr_project.specs.Model.{Project}

-- that of its group; remote where there is none
abbrev pub group_side : Option Group → Bool
group_side (Some group) = group.remote
group_side None = true

-- that of the group with a number: past all groups, as for the moved entries of an update, it is remote
abbrev pub side_at : Project → ℕ → Bool
side_at p n = group_side (slice_get p.groups n)

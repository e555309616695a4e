-- The bundles of an update's placement, one kind after the other.
use Rattle.std.specs.Prelude.{ℕ, Bool, false, List, [], ◌∷◌, ◌++◌, map, not, Option, Some, None}
use Rattle.std.specs.List.{filter, slice_get}
use Rattle.addr_pack.specs.declared.bundles.Plan.{Plan}
use Rattle.addr_pack.specs.declared.bundles.PlanBundle.{PlanBundle}
use Rattle.addr_project.specs.Model.{Project}
use Rattle.addr_project.specs.declared.model.Group.{Group}
use Rattle.addr_update.specs.Placement.{kept_bundle, moved_bundle}
use Rattle.addr_update.specs.declared.model.KeptBundle.{KeptBundle}

-- a group is there and isn't fixed
abbrev pub is_free : Option Group → Bool
is_free None = false
is_free (Some g) = not g.fixed

-- a bundle is of a group that isn't fixed
abbrev pub is_unfixed : Project → PlanBundle → Bool
is_unfixed p b = is_free (slice_get p.groups b.group)

-- the bundle of the entries that move, where there are any
abbrev pub moved_bundles : Project → List ℕ → List PlanBundle
moved_bundles p [] = []
moved_bundles p (x ∷ xs) = moved_bundle p (x ∷ xs) ∷ []

-- the project's own of groups that aren't fixed, that of the moved entries, and the kept ones
abbrev pub gathered : Project → Plan → List KeptBundle → List ℕ → List PlanBundle
gathered p now kept moved = (filter (is_unfixed p) now.bundles ++ moved_bundles p moved) ++ map kept_bundle kept

-- The side of a bundle, by cases.
use Rattle.std.proofs.Common.{◌≡◌, ◌<◌, ◌≤◌, ℕ, Bool, true, length, get_or, Some, None, ap, ◌∙◌, ◌⊎◌, inl, inr, arith}
use Rattle.std.proofs.lemmas.Option.{slice_get_cases}
use Rattle.std.specs.List.{slice_get}
use Rattle.addr_project.specs.declared.model.Group.{Group}
use Rattle.addr_project.specs.Model.{Project}
use Rattle.addr_images.specs.Sides.{group_side, side_at}

-- that of the group with the number, or remote where the number is that of groups
pub side-cases : (p : Project) (n : ℕ) (remote : Bool) → n ≤ length p.groups → remote ≡ side_at p n
    → ((group : Group) × (slice_get p.groups n ≡ Some group) × (remote ≡ group.remote)) ⊎ ((n ≡ length p.groups) × (remote ≡ true))
side-cases p n remote most is = by_case (slice_get_cases p.groups n).1
  where
    by_case : ((group : Group) × (n < length p.groups) × (slice_get p.groups n ≡ Some group) × (get_or p.groups n group ≡ group)) ⊎ ((length p.groups ≤ n) × (slice_get p.groups n ≡ None))
        → ((group : Group) × (slice_get p.groups n ≡ Some group) × (remote ≡ group.remote)) ⊎ ((n ≡ length p.groups) × (remote ≡ true))
    by_case (inl (group, within, at, read)) = inl (group, at, is ∙ ap group_side at)
    by_case (inr (past, none)) = inr (omega (arith, past, most), is ∙ ap group_side none)

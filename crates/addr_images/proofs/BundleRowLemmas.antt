-- The rows of bundles as a build makes them, one after another.
use Rattle.std.proofs.Common.{◌≡◌, ◌+◌, ℕ, Bool, List, [], ◌∷◌, ◌++◌, length, Some, refl, sym, ap, subst, ◌∙◌}
use Rattle.std.proofs.lemmas.List.{length_push}
use Rattle.std.specs.List.{slice_get}
use Rattle.addr_locate.specs.declared.rows.BundleRow.{BundleRow}
use Rattle.addr_pack.specs.declared.bundles.Plan.{Plan}
use Rattle.addr_pack.specs.declared.bundles.PlanBundle.{PlanBundle}
use Rattle.addr_project.specs.declared.model.Group.{Group}
use Rattle.addr_project.specs.Model.{Project}
use Rattle.addr_release.specs.Built.{IsFileOf, IsRowOf}
use Rattle.addr_walks.specs.Places.{EachAt}
use Rattle.addr_walks.proofs.Lists.{EachAt-push}
use Rattle.addr_images.specs.States.{IsBundleRow}

-- a bundle's file and row, on the side of its group
pub bundle-row : (p : Project) (plan : Plan) (b : ℕ) (bundle : PlanBundle) (group : Group) (remote : Bool) (file : List ℕ) (row : BundleRow) → slice_get plan.bundles b ≡ Some bundle → slice_get p.groups bundle.group ≡ Some group
    → remote ≡ group.remote → IsFileOf p plan b file → IsRowOf p remote bundle file row → IsBundleRow p plan b row
bundle-row p plan b bundle group remote file row at group_at side is told = (
  record { remote = remote; row = row; file = file },
  record { bundle = bundle; at = at; group = group; group_at = group_at; side = side; is = is; told = subst (λ t. IsRowOf p t bundle file row) side told },
  refl,
)

-- rows of the first bundles, and one more
pub rows-grow : (p : Project) (plan : Plan) (b : ℕ) (row : BundleRow) (old new : List BundleRow) → IsBundleRow p plan b row → length old ≡ b → EachAt (IsBundleRow p plan) old → new ≡ old ++ row ∷ [] → (length new ≡ b + 1) × EachAt (IsBundleRow p plan) new
rows-grow p plan b row old new here long before grown = (
  ap length grown ∙ (length_push old row ∙ ap (λ n. n + 1) long),
  subst (EachAt (IsBundleRow p plan)) (sym grown) (EachAt-push (IsBundleRow p plan) old row before (subst (λ k. IsBundleRow p plan k row) (sym long) here)),
)

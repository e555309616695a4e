-- Beside each entry the bundle in which it stands.
use Rattle.std.specs.Prelude.{ℕ, ◌≡◌, ◌<◌, List, length, map, Option, Some, None, slice_index_or}
use Rattle.addr_pack.specs.Placement.{InBundle}
use Rattle.addr_pack.specs.declared.bundles.Plan.{Plan}
use Rattle.addr_project.specs.Model.{Project}

-- the entries of bundles, a row for each
abbrev pub entry_rows : Plan → List (List ℕ)
entry_rows plan = map (λ bundle. bundle.entries) plan.bundles

-- there is a bundle beside each entry, and the entry stands in it
pub record AreOwnersIn (p : Project) (plan : Plan) (owners : List (Option ℕ)) : Type 0 where
  pub as_many : length owners ≡ length p.entries
  pub each : (x : ℕ) → x < length p.entries → (b : ℕ) × (slice_index_or owners x None ≡ Some b) × InBundle plan b x

-- The placement of a project: one bundle for each class of entries that share one, in byte order of their names.
use Rattle.std.specs.Prelude.{ℕ, ◌≡◌, ◌<◌, ◌↔◌, length, map, false, Some}
use Rattle.std.specs.List.{Contains, slice_get}
use Rattle.std.specs.List.Sorted.{IsStrictlySortedBy}
use Rattle.std.specs.Ordering.{nat_cmp}
use Rattle.std.specs.Cmp.Lexicographic.{slice_cmp}
use Rattle.addr_project.specs.Model.{Project}
use Rattle.addr_pack.specs.declared.bundles.Plan.{Plan}
use Rattle.addr_pack.specs.declared.bundles.PlanBundle.{PlanBundle}
use Rattle.addr_pack.specs.SameBundle.{Same}
use Rattle.addr_pack.specs.Naming.{IsNamed}

-- bundle b has the entry with the number x
abbrev pub InBundle : Plan → ℕ → ℕ → Type 0
InBundle plan b x = (bundle : PlanBundle) × (slice_get plan.bundles b ≡ Some bundle) × Contains bundle.entries x

-- a bundle of a full build has entries, ascending, and the group and name that each of them gives it
pub record IsClass (p : Project) (bundle : PlanBundle) : Type 0 where
  pub filled : (x : ℕ) × Contains bundle.entries x
  pub ascending : IsStrictlySortedBy nat_cmp bundle.entries
  pub named : (x : ℕ) → Contains bundle.entries x → IsNamed p x bundle.group bundle.name
  pub new : bundle.kept ≡ false

-- each entry stands in a bundle, two of them in one exactly where they are the same or share it, and the bundles stand in
-- byte order of different names
pub record IsPlaced (p : Project) (plan : Plan) : Type 0 where
  pub classes : (b : ℕ) (bundle : PlanBundle) → slice_get plan.bundles b ≡ Some bundle → IsClass p bundle
  pub each : (x : ℕ) → x < length p.entries → (b : ℕ) × InBundle plan b x
  pub same : (b c x y : ℕ) → InBundle plan b x → InBundle plan c y → (b ≡ c) ↔ Same p x y
  pub by_name : IsStrictlySortedBy (slice_cmp nat_cmp) (map (λ bundle. bundle.name) plan.bundles)

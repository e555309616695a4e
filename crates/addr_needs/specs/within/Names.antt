-- What a map of internal names says.
use Rattle.std.specs.Prelude.{ℕ, ◌≡◌, ◌<◌, ◌↔◌, ◌⊎◌, List, [], Some}
use Rattle.std.specs.BTreeMap.{BTreeMap, get}
use Rattle.std.specs.Cmp.Lexicographic.{slice_cmp}
use Rattle.std.specs.List.{Contains, slice_get}
use Rattle.std.specs.Option.{unwrap_or}
use Rattle.std.specs.Ordering.{nat_cmp}
use Rattle.std.specs.declared.cmp.Ordering.{Ordering}
use Rattle.addr_base.specs.Ids.{digest_of}
use Rattle.addr_base.specs.declared.ids.Digest.{Digest}
use Rattle.addr_pack.specs.declared.bundles.Plan.{Plan}
use Rattle.addr_pack.specs.declared.bundles.PlanBundle.{PlanBundle}

abbrev pub digest_cmp : Digest → Digest → Ordering
digest_cmp x y = slice_cmp nat_cmp x.0 y.0

-- the numbers under a name
abbrev pub numbers_under : BTreeMap Digest (List ℕ) → Digest → List ℕ
numbers_under names name = unwrap_or (get digest_cmp names name) []

-- one more number stands under a name
abbrev pub AddsNumber : (Digest → List ℕ) → Digest → ℕ → (Digest → List ℕ) → Type 0
AddsNumber old name b new = (other : Digest) (c : ℕ) → Contains (new other) c ↔ (Contains (old other) c ⊎ ((name ≡ other) × (b ≡ c)))

-- the bundle with a number has an internal name
abbrev pub HasName : Plan → Digest → ℕ → Type 0
HasName plan name c = (bundle : PlanBundle) × (slice_get plan.bundles c ≡ Some bundle) × (name.0 ≡ digest_of bundle.name)

-- under each name stand the numbers of the bundles below a bound that have it
abbrev pub AreNames : Plan → ℕ → (Digest → List ℕ) → Type 0
AreNames plan k find = (name : Digest) (c : ℕ) → Contains (find name) c ↔ ((c < k) × HasName plan name c)

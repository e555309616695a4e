-- The internal names of the project's own bundles in groups that aren't fixed, by the GUIDs of their entries.
use Rattle.std.specs.Prelude.{ℕ, ◌≡◌, ◌<◌, ◌⊎◌, Bool, true, false, List, Option, Some, None}
use Rattle.std.specs.Borrow.{Bor}
use Rattle.std.specs.BTreeMap.{BTreeMap, get_by}
use Rattle.std.specs.Cmp.Lexicographic.{slice_cmp}
use Rattle.std.specs.List.{Contains, slice_get}
use Rattle.std.specs.Ordering.{nat_cmp}
use Rattle.addr_base.specs.declared.ids.Digest.{Digest}
use Rattle.addr_base.specs.declared.ids.Guid.{Guid}
use Rattle.addr_layout.specs.Members.{IsEntryOf}
use Rattle.addr_pack.specs.declared.bundles.Plan.{Plan}
use Rattle.addr_pack.specs.declared.bundles.PlanBundle.{PlanBundle}
use Rattle.addr_project.specs.Model.{Project}
use Rattle.addr_release.specs.Names.{digest_from}
use Rattle.addr_update.specs.Moved.{IsUnfixed}

-- the name that a map has under a text
abbrev pub name_under : BTreeMap (Bor (List ℕ)) Digest → List ℕ → Option Digest
name_under names text = get_by (λ key. slice_cmp nat_cmp text key.now) names

-- whether a group isn't fixed
abbrev pub IsFree : Project → ℕ → Bool → Type 0
IsFree p n true = IsUnfixed p n
IsFree p n false = IsUnfixed p n → ⊥

-- one of some entries is that of an asset
abbrev pub HasOne : Project → List ℕ → Guid → Type 0
HasOne p entries a = (x : ℕ) × Contains entries x × IsEntryOf p x a

-- the GUIDs of some entries have a name, and all others the one that they had
abbrev pub AddsNames : Project → (List ℕ → Option Digest) → List ℕ → Digest → (List ℕ → Option Digest) → Type 0
AddsNames p old entries name new = (a : Guid) → (HasOne p entries a × (new a.0 ≡ Some name))
    ⊎ ((HasOne p entries a → ⊥) × (new a.0 ≡ old a.0))

-- so those of a bundle whose group isn't fixed
abbrev pub AddsFree : Project → (List ℕ → Option Digest) → PlanBundle → (List ℕ → Option Digest) → Type 0
AddsFree p old bundle new = (IsUnfixed p bundle.group × AddsNames p old bundle.entries (digest_from bundle.name) new)
    ⊎ ((IsUnfixed p bundle.group → ⊥) × ((a : Guid) → new a.0 ≡ old a.0))

-- a bundle of the placement below a bound has the entry, and its group isn't fixed
abbrev pub HasFree : Project → Plan → ℕ → Guid → ℕ → PlanBundle → Type 0
HasFree p now k a c bundle = (c < k) × (slice_get now.bundles c ≡ Some bundle)
    × IsUnfixed p bundle.group × HasOne p bundle.entries a

-- the name of such a bundle, if there is one
abbrev pub IsAnewAt : Project → Plan → ℕ → Guid → Option Digest → Type 0
IsAnewAt p now k a None = (c : ℕ) (bundle : PlanBundle) → HasFree p now k a c bundle → ⊥
IsAnewAt p now k a (Some name) = (c : ℕ) × (bundle : PlanBundle) × HasFree p now k a c bundle × (name ≡ digest_from bundle.name)

abbrev pub AreAnew : Project → Plan → ℕ → (List ℕ → Option Digest) → Type 0
AreAnew p now k find = (a : Guid) → IsAnewAt p now k a (find a.0)

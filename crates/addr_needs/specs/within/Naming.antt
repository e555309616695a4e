-- Which bundles of a placement references name, and rows of these.
use Rattle.std.specs.Prelude.{ℕ, ◌≡◌, ◌≢◌, ◌↔◌, ◌⊎◌, Bool, List, length, Option, Some}
use Rattle.std.specs.Bool.{MatchBool}
use Rattle.std.specs.List.{Contains, slice_get}
use Rattle.std.specs.Ordering.{nat_cmp}
use Rattle.addr_base.specs.Ids.{digest_of, hex_of}
use Rattle.addr_base.specs.declared.ids.Digest.{Digest}
use Rattle.addr_base.specs.declared.images.Home.{Home}
use Rattle.addr_base.specs.declared.images.Home.TheVariants.{Other}
use Rattle.addr_cab.specs.Lookup.{Held}
use Rattle.addr_cab.specs.declared.object.ObjectRow.{ObjectRow}
use Rattle.addr_layout.specs.declared.model.Layout.{Layout}
use Rattle.addr_layout.specs.Direct.{direct_lists}
use Rattle.addr_pack.specs.declared.bundles.Plan.{Plan}
use Rattle.addr_pack.specs.declared.bundles.PlanBundle.{PlanBundle}
use Rattle.addr_walks.specs.Walks.{IsListOf}

-- a list holds what it held, and a set
abbrev pub AddsSet : List ℕ → (ℕ → Type 0) → List ℕ → Type 0
AddsSet old set new = (c : ℕ) → Contains new c ↔ (Contains old c ⊎ set c)

-- what one of some things gives
abbrev pub AnyOf : {X : Type 0} → List X → (X → ℕ → Type 0) → ℕ → Type 0
AnyOf {X} xs gives c = (x : X) × Contains xs x × gives x c

-- a home names another bundle of the placement
abbrev pub NamesOther : Plan → ℕ → Home → ℕ → Type 0
NamesOther plan b home c = (b ≢ c) × (name : Digest) × (home ≡ Other name)
    × (bundle : PlanBundle) × (slice_get plan.bundles c ≡ Some bundle) × (hex_of name.0 ≡ hex_of (digest_of bundle.name))

-- a reference of some objects does
abbrev pub ObjectNames : Plan → ℕ → List ObjectRow → ℕ → Type 0
ObjectNames plan b objects = AnyOf objects (λ o. AnyOf o.refs (λ r. NamesOther plan b r.home))

-- a reference in the file of the state's bundle with a number does
abbrev pub FileNames : Plan → List Held → Option ℕ → ℕ → ℕ → Type 0
FileNames plan cabs number b c = (m : ℕ) × (number ≡ Some m) × (held : Held) × (slice_get cabs m ≡ Some held) × ObjectNames plan b held.rows c

-- the row of a bundle: of a kept one what its file names, and of a new one its direct list
abbrev pub IsRowAt : Plan → Layout → List Held → Option ℕ → ℕ → Bool → List ℕ → Type 0
IsRowAt plan layout cabs number b kept row = MatchBool kept (IsListOf nat_cmp (FileNames plan cabs number b) row) (slice_get (direct_lists layout) b ≡ Some row)

-- so the first rows
pub record AreRowsAt (plan : Plan) (layout : Layout) (cabs : List Held) (numbers : List (Option ℕ)) (k : ℕ) (rows : List (List ℕ)) : Type 0 where
  pub many : length rows ≡ k
  pub each : (b : ℕ) (bundle : PlanBundle) (number : Option ℕ) (row : List ℕ) → slice_get plan.bundles b ≡ Some bundle → slice_get numbers b ≡ Some number
      → slice_get rows b ≡ Some row → IsRowAt plan layout cabs number b bundle.kept row

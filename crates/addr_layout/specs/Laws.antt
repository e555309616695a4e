-- Laws of layouts: where the references of a bundle's members lead, and that a placement has at most one layout and one
-- count of each kind.
use Rattle.std.specs.Prelude.{ℕ, ◌≡◌, List, Some}
use Rattle.std.specs.List.{AllZip, Contains, slice_get}
use Rattle.addr_base.specs.declared.ids.Guid.{Guid}
use Rattle.addr_project.specs.declared.model.Asset.{Asset}
use Rattle.addr_project.specs.Model.{Project}
use Rattle.addr_walks.specs.Places.{EachAt}
use Rattle.addr_layout.specs.declared.model.LayBundle.{LayBundle}
use Rattle.addr_layout.specs.declared.model.Layout.{Layout}
use Rattle.addr_layout.specs.declared.model.RefHome.{RefHome}
use Rattle.addr_layout.specs.declared.model.RefHome.TheVariants.{Own, Bundle}
use Rattle.addr_layout.specs.Members.{IsNumbered}

-- a reference that stays in a bundle leads to a member of it, and one that leads elsewhere to a bundle of its direct list
abbrev pub IsLed : Project → LayBundle → Guid → RefHome → Type 0
IsLed p lay y Own = (m : ℕ) × IsNumbered p m y × Contains lay.members m
IsLed p lay y (Bundle c) = Contains lay.direct c

-- each reference of an asset is led
abbrev pub AreLed : Project → LayBundle → ℕ → List RefHome → Type 0
AreLed p lay n homes = (asset : Asset) × (slice_get p.assets n ≡ Some asset) × AllZip (IsLed p lay) asset.refs homes

-- in each bundle, each reference of each member is led
abbrev pub LeadsWell : Project → Layout → Type 0
LeadsWell p layout = EachAt (λ b lay. AllZip (AreLed p lay) lay.members lay.refs) layout.bundles

-- two things of which this holds are the same
abbrev pub AtMostOne : {X : Type 0} → (X → Type 0) → Type 0
AtMostOne {X} is = (x y : X) → is x → is y → x ≡ y

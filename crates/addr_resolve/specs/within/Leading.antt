-- Where references lead among places by number, given the bundle of each internal name.
use Rattle.std.specs.Prelude.{ℕ, ◌≡◌, List, Option, Some, None, position}
use Rattle.std.proofs.Common.{Less}
use Rattle.std.specs.Borrow.{Bor}
use Rattle.std.specs.BTreeMap.{BTreeMap, get_by}
use Rattle.std.specs.Cmp.Lexicographic.{slice_cmp}
use Rattle.std.specs.List.{Contains, slice_get}
use Rattle.std.specs.Ordering.{nat_cmp}
use Rattle.std.specs.Str.{bytes_eq}
use Rattle.addr_base.specs.Ids.{hex_of}
use Rattle.addr_base.specs.Images.{Object}
use Rattle.addr_base.specs.declared.ids.Guid.{Guid}
use Rattle.addr_base.specs.declared.images.Home.{Home}
use Rattle.addr_base.specs.declared.images.Home.TheVariants.{Own, Other}
use Rattle.addr_base.specs.declared.images.RefTo.{RefTo}
use Rattle.addr_cab.specs.Lookup.{Held}
use Rattle.addr_locate.specs.declared.rows.BundleRow.{BundleRow}
use Rattle.addr_project.specs.Reach.{guid_cmp}
use Rattle.addr_resolve.specs.Items.{Lends}
use Rattle.addr_resolve.specs.declared.graph.PlaceRow.{PlaceRow}

-- the number that a map has under a name
abbrev pub first_of : BTreeMap (Bor (List ℕ)) ℕ → List ℕ → Option ℕ
first_of firsts name = get_by (λ key. slice_cmp nat_cmp name key.now) firsts

-- of each name the first row that has it, and of other names none
abbrev pub AreFirsts : List BundleRow → (List ℕ → Option ℕ) → Type 0
AreFirsts rows find = (name : List ℕ) → find name ≡ position (λ row. bytes_eq row.name name) rows

-- the bundle to which a home leads from a bundle
abbrev pub bundle_of : (List ℕ → Option ℕ) → ℕ → Home → Option ℕ
bundle_of find b Own = Some b
bundle_of find b (Other name) = find (hex_of name.0)

-- a reference of an object of a bundle leads to the place with a number
abbrev pub LeadsAt : (List ℕ → Option ℕ) → List PlaceRow → ℕ → RefTo → ℕ → Type 0
LeadsAt find places b r n = (c : ℕ) × (bundle_of find b r.home ≡ Some c) × (slice_get places n ≡ Some (record { guid = r.guid; bundle = c }))

-- it leads to none of the places
abbrev pub IsUnresolved : (List ℕ → Option ℕ) → List PlaceRow → ℕ → RefTo → Type 0
IsUnresolved find places b r = (n : ℕ) → LeadsAt find places b r n → ⊥

-- the numbers of the places to which references lead
pub record AreTargets (find : List ℕ → Option ℕ) (places : List PlaceRow) (b : ℕ) (refs : List RefTo) (row : List ℕ) : Type 0 where
  pub within : (n : ℕ) → Contains row n → (r : RefTo) × Contains refs r × LeadsAt find places b r n
  pub all : (r : RefTo) (n : ℕ) → Contains refs r → LeadsAt find places b r n → (m : ℕ) × Contains row m × LeadsAt find places b r m

-- the least GUID of a reference that leads to none of the places, if there is one
abbrev pub IsLeastUnresolved : (List ℕ → Option ℕ) → List PlaceRow → ℕ → List RefTo → Option Guid → Type 0
IsLeastUnresolved find places b refs None = (r : RefTo) → Contains refs r → (n : ℕ) × LeadsAt find places b r n
IsLeastUnresolved find places b refs (Some g) = ((r : RefTo) × Contains refs r × (r.guid ≡ g) × IsUnresolved find places b r)
    × ((r : RefTo) → Contains refs r → IsUnresolved find places b r → guid_cmp r.guid g ≡ Less → ⊥)

-- where references lead, and what is lost
pub record AreLinks (find : List ℕ → Option ℕ) (places : List PlaceRow) (b : ℕ) (refs : List RefTo) (row : List ℕ) (lost : Option Guid) : Type 0 where
  pub targets : AreTargets find places b refs row
  pub unresolved : IsLeastUnresolved find places b refs lost

-- where the references of the object at a place lead, and what is lost
abbrev pub AreLinksOf : (List ℕ → Option ℕ) → List Held → List PlaceRow → PlaceRow → List ℕ → Option Guid → Type 0
AreLinksOf find cabs places q row lost = (x : Object) × Lends cabs q x × AreLinks find places q.bundle x.refs row lost

-- where the references of the object at a place lead
abbrev pub IsRowOf : (List ℕ → Option ℕ) → List Held → List PlaceRow → PlaceRow → List ℕ → Type 0
IsRowOf find cabs places q row = (x : Object) × Lends cabs q x × AreTargets find places q.bundle x.refs row

-- the least GUID that they lose
abbrev pub IsLostOf : (List ℕ → Option ℕ) → List Held → List PlaceRow → PlaceRow → Option Guid → Type 0
IsLostOf find cabs places q lost = (x : Object) × Lends cabs q x × IsLeastUnresolved find places q.bundle x.refs lost

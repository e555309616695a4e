-- What is seen at the places of the state's files, by the tables that are looked up.
use Rattle.std.specs.Prelude.{ℕ, ◌≡◌, ◌⊎◌, Bool, true, false, List, [], ◌∷◌, ◌++◌, map, Option, Some, None}
use Rattle.std.specs.List.{Contains, slice_get}
use Rattle.addr_base.specs.Ids.{hex_of}
use Rattle.addr_base.specs.Images.{Object}
use Rattle.addr_base.specs.declared.ids.Digest.{Digest}
use Rattle.addr_base.specs.declared.ids.Guid.{Guid}
use Rattle.addr_base.specs.declared.images.Home.{Home}
use Rattle.addr_base.specs.declared.images.Home.TheVariants.{Own, Other}
use Rattle.addr_base.specs.declared.images.RefTo.{RefTo}
use Rattle.addr_cab.specs.Lookup.{Held}
use Rattle.addr_project.specs.declared.model.Asset.{Asset}
use Rattle.addr_project.specs.Model.{Project}
use Rattle.addr_resolve.specs.Items.{Lends}
use Rattle.addr_resolve.specs.declared.graph.PlaceRow.{PlaceRow}
use Rattle.addr_moves.specs.Firsts.{number_under}
use Rattle.addr_moves.specs.declared.looks.Homes.{Homes}
use Rattle.addr_moves.specs.within.Anew.{name_under}
use Rattle.addr_moves.specs.within.Leasts.{IsLeastWhere}

-- the bundle to which a home leads from a bundle
abbrev pub home_of : (List ℕ → Option ℕ) → ℕ → Home → Option ℕ
home_of find b Own = Some b
home_of find b (Other name) = find (hex_of name.0)

-- a bundle stays, if there is one
abbrev pub StaysAt : List (Option ℕ) → Option ℕ → Type 0
StaysAt stays to = (c : ℕ) × (to ≡ Some c) × (n : ℕ) × (slice_get stays c ≡ Some (Some n))

-- a reference leads to the project's own bundle that has its asset as an entry
abbrev pub AnewAt : (List ℕ → Option Digest) → RefTo → Type 0
AnewAt find r = (name : Digest) × (r.home ≡ Other name) × (find r.guid.0 ≡ Some name)

-- a reference of a bundle's object is led on, or isn't
abbrev pub LedOnBy : Homes → ℕ → RefTo → Type 0
LedOnBy h b r = (r.home ≡ Own) ⊎ (StaysAt h.stays (home_of (number_under h.names) b r.home) ⊎ AnewAt (name_under h.anew) r)

abbrev pub IsStrayBy : Homes → ℕ → RefTo → Type 0
IsStrayBy h b r = LedOnBy h b r → ⊥

-- it leads to a bundle, and none of the places is the one to which it leads
abbrev pub IsGapBy : Homes → List PlaceRow → ℕ → RefTo → Type 0
IsGapBy h places b r = (c : ℕ) × (home_of (number_under h.names) b r.home ≡ Some c)
    × (Contains places (record { guid = r.guid; bundle = c }) → ⊥)

-- GUIDs with one more, where it is wanted
abbrev pub with_guid : Bool → Guid → List Guid → List Guid
with_guid true g guids = guids ++ g ∷ []
with_guid false g guids = guids

-- the GUIDs of the references for which it holds
pub record AreGuidsWhere (P : RefTo → Type 0) (refs : List RefTo) (guids : List Guid) : Type 0 where
  pub within : (g : Guid) → Contains guids g → (r : RefTo) × Contains refs r × P r × (r.guid ≡ g)
  pub all : (r : RefTo) → Contains refs r → P r → Contains guids r.guid

-- an object is the project's asset with a GUID
abbrev pub IsBuiltBy : Project → Guid → List ℕ → List RefTo → Type 0
IsBuiltBy p guid bytes refs = (asset : Asset) × Contains p.assets asset × (asset.guid ≡ guid)
    × (bytes ≡ asset.bytes) × (map (λ r. r.guid) refs ≡ asset.refs)

-- a GUID is spoilt at a place that holds an object: the object isn't the asset, or a reference leads to nothing under the GUID
abbrev pub IsSpoiltBy : Project → Homes → List PlaceRow → PlaceRow → Object → Guid → Type 0
IsSpoiltBy p h places q x g = ((q.guid ≡ g) × (IsBuiltBy p q.guid x.bytes x.refs → ⊥))
    ⊎ ((r : RefTo) × Contains x.refs r × IsGapBy h places q.bundle r × (r.guid ≡ g))

-- these GUIDs
pub record AreSpoils (p : Project) (h : Homes) (places : List PlaceRow) (q : PlaceRow) (x : Object)
    (guids : List Guid) : Type 0 where
  pub within : (g : Guid) → Contains guids g → IsSpoiltBy p h places q x g
  pub all : (g : Guid) → IsSpoiltBy p h places q x g → Contains guids g

-- an object has a reference to an asset that isn't led on
abbrev pub IsAwayBy : Homes → PlaceRow → Object → Guid → Type 0
IsAwayBy h q x d = (r : RefTo) × Contains x.refs r × IsStrayBy h q.bundle r × (r.guid ≡ d)

pub record IsLookBy (p : Project) (h : Homes) (places : List PlaceRow) (q : PlaceRow) (x : Object)
    (spoils : List Guid) (away : Option Guid) : Type 0 where
  pub spoilt : AreSpoils p h places q x spoils
  pub led : IsLeastWhere (IsAwayBy h q x) away

-- so of the object at a place
abbrev pub IsLookOf : Project → List Held → Homes → List PlaceRow → PlaceRow → List Guid → Option Guid → Type 0
IsLookOf p cabs h places q spoils away = (x : Object) × Lends cabs q x × IsLookBy p h places q x spoils away

abbrev pub IsSpoilsOf : Project → List Held → Homes → List PlaceRow → PlaceRow → List Guid → Type 0
IsSpoilsOf p cabs h places q spoils = (x : Object) × Lends cabs q x × AreSpoils p h places q x spoils

abbrev pub IsAwayOf : List Held → Homes → PlaceRow → Option Guid → Type 0
IsAwayOf cabs h q away = (x : Object) × Lends cabs q x × IsLeastWhere (IsAwayBy h q x) away

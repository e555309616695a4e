-- The places of a release as numbers: where each reference leads, and what is found nowhere.
use Rattle.std.specs.Prelude.{ℕ, ◌≡◌, ◌<◌, ◌⊎◌, length, List, Option, Some, None}
use Rattle.std.proofs.Common.{Less}
use Rattle.std.specs.List.{Contains, slice_get}
use Rattle.addr_base.specs.declared.ids.Guid.{Guid}
use Rattle.addr_base.specs.declared.images.RefTo.{RefTo}
use Rattle.addr_cab.specs.declared.object.ObjectOut.{ObjectOut}
use Rattle.addr_layout.specs.Agreement.{Place, place}
use Rattle.addr_project.specs.Reach.{Item, guid_cmp}
use Rattle.addr_walks.specs.Rows.{AreBelow, Edge}
use Rattle.addr_release.specs.Opened.{Opened, Holds, LeadsTo, Jumps, ShowsAt}
use Rattle.addr_resolve.specs.declared.graph.PlaceRow.{PlaceRow}

-- the place of a row of places
abbrev pub place_at : PlaceRow → Place
place_at row = place row.bundle row.guid

-- a reference from a place leads to a place that holds something
abbrev pub Finds : List Opened → Place → Place → Type 0
Finds files q s = Jumps files q s × ((o : ObjectOut) × Holds files s o)

-- a place has a reference to g that leads nowhere, or to a place that holds nothing
abbrev pub Misses : List Opened → Place → Guid → Type 0
Misses files q g = (o : ObjectOut) × Holds files q o × (r : RefTo) × Contains o.refs r × (r.guid ≡ g)
    × ¬ ((c : ℕ) × LeadsTo files q.bundle r.home c × ((x : ObjectOut) × Holds files (place c g) x))

-- each reference of what a place holds leads to a place that holds something
abbrev pub IsComplete : List Opened → Place → Type 0
IsComplete files q = (o : ObjectOut) (r : RefTo) → Holds files q o → Contains o.refs r
    → (c : ℕ) × LeadsTo files q.bundle r.home c × ((x : ObjectOut) × Holds files (place c r.guid) x)

-- the least GUID that a place misses, if it misses any
abbrev pub IsLostAt : List Opened → Place → Option Guid → Type 0
IsLostAt files q None = IsComplete files q
IsLostAt files q (Some g) = Misses files q g × ((h : Guid) → Misses files q h → guid_cmp h g ≡ Less → ⊥)

-- one place stands before another: by the GUID, and then by the bundle
abbrev pub Before : PlaceRow → PlaceRow → Type 0
Before q s = (guid_cmp q.guid s.guid ≡ Less) ⊎ ((q.guid ≡ s.guid) × (q.bundle < s.bundle))

-- each place stands before those behind it
abbrev pub AreInOrder : List PlaceRow → Type 0
AreInOrder places = (m n : ℕ) (q s : PlaceRow) → slice_get places m ≡ Some q → slice_get places n ≡ Some s → m < n → Before q s

-- the places of a list are those at which something is held, and no others
pub record ShowsPlaces (files : List Opened) (places : List PlaceRow) : Type 0 where
  pub held : (n : ℕ) (q : PlaceRow) → slice_get places n ≡ Some q → (o : ObjectOut) × Holds files (place_at q) o
  pub all : (q : Place) (o : ObjectOut) → Holds files q o → (n : ℕ) × (row : PlaceRow) × (slice_get places n ≡ Some row) × (place_at row ≡ q)

-- the numbers are those of all places that hold something, in their order; rows lead where references do
pub record IsGraph (files : List Opened) (places : List PlaceRow) (rows : List (List ℕ)) (lost : List (Option Guid)) : Type 0 where
  pub held : (n : ℕ) (q : PlaceRow) → slice_get places n ≡ Some q → (o : ObjectOut) × Holds files (place_at q) o
  pub all : (q : Place) (o : ObjectOut) → Holds files q o → (n : ℕ) × (row : PlaceRow) × (slice_get places n ≡ Some row) × (place_at row ≡ q)
  pub ordered : AreInOrder places
  pub rows_many : length rows ≡ length places
  pub below : AreBelow rows (length rows)
  pub up : (m n : ℕ) (q : PlaceRow) → slice_get places m ≡ Some q → Edge rows m n
      → (s : PlaceRow) × (slice_get places n ≡ Some s) × Finds files (place_at q) (place_at s)
  pub down : (m : ℕ) (q : PlaceRow) (s : Place) → slice_get places m ≡ Some q → Finds files (place_at q) s
      → (n : ℕ) × (row : PlaceRow) × (slice_get places n ≡ Some row) × (place_at row ≡ s) × Edge rows m n
  pub missed_many : length lost ≡ length places
  pub missed : (n : ℕ) (q : PlaceRow) (l : Option Guid) → slice_get places n ≡ Some q → slice_get lost n ≡ Some l
      → IsLostAt files (place_at q) l

-- the first of some numbers with its GUID
abbrev pub IsFirst : List PlaceRow → List ℕ → ℕ → Type 0
IsFirst places found n = Contains found n
    × ((m : ℕ) (q s : PlaceRow) → Contains found m → m < n → slice_get places m ≡ Some q → slice_get places n ≡ Some s → q.guid ≡ s.guid → ⊥)

-- an item is what the place with a number shows
abbrev pub ShowsNumber : List Opened → List PlaceRow → ℕ → Item → Type 0
ShowsNumber files places n i = (q : PlaceRow) × (slice_get places n ≡ Some q) × (q.guid ≡ i.guid) × ShowsAt files (place_at q) i

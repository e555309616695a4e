-- The places of the objects that bundles hold.
use Rattle.std.specs.Prelude.{ℕ, ◌≡◌, ◌↔◌, List, Some, map}
use Rattle.std.specs.List.{Contains, slice_get}
use Rattle.addr_cab.specs.Lookup.{Held}
use Rattle.addr_cab.specs.declared.object.ObjectRow.{ObjectRow}
use Rattle.addr_resolve.specs.declared.graph.PlaceRow.{PlaceRow}

-- the bundle of a place has an object with its GUID
abbrev pub IsPlace : List Held → PlaceRow → Type 0
IsPlace cabs q = (c : Held) × (slice_get cabs q.bundle ≡ Some c) × (o : ObjectRow) × Contains c.rows o × (o.guid ≡ q.guid)

-- the places of all objects, and no others
abbrev pub ArePlaces : List Held → List PlaceRow → Type 0
ArePlaces cabs places = (q : PlaceRow) → Contains places q ↔ IsPlace cabs q

-- the places of a bundle's objects, in their order
abbrev pub row_places : ℕ → List ObjectRow → List PlaceRow
row_places b rows = map (λ o. record { guid = o.guid; bundle = b }) rows

-- Items as they are answered, and what the opened files of some cabs are.
use Rattle.std.specs.Prelude.{ℕ, ◌≡◌, List, map, Some}
use Rattle.std.specs.List.{AllZip, slice_get}
use Rattle.addr_base.specs.Images.{Object}
use Rattle.addr_base.specs.declared.ids.Guid.{Guid}
use Rattle.addr_cab.specs.Lookup.{Held, object_with}
use Rattle.addr_cab.specs.Objects.{objects_of}
use Rattle.addr_cab.specs.declared.object.ObjectOut.{ObjectOut}
use Rattle.addr_layout.specs.Agreement.{Place}
use Rattle.addr_locate.specs.declared.rows.BundleRow.{BundleRow}
use Rattle.addr_project.specs.Reach.{Item as ShownItem}
use Rattle.addr_release.specs.Opened.{Opened, Holds}
use Rattle.addr_resolve.specs.declared.graph.PlaceRow.{PlaceRow}
use Rattle.addr_resolve.specs.declared.items.Item.{Item}

-- an item as plain data
abbrev pub item_view : Item → ShownItem
item_view i = record { guid = i.guid; bytes = i.bytes; refs = i.refs }

-- the opened files are those that the cabs hold
abbrev pub ShowsCabs : List Opened → List Held → Type 0
ShowsCabs files cabs = AllZip (λ file c. file.objects ≡ objects_of c) files cabs

-- the opened files have the internal names of the rows
abbrev pub AreNamed : List Opened → List BundleRow → Type 0
AreNamed files rows = AllZip (λ file row. file.name ≡ row.name) files rows

-- no place holds two objects
abbrev pub HoldOne : List Opened → Type 0
HoldOne files = (q : Place) (x y : ObjectOut) → Holds files q x → Holds files q y → x ≡ y

-- the bundle of a place has an object under its GUID
abbrev pub Lends : List Held → PlaceRow → Object → Type 0
Lends cabs q x = (c : Held) × (slice_get cabs q.bundle ≡ Some c) × (object_with c q.guid.0 ≡ Some x)

-- each place has an object
abbrev pub AreHeld : List Held → List PlaceRow → Type 0
AreHeld cabs places = (n : ℕ) (q : PlaceRow) → slice_get places n ≡ Some q → (x : Object) × Lends cabs q x

-- an object as it is loaded under its GUID
abbrev pub IsLoaded : Guid → Object → ShownItem → Type 0
IsLoaded guid x i = (i.guid ≡ guid) × (i.bytes ≡ x.bytes) × (i.refs ≡ map (λ r. r.guid) x.refs)

-- an item is what the bundle of a place has under its GUID
abbrev pub IsItemAt : List Held → PlaceRow → ShownItem → Type 0
IsItemAt cabs q i = (x : Object) × Lends cabs q x × IsLoaded q.guid x i

-- an item is what stands at the place with a number
abbrev pub IsItemOf : List Held → List PlaceRow → ℕ → Item → Type 0
IsItemOf cabs places n i = (q : PlaceRow) × (slice_get places n ≡ Some q) × IsItemAt cabs q (item_view i)

-- The one pair of table and data of some objects, as callers give and get them.
use Rattle.std.specs.Prelude.{◌≡◌, ℕ, ◌+◌, ◌<◌, ◌^◌, List, [], ◌∷◌, length, map, take, drop, true, Ok}
use Rattle.std.specs.List.{AllByRecursion, flat_map, list_any}
use Rattle.std.specs.Str.{bytes_eq}
use Rattle.addr_base.specs.declared.images.Home.{Home}
use Rattle.addr_base.specs.declared.images.Home.TheVariants.{Own, Other}
use Rattle.addr_base.specs.declared.images.RefTo.{RefTo}
use Rattle.addr_cab.specs.declared.object.ObjectOut.{ObjectOut}
use Rattle.addr_cab.specs.declared.object.ObjectRow.{ObjectRow}
use Rattle.addr_cab.specs.Faults.{table_read}
use Rattle.addr_cab.specs.Format.{IsName}
use Rattle.addr_cab.specs.Outside.{outside_of}
use Rattle.addr_cab.specs.Searches.{Ascend}
use Rattle.addr_cab.specs.Spelling.{table_text}

-- the references of objects, one after the other
abbrev pub refs_of : List ObjectOut → List RefTo
refs_of objects = flat_map (λ o. o.refs) objects

abbrev pub bytes_len : ObjectOut → ℕ
bytes_len o = length o.bytes

abbrev pub placed_at : ℕ → ObjectOut → ObjectRow
placed_at at o = record { guid = o.guid; offset = at; size = length o.bytes; refs = o.refs }

-- the objects in the order given, the bytes of each where those of the one before end
abbrev pub placed : ℕ → List ObjectOut → List ObjectRow
placed at [] = []
placed at (o ∷ os) = placed_at at o ∷ placed (at + length o.bytes) os

-- the table of objects: the bundles outside that their references lead to, and their rows
unfoldable pub cab_table : List ObjectOut → List ℕ
cab_table objects = table_text (outside_of (refs_of objects)) (placed 0 objects)

-- the data of objects: their bytes, with no gaps
unfoldable pub cab_data : List ObjectOut → List ℕ
cab_data objects = flat_map (λ o. o.bytes) objects

-- a reference into the own bundle leads to one of the objects
abbrev pub IsKept : List ObjectOut → RefTo → Type 0
IsKept objects r = r.home ≡ Own → list_any (λ o. bytes_eq o.guid.0 r.guid.0) objects ≡ true

-- what can be written: GUIDs ascend strictly, no reference into the own bundle is lost, and the counts fit
pub record CanWrite (objects : List ObjectOut) : Type 0 where
  pub ascend : Ascend (λ o. o.guid.0) objects
  pub own : AllByRecursion (λ o. AllByRecursion (IsKept objects) o.refs) objects
  pub few : length objects < 2 ^ 32
  pub few_refs : AllByRecursion (λ o. length o.refs < 2 ^ 32) objects
  pub few_outside : length (outside_of (refs_of objects)) < 2 ^ 32

abbrev pub IsHome : Home → Type 0
IsHome Own = Unit {0}
IsHome (Other name) = IsName name

abbrev pub IsTypedRef : RefTo → Type 0
IsTypedRef r = (length r.guid.0 ≡ 16) × IsHome r.home

-- what the types of an object's fields say of its names: each has 16 bytes
abbrev pub IsTyped : ObjectOut → Type 0
IsTyped o = (length o.guid.0 ≡ 16) × AllByRecursion IsTypedRef o.refs

-- a table and data are those of objects that can be written
pub record IsCabText (objects : List ObjectOut) (table content : List ℕ) : Type 0 where
  pub typed : AllByRecursion IsTyped objects
  pub can : CanWrite objects
  pub table_is : table ≡ cab_table objects
  pub content_is : content ≡ cab_data objects

-- an object of a table, with its bytes in the data
abbrev pub object_in : List ℕ → ObjectRow → ObjectOut
object_in content o = record { guid = o.guid; bytes = take o.size (drop o.offset content); refs = o.refs }

-- a table is read, and its objects with their bytes in the data are these
abbrev pub ReadsBack : List ObjectOut → List ℕ → List ℕ → Type 0
ReadsBack objects table content = (rows : List ObjectRow) × (table_read (length content) table ≡ Ok rows) × (map (object_in content) rows ≡ objects)

-- What is kept of a bundle file that was read: the file, its internal name, and where its objects lie.
use Rattle.std.specs.Prelude.{◌≡◌, ℕ, ◌+◌, ◌≤◌, ◌<◌, ◌^◌, ◌⊎◌, List, Option, length, take, drop, option_map, find, Result, Ok, Err}
use Rattle.std.specs.List.{AllByRecursion}
use Rattle.addr_base.specs.Ids.{digest_of}
use Rattle.addr_base.specs.Images.{Object}
use Rattle.addr_base.specs.declared.ids.Digest.{Digest}
use Rattle.addr_unityfs.specs.declared.bundle.NodePlace.{NodePlace}
use Rattle.addr_unityfs.specs.declared.bundle.Bundle.{Bundle}
use Rattle.addr_unityfs.specs.Format.{node_bytes}
use Rattle.addr_cab.specs.declared.object.ObjectRow.{ObjectRow}
use Rattle.addr_cab.specs.declared.error.CabErr.{CabErr}
use Rattle.addr_cab.specs.declared.error.CabErr.TheVariants.{Nodes, NoMemory}
use Rattle.addr_cab.specs.Format.{AreNodes, IsTable}
use Rattle.addr_cab.specs.Searches.{Ascend}
use Rattle.addr_cab.specs.Faults.{has_guid, table_read}

-- start is the place of the data in the file
pub record Held : Type 0 where
  pub name : Digest
  pub file : List ℕ
  pub start : ℕ
  pub rows : List ObjectRow

-- the bytes of an object: a slice of the file
abbrev pub object_bytes : Held → ObjectRow → List ℕ
object_bytes c o = take o.size (drop (c.start + o.offset) c.file)

-- the object with a GUID
abbrev pub object_with : Held → List ℕ → Option Object
object_with c guid = option_map (λ o. record { bytes = object_bytes c o; refs = o.refs }) (find (has_guid guid) c.rows)

-- the file behind what is held has the size and the digest
pub record Fits (c : Held) (size : ℕ) (digest : Digest) : Type 0 where
  pub size_is : length c.file ≡ size
  pub digest_is : digest_of c.file ≡ digest.0

-- the GUIDs ascend, each object lies within the file, and the objects are as few as a table can count
pub record IsHeld (c : Held) : Type 0 where
  pub ascend : Ascend (λ o. o.guid.0) c.rows
  pub within : AllByRecursion (λ o. c.start + o.offset + o.size ≤ length c.file) c.rows
  pub few : length c.rows < 2 ^ 32

-- what was read of a file that is the bundle: what its table is read as
pub record IsReadAs (file : List ℕ) (b : Bundle) (c : Held) : Type 0 where
  pub table : NodePlace
  pub content : NodePlace
  pub nodes : AreNodes b c.name table content
  pub file_is : c.file ≡ file
  pub start_is : c.start ≡ b.start + content.offset
  pub rows_are : table_read content.size (node_bytes file b table) ≡ Ok c.rows

-- the first node of the bundle is the table of the objects, and the second one their bytes
pub record HoldsTable (file : List ℕ) (b : Bundle) (c : Held) : Type 0 where
  pub table : NodePlace
  pub content : NodePlace
  pub nodes : AreNodes b c.name table content
  pub table_is : IsTable content.size (node_bytes file b table) c.rows

-- the first fault of the table
pub record HasFault (file : List ℕ) (b : Bundle) (e : CabErr) : Type 0 where
  pub name : Digest
  pub table : NodePlace
  pub content : NodePlace
  pub nodes : AreNodes b name table content
  pub fault_is : table_read content.size (node_bytes file b table) ≡ Err e

-- no name makes the bundle's nodes those of a table and its data
abbrev pub HasNoTable : Bundle → Type 0
HasNoTable b = (name : Digest) (table content : NodePlace) → AreNodes b name table content → ⊥

-- the answer of reading a file that is the bundle
abbrev pub CabRead : List ℕ → Bundle → Result Held CabErr → Type 0
CabRead file b (Ok c) = IsReadAs file b c
CabRead file b (Err e) = (e ≡ NoMemory) ⊎ (((e ≡ Nodes) × HasNoTable b) ⊎ HasFault file b e)

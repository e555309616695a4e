-- Which two nodes of a bundle are those of an asset table and its data, and which bytes are the table of objects.
use Rattle.std.specs.Prelude.{◌≡◌, ℕ, ◌+◌, ◌<◌, ◌^◌, List, [], ◌∷◌, length, Some, None, position, slice_index_or, sum_by}
use Rattle.std.specs.List.{AllByRecursion}
use Rattle.addr_base.specs.Ids.{Are16Bytes}
use Rattle.addr_base.specs.declared.ids.Digest.{Digest}
use Rattle.addr_base.specs.declared.images.RefTo.{RefTo}
use Rattle.addr_unityfs.specs.declared.bundle.NodePlace.{NodePlace}
use Rattle.addr_unityfs.specs.declared.bundle.Bundle.{Bundle}
use Rattle.addr_cab.specs.declared.object.ObjectRow.{ObjectRow}
use Rattle.addr_cab.specs.Faults.{home_of, is_lost, is_unnamed}
use Rattle.addr_cab.specs.Searches.{Ascend}
use Rattle.addr_cab.specs.Spelling.{table_path, data_path, home_number, table_text}

-- a bundle has exactly two nodes, with the paths of a table and of its data under an internal name
pub record AreNodes (b : Bundle) (name : Digest) (table content : NodePlace) : Type 0 where
  pub nodes : b.nodes ≡ table ∷ content ∷ []
  pub sixteen : Are16Bytes name.0
  pub table_is : table.path ≡ table_path name
  pub content_is : content.path ≡ data_path name

-- a reference whose home is the own bundle or an outside bundle, under a number that fits
pub record IsRef (outside : List Digest) (r : RefTo) : Type 0 where
  pub sixteen : length r.guid.0 ≡ 16
  pub small : home_number outside r.home < 2 ^ 32
  pub home : home_of outside (home_number outside r.home) ≡ Some r.home

-- an object whose numbers fit, and none of whose references is lost
pub record IsObject (outside : List Digest) (rows : List ObjectRow) (o : ObjectRow) : Type 0 where
  pub sixteen : length o.guid.0 ≡ 16
  pub offset_small : o.offset < 2 ^ 64
  pub size_small : o.size < 2 ^ 64
  pub few : length o.refs < 2 ^ 32
  pub refs : AllByRecursion (IsRef outside) o.refs
  pub own : position (is_lost rows) o.refs ≡ None

abbrev pub IsName : Digest → Type 0
IsName d = length d.0 ≡ 16

-- the bytes of each object lie where those of the objects before it end
abbrev pub Placed : ℕ → List ObjectRow → Type 0
Placed at [] = Unit {0}
Placed at (o ∷ os) = (o.offset ≡ at) × Placed (at + o.size) os

-- bytes are the table of objects whose data has so much room: outside bundles and GUIDs ascend, each outside bundle is
-- named by a reference, and the objects' bytes lie in order with no gaps
pub record IsTable (room : ℕ) (table : List ℕ) (rows : List ObjectRow) : Type 0 where
  pub outside : List Digest
  pub bytes : table ≡ table_text outside rows
  pub few_outside : length outside < 2 ^ 32
  pub few : length rows < 2 ^ 32
  pub names : AllByRecursion IsName outside
  pub objects : AllByRecursion (IsObject outside rows) rows
  pub outside_ascend : Ascend (λ d. d.0) outside
  pub ascend : Ascend (λ o. o.guid.0) rows
  pub named : position (is_unnamed rows) outside ≡ None
  pub placed : Placed 0 rows
  pub all : sum_by (λ o. o.size) rows ≡ room

-- bytes are numbers below 256
abbrev pub AreBytes : List ℕ → Type 0
AreBytes bytes = (i : ℕ) → slice_index_or bytes i 0 < 256

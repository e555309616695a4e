-- When the file of some objects can be written.
use Rattle.std.specs.Prelude.{ℕ, ◌<◌, ◌^◌, List, length, map}
use Rattle.addr_cab.specs.declared.object.ObjectOut.{ObjectOut}
use Rattle.addr_cab.specs.Outside.{outside_of}
use Rattle.addr_cab.specs.Sizes.{size_of, node_sizes}
use Rattle.addr_cab.specs.Written.{CanWrite, refs_of}
use Rattle.addr_unityfs.specs.Format.{NoZero}
use Rattle.addr_unityfs.specs.Sizes.{file_size}

-- the bytes of the file of some objects, by their lengths
abbrev pub size_of_file : List ℕ → List ObjectOut → ℕ
size_of_file player objects = file_size (length player) (node_sizes (length (outside_of (refs_of objects))) (map size_of objects))

-- the objects and the version can be written, and the file stays small
pub record CanBeFile (player : List ℕ) (objects : List ObjectOut) : Type 0 where
  pub can : CanWrite objects
  pub text : NoZero player
  pub small : size_of_file player objects < 2 ^ 29

-- What `inspect` prints of a bundle file: its nodes, and the objects of its asset table where it has one. Each line ends
-- with a line feed (10); a space (32) parts its fields, and a comma (44) the references of an object.
use Rattle.std.specs.Prelude.{ℕ, List, [], ◌∷◌, ◌++◌, length, codes, decimal, unwrap_or, Result, Ok, Err}
use Rattle.std.specs.List.{flat_map}
use Rattle.addr_base.specs.Ids.{hex_of}
use Rattle.addr_base.specs.Tokens.{token_of}
use Rattle.addr_base.specs.declared.images.Home.{Home}
use Rattle.addr_base.specs.declared.images.Home.TheVariants.{Own, Other}
use Rattle.addr_base.specs.declared.images.RefTo.{RefTo}
use Rattle.addr_unityfs.specs.declared.bundle.Bundle.{Bundle}
use Rattle.addr_unityfs.specs.declared.bundle.NodePlace.{NodePlace}
use Rattle.addr_cab.specs.declared.error.CabErr.{CabErr}
use Rattle.addr_cab.specs.declared.object.ObjectRow.{ObjectRow}
use Rattle.addr_cab.specs.Lookup.{Held}
use Rattle.addr_cab.specs.Numbers.{fault_number}

abbrev pub node_line : NodePlace → List ℕ
node_line n = codes "node " ++ (token_of n.path ++ 32 ∷ (decimal n.offset ++ 32 ∷ (decimal n.size ++ 10 ∷ [])))

-- the own bundle, or the internal name of another one
abbrev pub home_text : Home → List ℕ
home_text Own = codes "own"
home_text (Other name) = hex_of name.0

abbrev pub ref_text : RefTo → List ℕ
ref_text r = hex_of r.guid.0 ++ 64 ∷ home_text r.home

-- the references with commas between them, or a mark where there are none
abbrev pub refs_text : List RefTo → List ℕ
refs_text [] = codes "-"
refs_text (r ∷ refs) = ref_text r ++ flat_map (λ more. 44 ∷ ref_text more) refs

abbrev pub object_line : ObjectRow → List ℕ
object_line o = codes "object " ++ (hex_of o.guid.0 ++ 32 ∷ (decimal o.size ++ 32 ∷ (refs_text o.refs ++ 10 ∷ [])))

-- a line for each object of the table, or why the nodes hold no table
abbrev pub contents_text : Result Held CabErr → List ℕ
contents_text (Ok cab) = flat_map object_line cab.rows
contents_text (Err fault) = codes "opaque " ++ (decimal (unwrap_or (fault_number fault) 0) ++ 10 ∷ [])

unfoldable pub inspect_text : Bundle → Result Held CabErr → List ℕ
inspect_text bundle contents = codes "bundle " ++ (decimal bundle.version ++ 32 ∷ (decimal (length bundle.nodes) ++ 10 ∷ (flat_map node_line bundle.nodes ++ contents_text contents)))

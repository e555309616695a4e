-- Which objects a bundle file holds, as a writer gives them: the whole objects, with no place of a byte.
use Rattle.std.specs.Prelude.{◌≡◌, List, [], ◌∷◌, ℕ, map, Result, Ok, Err, ◌⊎◌}
use Rattle.addr_base.specs.Ids.{Are16Bytes}
use Rattle.addr_base.specs.declared.ids.Digest.{Digest}
use Rattle.addr_unityfs.specs.declared.bundle.NodeOut.{NodeOut}
use Rattle.addr_unityfs.specs.declared.bundle.NodePlace.{NodePlace}
use Rattle.addr_unityfs.specs.declared.bundle.Bundle.{Bundle}
use Rattle.addr_unityfs.specs.Faults.{bundle_read}
use Rattle.addr_unityfs.specs.Format.{node_bytes}
use Rattle.addr_unityfs.specs.Written as files
use Rattle.addr_cab.specs.declared.error.CabErr.{CabErr}
use Rattle.addr_cab.specs.declared.error.CabErr.TheVariants.{NoMemory}
use Rattle.addr_cab.specs.declared.object.ObjectOut.{ObjectOut}
use Rattle.addr_cab.specs.Format.{AreNodes}
use Rattle.addr_cab.specs.Lookup.{Held, object_bytes}
use Rattle.addr_cab.specs.Spelling.{table_path, data_path}
use Rattle.addr_cab.specs.Written.{IsCabText}

-- a bundle has just the two nodes of an internal name, and their bytes are the table and the data of the objects
pub record IsCab (file : List ℕ) (b : Bundle) (name : Digest) (objects : List ObjectOut) : Type 0 where
  pub table : NodePlace
  pub content : NodePlace
  pub nodes : AreNodes b name table content
  pub text : IsCabText objects (node_bytes file b table) (node_bytes file b content)

-- the objects of a file that was read, as they were given to be written
abbrev pub objects_of : Held → List ObjectOut
objects_of c = map (λ o. record { guid = o.guid; bytes = object_bytes c o; refs = o.refs }) c.rows

-- an answer that is these objects under that name, or that memory was refused
abbrev pub AnswersCab : Result Held CabErr → Digest → List ObjectOut → Type 0
AnswersCab (Ok c) name objects = (c.name ≡ name) × (objects_of c ≡ objects)
AnswersCab (Err e) name objects = e ≡ NoMemory

-- an answer that is this fault, or that memory was refused
abbrev pub AnswersFault : Result Held CabErr → CabErr → Type 0
AnswersFault (Ok c) e = ⊥
AnswersFault (Err f) e = (f ≡ NoMemory) ⊎ (f ≡ e)

-- a file is read as a bundle, and the bundle holds the objects
abbrev pub HoldsCab : List ℕ → Digest → List ObjectOut → Type 0
HoldsCab file name objects = (b : Bundle) × (bundle_read file ≡ Ok b) × IsCab file b name objects

-- the two nodes of a bundle with an internal name: a table with flags 4, and its data with flags 0
abbrev pub cab_nodes : Digest → List ℕ → List ℕ → List NodeOut
cab_nodes name table content = record { path = table_path name; flags = 4; bytes = table } ∷ record { path = data_path name; flags = 0; bytes = content } ∷ []

-- each file that is read as a bundle of just these two nodes holds the objects
abbrev pub HeldByFiles : List ObjectOut → List ℕ → List ℕ → Type 0
HeldByFiles objects table content = (file : List ℕ) (name : Digest) → Are16Bytes name.0 → files.ReadsBack file (cab_nodes name table content) → HoldsCab file name objects

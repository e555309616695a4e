-- The sizes of a table and of its data, told by lengths alone.
use Rattle.std.specs.Prelude.{ℕ, ◌+◌, ◌*◌, List, [], ◌∷◌, length, sum_by}
use Rattle.addr_unityfs.specs.declared.bundle.NodeSize.{NodeSize}
use Rattle.addr_cab.specs.declared.object.ObjectOut.{ObjectOut}
use Rattle.addr_cab.specs.declared.object.ObjectSize.{ObjectSize}

-- the lengths of an object
abbrev pub size_of : ObjectOut → ObjectSize
size_of o = record { bytes = length o.bytes; refs = length o.refs }

-- an object in the table: 36 bytes, and 20 for each reference
abbrev pub row_size : ObjectSize → ℕ
row_size o = 20 * o.refs + 36

abbrev pub rows_size : List ObjectSize → ℕ
rows_size objects = sum_by row_size objects

-- the table of objects whose references lead to so many bundles outside
abbrev pub table_size : ℕ → List ObjectSize → ℕ
table_size outside objects = 16 * outside + 12 + rows_size objects

abbrev pub content_size : List ObjectSize → ℕ
content_size objects = sum_by (λ o. o.bytes) objects

-- the two nodes of a bundle: their paths have 36 and 41 bytes
abbrev pub node_sizes : ℕ → List ObjectSize → List NodeSize
node_sizes outside objects = record { path = 36; bytes = table_size outside objects } ∷ record { path = 41; bytes = content_size objects } ∷ []

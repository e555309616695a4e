-- The size of a written file, told by lengths alone.
use Rattle.std.specs.Prelude.{ℕ, ◌+◌, ◌*◌, List, length, sum_by}
use Rattle.addr_unityfs.specs.declared.bundle.NodeOut.{NodeOut}
use Rattle.addr_unityfs.specs.declared.bundle.NodeSize.{NodeSize}
use Rattle.addr_unityfs.specs.Flags.{to_sixteen}
use Rattle.addr_unityfs.specs.Written.{blocks_of}

-- the lengths of nodes
abbrev pub size_of : NodeOut → NodeSize
size_of n = record { path = length n.path; bytes = length n.bytes }

-- the header: the signature, version 7, `5.x.x`, the player's version, two zero bytes, and four numbers
abbrev pub header_size : ℕ → ℕ
header_size player = 39 + player

abbrev pub data_size : List NodeSize → ℕ
data_size nodes = sum_by (λ n. n.bytes) nodes

-- the blocks info: 16 bytes and two counts, 10 bytes for each block, and 21 with the path for each node
abbrev pub info_size : List NodeSize → ℕ
info_size nodes = 24 + 10 * length (blocks_of (data_size nodes)) + sum_by (λ n. 21 + n.path) nodes

-- the file of a player's version of so many bytes and of nodes with these lengths
unfoldable pub file_size : ℕ → List NodeSize → ℕ
file_size player nodes = header_size player + to_sixteen (header_size player) + info_size nodes + data_size nodes

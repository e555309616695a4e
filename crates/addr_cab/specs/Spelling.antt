-- The parts of an asset table, and the bytes that they are together. Integers are little-endian.
use Rattle.std.specs.Prelude.{ℕ, ◌+◌, ◌*◌, List, ◌++◌, Bool, true, false, Option, Some, None, length, codes}
use Rattle.std.specs.List.{flat_map, list_any, position_or_len}
use Rattle.std.specs.Int.{w32, w64, to_le_bytes}
use Rattle.std.specs.Ordering.{is_lt, nat_cmp}
use Rattle.std.specs.Cmp.Lexicographic.{slice_cmp}
use Rattle.std.specs.Str.{bytes_eq}
use Rattle.addr_base.specs.Ids.{hex_of}
use Rattle.addr_base.specs.declared.ids.Digest.{Digest}
use Rattle.addr_base.specs.declared.images.Home.{Home}
use Rattle.addr_base.specs.declared.images.Home.TheVariants.{Own, Other}
use Rattle.addr_base.specs.declared.images.RefTo.{RefTo}
use Rattle.addr_cab.specs.declared.object.ObjectRow.{ObjectRow}

-- the bytes with which a table begins
unfoldable pub magic : List ℕ
magic = codes "ADT1"

-- the paths of the two nodes of a bundle with an internal name: the table, and its data
abbrev pub table_path : Digest → List ℕ
table_path name = codes "CAB-" ++ hex_of name.0

abbrev pub data_path : Digest → List ℕ
data_path name = table_path name ++ codes ".resS"

-- whether bytes stand below others, the first difference deciding
abbrev pub is_below : List ℕ → List ℕ → Bool
is_below a b = is_lt (slice_cmp nat_cmp a b)

-- whether bytes stand above those before them, where there are any
abbrev pub is_above : Option (List ℕ) → List ℕ → Bool
is_above None bytes = true
is_above (Some before) bytes = is_below before bytes

-- whether a home is the bundle with a name
abbrev pub is_home : Digest → Home → Bool
is_home name Own = false
is_home name (Other other) = bytes_eq other.0 name.0

abbrev pub is_own : Home → Bool
is_own Own = true
is_own (Other name) = false

-- whether some reference leads to the bundle with a name
unfoldable pub leads_to : Digest → List RefTo → Bool
leads_to name refs = list_any (λ r. is_home name r.home) refs

-- the number of a home: 0 is the own bundle, and k from 1 on the k-th outside bundle
abbrev pub home_number : List Digest → Home → ℕ
home_number outside Own = 0
home_number outside (Other name) = position_or_len (λ d. bytes_eq d.0 name.0) outside + 1

abbrev pub ref_text : List Digest → RefTo → List ℕ
ref_text outside r = r.guid.0 ++ to_le_bytes w32 (home_number outside r.home)

-- an object: its GUID, the place and the number of its bytes, and its references
abbrev pub row_text : List Digest → ObjectRow → List ℕ
row_text outside o = o.guid.0 ++ (to_le_bytes w64 o.offset ++ (to_le_bytes w64 o.size ++ (to_le_bytes w32 (length o.refs) ++ flat_map (ref_text outside) o.refs)))

-- the bytes of an object before its references, of a reference, and of an outside bundle
abbrev pub row_front : ℕ
row_front = 36

abbrev pub ref_len : ℕ
ref_len = 20

abbrev pub name_len : ℕ
name_len = 16

-- where the outside bundles begin, and the bytes of a table beside them and the objects
abbrev pub names_at : ℕ
names_at = 8

abbrev pub table_front : ℕ
table_front = 12

-- how many bytes an object takes in the table
abbrev pub row_len : ObjectRow → ℕ
row_len o = row_front + ref_len * length o.refs

-- a table: the bundles outside that references lead to, and the objects
abbrev pub table_text : List Digest → List ObjectRow → List ℕ
table_text outside rows = magic ++ (to_le_bytes w32 (length outside) ++ (flat_map (λ d. d.0) outside ++ (to_le_bytes w32 (length rows) ++ flat_map (row_text outside) rows)))

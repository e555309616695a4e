-- Where a bundle's file lies below the release folder, and which bytes its name may have.
use Rattle.std.specs.Prelude.{ℕ, ◌==◌, ◌||◌, Bool, if◌then◌else◌, List, ◌∷◌, ◌++◌, codes}
use Rattle.std.specs.List.{AllPass}
use Rattle.addr_base.specs.Escapes.{is_name_byte}
use Rattle.addr_base.specs.Ids.{hex_of}
use Rattle.addr_base.specs.declared.ids.Digest.{Digest}

-- the name, `_`, the digits of the file's digest and `.bundle`
abbrev pub file_name : List ℕ → Digest → List ℕ
file_name name digest = name ++ (95 ∷ (hex_of digest.0 ++ codes ".bundle"))

-- the folder of a side: that of local bundles, or that of remote ones
abbrev pub side_folder : Bool → List ℕ
side_folder remote = if remote then codes "remote/" else codes "local/"

-- the file of a bundle on a side
abbrev pub side_file : Bool → List ℕ → Digest → List ℕ
side_file remote name digest = side_folder remote ++ file_name name digest

-- `_`, `~` and what a spelling keeps
abbrev pub is_bundle_byte : ℕ → Bool
is_bundle_byte b = b == 95 || (b == 126 || is_name_byte b)

-- each byte of a text may stand in a bundle's name
abbrev pub HasNameBytes : List ℕ → Type 0
HasNameBytes text = AllPass is_bundle_byte text

-- What `resolve` prints of the rows that a release shows under a key. Each line ends with a line feed (10); a space (32) parts its
-- fields, and a comma (44) the GUIDs that an item refers to.
use Rattle.std.specs.Prelude.{ℕ, ◌++◌, List, [], ◌∷◌, codes, decimal, length}
use Rattle.std.specs.List.{flat_map}
use Rattle.addr_base.specs.Ids.{hex_of}
use Rattle.addr_base.specs.Tokens.{token_of}
use Rattle.addr_base.specs.declared.ids.Guid.{Guid}
use Rattle.addr_project.specs.Reach.{Item, Row}
use Rattle.addr_script.specs.Replies.{content_text}

-- the GUIDs with commas between them, or a mark where there are none
abbrev pub guids_text : List Guid → List ℕ
guids_text [] = codes "-"
guids_text (guid ∷ guids) = hex_of guid.0 ++ flat_map (λ (more : Guid). 44 ∷ hex_of more.0) guids

-- an item: its GUID, how many bytes it has and how they are shown, and what it refers to
abbrev pub item_line : Item → List ℕ
item_line i = codes "item " ++ (hex_of i.guid.0 ++ 32 ∷ (decimal (length i.bytes)
    ++ 32 ∷ (content_text i.bytes ++ 32 ∷ (guids_text i.refs ++ 10 ∷ []))))

-- a row: its GUID and the token of its type, and a line for each of its items
abbrev pub row_lines : Row → List ℕ
row_lines row = codes "asset " ++ (hex_of row.guid.0 ++ 32 ∷ (token_of row.kind ++ 10 ∷ flat_map item_line row.items))

abbrev pub rows_text : List Row → List ℕ
rows_text rows = flat_map row_lines rows

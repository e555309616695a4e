-- The document of a project file with one group and some entries more. Each table keeps the members that the format has, as they
-- are, and no other.
use Rattle.std.specs.Prelude.{codes, ℕ, ◌≡◌, List, [], ◌∷◌, ◌++◌, map, false, if◌then◌else◌, Option, Some, None, MatchOption, option_and_then}
use Rattle.std.specs.List.{AllZip}
use Rattle.toml.specs.Data.{Data, string, array, table, Members, no_members, member, as_table, get_member}
use Rattle.toml.specs.View.{items_of}
use Rattle.addr_base.specs.Ids.{hex_of}
use Rattle.addr_base.specs.declared.ids.Guid.{Guid}
use Rattle.addr_project.specs.Rows.{rows}
use Rattle.addr_project_rows.specs.Firsts.{is_among}

-- the members of a table with these names, as they are, and no other
abbrev pub Keeps : List (List ℕ) → Members → Members → Type 0
Keeps names old new = (key : List ℕ) → get_member key new ≡ (if is_among names key then get_member key old else None)

-- a row with these members alone; what is no table stays as it is
abbrev pub KeepsRow : List (List ℕ) → Data → Data → Type 0
KeepsRow names (table old) row = (new : Members) × (row ≡ table new) × Keeps names old new
KeepsRow names other row = row ≡ other

-- an array of rows, which is left out where there are none
abbrev pub rows_member : List Data → Option Data
rows_member [] = None
rows_member (row ∷ rows) = Some (array (items_of (row ∷ rows)))

-- rows with these members alone, and then some rows more
abbrev pub KeepsRows : List (List ℕ) → List Data → List Data → Option Data → Type 0
KeepsRows names old added new = (kept : List Data) × AllZip (KeepsRow names) old kept × (new ≡ rows_member (kept ++ added))

-- a table with these members alone, where there is a table
abbrev pub KeepsTable : List (List ℕ) → Option Data → Option Data → Type 0
KeepsTable names old new = MatchOption (option_and_then as_table old) (new ≡ None) (λ ms. (kept : Members) × (new ≡ Some (table kept)) × Keeps names ms kept)

-- the members of each table that the format has
abbrev pub profile_names : List (List ℕ)
profile_names = codes "local" ∷ codes "remote" ∷ []

abbrev pub variable_names : List (List ℕ)
variable_names = codes "name" ∷ codes "value" ∷ []

abbrev pub group_names : List (List ℕ)
group_names = codes "name" ∷ codes "mode" ∷ codes "fixed" ∷ codes "remote" ∷ []

abbrev pub asset_names : List (List ℕ)
asset_names = codes "guid" ∷ codes "type" ∷ codes "file" ∷ codes "refs" ∷ []

abbrev pub entry_names : List (List ℕ)
entry_names = codes "guid" ∷ codes "group" ∷ codes "address" ∷ codes "labels" ∷ []

-- and of its top
abbrev pub top_names : List (List ℕ)
top_names = codes "version" ∷ codes "profile" ∷ codes "variable" ∷ codes "group" ∷ codes "asset" ∷ codes "entry" ∷ []

-- the row of a group that has nothing but a name
abbrev pub group_row : List ℕ → Data
group_row name = table (member (codes "name") (string name) no_members)

-- the row of an entry of a group, with the digits of its GUID as address
abbrev pub entry_row : List ℕ → Guid → Data
entry_row group guid = table (
    member (codes "address") (string (hex_of guid.0)) (
    member (codes "group") (string group) (
    member (codes "guid") (string (hex_of guid.0)) no_members)))

-- the document with a group of this name and its entries, which stand last
pub record IsWithEntries (old : Members) (group : List ℕ) (guids : List Guid) (new : Members) : Type 0 where
  pub version : get_member (codes "version") new ≡ get_member (codes "version") old
  pub profile : KeepsTable profile_names (get_member (codes "profile") old) (get_member (codes "profile") new)
  pub variables : KeepsRows variable_names (rows (codes "variable") old) [] (get_member (codes "variable") new)
  pub groups : KeepsRows group_names (rows (codes "group") old) (group_row group ∷ []) (get_member (codes "group") new)
  pub assets : KeepsRows asset_names (rows (codes "asset") old) [] (get_member (codes "asset") new)
  pub entries : KeepsRows entry_names (rows (codes "entry") old) (map (entry_row group) guids) (get_member (codes "entry") new)
  pub others : (key : List ℕ) → is_among top_names key ≡ false → get_member key new ≡ None

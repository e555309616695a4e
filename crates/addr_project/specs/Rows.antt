-- The tables of a project file: what each row stands for, and what the file's top does.
use Rattle.std.specs.Prelude.{codes, ℕ, List, [], Bool, false, Option, Some, None, unwrap_or}
use Rattle.std.specs.List.{filter_map}
use Rattle.toml.specs.Data.{Data, table, Members, no_members, as_bool, as_table}
use Rattle.addr_base.specs.declared.ids.Guid.{Guid}
use Rattle.addr_project.specs.declared.model.Mode.{Mode}
use Rattle.addr_project.specs.declared.model.Mode.TheVariants.{Together}
use Rattle.addr_project.specs.declared.model.Group.{Group}
use Rattle.addr_project.specs.declared.rows.AssetRow.{AssetRow}
use Rattle.addr_project.specs.declared.rows.EntryRow.{EntryRow}
use Rattle.addr_project.specs.declared.rows.ProjectFile.{ProjectFile}
use Rattle.addr_project_rows.specs.Fields.{field, required, text_where, text_of, is_version, is_file_name, guid_of, rows_of, list_of, labels_of}
use Rattle.addr_project_rows.specs.Variables.{variable_of}
use Rattle.addr_project.specs.Modes.{mode_of}

-- the group of members that are all good
abbrev pub group_from : Option (List ℕ) → Option Mode → Option Bool → Option Bool → Option Group
group_from (Some name) (Some mode) (Some fixed) (Some remote) = Some (record { name = name; mode = mode; fixed = fixed; remote = remote })
group_from _ _ _ _ = None

-- a row `[[group]]`
abbrev pub group_of : Data → Option Group
group_of (table ms) = group_from (required (codes "name") ms) (field mode_of (Some Together) (codes "mode") ms) (field as_bool (Some false) (codes "fixed") ms) (field as_bool (Some false) (codes "remote") ms)
group_of _ = None

-- the row of members that are all good
abbrev pub asset_row_from : Option Guid → Option (List ℕ) → Option (List ℕ) → Option (List Guid) → Option AssetRow
asset_row_from (Some guid) (Some kind) (Some file) (Some refs) = Some (record { guid = guid; kind = kind; file = file; refs = refs })
asset_row_from _ _ _ _ = None

-- a row `[[asset]]`
abbrev pub asset_of : Data → Option AssetRow
asset_of (table ms) = asset_row_from (field guid_of None (codes "guid") ms) (required (codes "type") ms) (field (text_where is_file_name) None (codes "file") ms) (field (list_of guid_of) (Some []) (codes "refs") ms)
asset_of _ = None

-- the row of members that are all good
abbrev pub entry_row_from : Option Guid → Option (List ℕ) → Option (List ℕ) → Option (List (List ℕ)) → Option EntryRow
entry_row_from (Some guid) (Some group) (Some address) (Some labels) = Some (record { guid = guid; group = group; address = address; labels = labels })
entry_row_from _ _ _ _ = None

-- a row `[[entry]]`
abbrev pub entry_of : Data → Option EntryRow
entry_of (table ms) = entry_row_from (field guid_of None (codes "guid") ms) (required (codes "group") ms) (required (codes "address") ms) (field labels_of (Some []) (codes "labels") ms)
entry_of _ = None

-- the version at a file's top
abbrev pub version_of : Members → Option (List ℕ)
version_of tree = field (text_where is_version) (Some (codes "2021.3.0f1")) (codes "version") tree

-- the table `[profile]`, which has no members where it is absent
abbrev pub profile_of : Members → Option Members
profile_of tree = field as_table (Some no_members) (codes "profile") tree

-- the rows of an array of tables, of which there are none where it is absent
abbrev pub rows_at : List ℕ → Members → Option (List Data)
rows_at key tree = field rows_of (Some []) key tree

-- a text of the profile, whose default is its own name
abbrev pub profile_text : List ℕ → Members → Option (List ℕ)
profile_text key profile = field text_of (Some key) key profile

-- the members of the profile; they count only where it is a table
abbrev pub profile : Members → Members
profile tree = unwrap_or (profile_of tree) no_members

-- the rows of a table; they count only where it is an array
abbrev pub rows : List ℕ → Members → List Data
rows key tree = unwrap_or (rows_at key tree) []

-- what a project file says; it counts only where no field is bad
unfoldable pub file_of : Members → ProjectFile
file_of tree = record {
  version = unwrap_or (version_of tree) [];
  local = unwrap_or (profile_text (codes "local") (profile tree)) [];
  remote = unwrap_or (profile_text (codes "remote") (profile tree)) [];
  variables = filter_map variable_of (rows (codes "variable") tree);
  groups = filter_map group_of (rows (codes "group") tree);
  assets = filter_map asset_of (rows (codes "asset") tree);
  entries = filter_map entry_of (rows (codes "entry") tree);
}

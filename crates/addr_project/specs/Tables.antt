-- The top of a project file, read before its rows.
use Rattle.std.specs.Prelude.{codes, ◌≡◌, map, Option, Some, None}
use Rattle.std.specs.Borrow.{Bor}
use Rattle.std.specs.BTreeMap.{BTreeMap}
use Rattle.std.specs.Global.{Global}
use Rattle.std.specs.Prelude.{String}
use Rattle.toml.specs.Data.{Members, no_members}
use Rattle.toml.specs.View.{view, table_view}
use Rattle.toml.specs.declared.value.Value.{Value}
use Rattle.addr_project.specs.declared.project_file.Head.{Head}
use Rattle.addr_project.specs.Rows.{version_of, profile_text, profile, rows_at}

-- the members of a table, or none where there is no table
abbrev pub members_in : Option (Bor (BTreeMap (String Global) Value)) → Members
members_in None = no_members
members_in (Some t) = table_view t.now

-- the parts of a top that are all good
pub record IsHead (tree : Members) (head : Head) : Type 0 where
  pub version : version_of tree ≡ Some head.version.now
  pub local : profile_text (codes "local") (profile tree) ≡ Some head.local.now
  pub remote : profile_text (codes "remote") (profile tree) ≡ Some head.remote.now
  pub variables : rows_at (codes "variable") tree ≡ Some (map view head.variables.now)
  pub groups : rows_at (codes "group") tree ≡ Some (map view head.groups.now)
  pub assets : rows_at (codes "asset") tree ≡ Some (map view head.assets.now)
  pub entries : rows_at (codes "entry") tree ≡ Some (map view head.entries.now)

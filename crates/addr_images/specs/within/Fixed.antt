-- The names of fixed groups, put in order one after another.
use Rattle.std.specs.Prelude.{ℕ, List, [], if◌then◌else◌}
use Rattle.std.specs.List.{fold}
use Rattle.addr_project.specs.declared.model.Group.{Group}
use Rattle.addr_project_rows.specs.Fields.{with_text}

-- one more group, which counts where it is fixed
abbrev pub with_group : List (List ℕ) → Group → List (List ℕ)
with_group names group = if group.fixed then with_text group.name names else names

-- the names of the fixed ones among groups, ascending
unfoldable pub fixed_names : List Group → List (List ℕ)
fixed_names groups = fold with_group [] groups

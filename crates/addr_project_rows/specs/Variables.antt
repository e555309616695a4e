-- Variables: what a row `[[variable]]` stands for, and when it is bad among the rows before it.
use Rattle.std.specs.Prelude.{codes, ℕ, List, map, Bool, true, Option, Some, None}
use Rattle.std.specs.List.{filter_map}
use Rattle.toml.specs.Data.{Data, table}
use Rattle.addr_base.specs.declared.var.Var.{Var}
use Rattle.addr_project_rows.specs.Fields.{field, text_where, is_within, is_name, most_text}
use Rattle.addr_project_rows.specs.Firsts.{is_among}

-- the variable of a name and a value, where both are good
abbrev pub variable_from : Option (List ℕ) → Option (List ℕ) → Option Var
variable_from (Some name) (Some value) = Some (record { name = name; value = value })
variable_from _ _ = None

-- a row `[[variable]]`
abbrev pub variable_of : Data → Option Var
variable_of (table ms) = variable_from (field (text_where is_name) None (codes "name") ms) (field (text_where (is_within 0 most_text)) None (codes "value") ms)
variable_of _ = None

-- a variable is bad among those before it where it stands for nothing, or has the name of one of them
abbrev pub is_bad_among : List Var → Option Var → Bool
is_bad_among before None = true
is_bad_among before (Some v) = is_among (map (λ w. w.name) before) v.name

-- a row is a bad variable among the rows before it
unfoldable pub is_bad_variable : List Data → Data → Bool
is_bad_variable before d = is_bad_among (filter_map variable_of before) (variable_of d)

-- What a reader of rows answers: the rows up to the first bad one, and its number.
use Rattle.std.specs.Prelude.{ℕ, ◌≡◌, List, length, take, Option, unwrap_or}
use Rattle.std.specs.List.{filter_map}
use Rattle.toml.specs.Data.{Data}
use Rattle.addr_base.specs.declared.var.Var.{Var}
use Rattle.addr_project_rows.specs.Fields.{first_bad}
use Rattle.addr_project_rows.specs.Firsts.{first_where}
use Rattle.addr_project_rows.specs.Variables.{variable_of, is_bad_variable}

-- what the rows before the first that stands for nothing stand for, or all rows where each stands for something
abbrev pub rows_before_bad : {A : Type 0} → (Data → Option A) → List Data → List A
rows_before_bad read ds = filter_map read (take (unwrap_or (first_bad read ds) (length ds)) ds)

-- the number of the first bad row, and what the rows before it stand for, or all where none is bad
pub record RowsRead {A : Type 0} (read : Data → Option A) (ds : List Data) (found : List A) (bad : Option ℕ) : Type 0 where
  pub bad_is : bad ≡ first_bad read ds
  pub found_is : found ≡ rows_before_bad read ds

-- the variables up to the first that stands for nothing, and the number of the first that does, or that repeats a name
pub record VariablesRead (ds : List Data) (found : List Var) (bad : Option ℕ) : Type 0 where
  pub bad_is : bad ≡ first_where is_bad_variable ds
  pub found_is : found ≡ rows_before_bad variable_of ds

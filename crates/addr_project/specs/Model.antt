-- A project: what contracts see of the type `Project`.
use Rattle.std.specs.Prelude.{ℕ, List}
use Rattle.addr_base.specs.declared.var.Var.{Var}
use Rattle.addr_project.specs.declared.model.Group.{Group}
use Rattle.addr_project.specs.declared.model.Asset.{Asset}
use Rattle.addr_project.specs.declared.model.Entry.{Entry}

-- `local` and `remote` are expanded
pub record Project : Type 0 where
  pub version : List ℕ
  pub local : List ℕ
  pub remote : List ℕ
  pub variables : List Var
  pub groups : List Group
  pub assets : List Asset
  pub entries : List Entry

use Rattle.std.proofs.Common.{map, sym, ap, ◌∙◌}
use Rattle.std.specs.Option.{option_map}
use Rattle.toml.specs.View.{view}
use Rattle.addr_project.specs.declared.error.ProjectErr.TheVariants.{BadField}
use Rattle.addr_project.specs.declared.limit.Part.TheVariants as part
use Rattle.addr_project_rows.proofs.VariableLemmas.{all-variables}
use Rattle.addr_project.proofs.project_file.variable_table.Goals as goal

pub returns-in-None-clause-ok : goal.returns-in-None-clause-ok
returns-in-None-clause-ok c = (
  ap (option_map (BadField part.Variable)) (sym c.in_ok-read.ensures.bad_is ∙ c.in-None.is),
  all-variables (map view c.args.rows.now) c.in_ok-read.read.found c.in_ok-read.read.bad c.in_ok-read.ensures c.in-None.is,
)

use Rattle.std.proofs.Common.{map, sym, ap, ◌∙◌}
use Rattle.addr_base.specs.declared.var.Var.{Var}
use Rattle.addr_project_rows.specs.Firsts.{first_repeat}
use Rattle.toml.specs.View.{view}
use Rattle.addr_project_rows.proofs.VariableLemmas.{repeated, unrepeated}
use Rattle.addr_project_rows.proofs.reader.variables_read.Goals as goal

pub returns-in-Some : goal.returns-in-Some
returns-in-Some c = repeated (map view c.args.rows.now) _ _ c.in_ok-found.ensures _ (ap (λ vs. first_repeat (map (λ (v : Var). v.name) vs)) (sym c.as_slice.ensures) ∙ sym c.in_ok-row.ensures ∙ c.in-Some.is)

pub returns-in-None : goal.returns-in-None
returns-in-None c = unrepeated (map view c.args.rows.now) _ _ c.in_ok-found.ensures (ap (λ vs. first_repeat (map (λ (v : Var). v.name) vs)) (sym c.as_slice.ensures) ∙ sym c.in_ok-row.ensures ∙ c.in-None.is)

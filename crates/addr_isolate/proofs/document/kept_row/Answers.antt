use Rattle.std.proofs.Common.{map, ap, sym, subst, ◌∙◌, ◌+◌}
use Rattle.std.specs.Option.{option_map}
use Rattle.toml.specs.View.{view, table_view}
use Rattle.toml.proofs.Views.{view-Table}
use Rattle.addr_isolate.specs.Shallow.{IsShallow}
use Rattle.addr_isolate.proofs.RowsLemmas.{row-shallow}
use Rattle.addr_isolate.proofs.document.kept_row.Goals as goal

pub returns-in_ok-kept-in-Some-clause-shallow : goal.returns-in_ok-kept-in-Some-clause-shallow
returns-in_ok-kept-in-Some-clause-shallow c =
    let is = sym c.as_table.ensures ∙ ap (option_map (λ m. table_view m.now)) c.in-Some.is in
    λ n all. subst (IsShallow (n + 1)) (sym (view-Table c.in_ok-kept-in-Some.field-0))
    (row-shallow (map (λ name. name.now) c.args.names.now) (view c.args.row.now) (table_view c.in-Some.table.now) (table_view c.in_ok-kept-in-Some.field-0) is c.in_ok-kept-in-Some.ensures.shallow n all)

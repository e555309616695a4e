use Rattle.std.proofs.Common.{ap, sym, ◌∙◌}
use Rattle.std.proofs.lemmas.Result.{on_ok_weaker}
use Rattle.std.specs.Option.{option_and_then, option_map}
use Rattle.toml.specs.Data.{as_table}
use Rattle.toml.specs.View.{view, table_view}
use Rattle.toml.proofs.Views.{view-Table}
use Rattle.addr_isolate.proofs.RowsLemmas.{table-none, table-some}
use Rattle.addr_isolate.proofs.document.put_table.Goals as goal

pub returns-in_default : goal.returns-in_default
returns-in_default c =
    table-none _ c.args.key.now (table_view c.args.tree.now) (table_view c.args.new.now)
    (ap (option_and_then as_table) (sym c.member.ensures ∙ ap (option_map (λ v. view v.now)) c.in_default.is))

pub returns-in_ok-kept-in-Some-as_table : goal.returns-in_ok-kept-in-Some-as_table
returns-in_ok-kept-in-Some-as_table c =
    let there = sym c.member.ensures ∙ ap (option_map (λ v. view v.now)) c.in-Some.is in
    let some = sym c.as_table.ensures ∙ ap (option_map (λ m. table_view m.now)) c.in-Some-as_table.is in
    let kept = c.in_ok-kept-in-Some-as_table.field-0 in
    on_ok_weaker c.put.result
    (table-some _ c.args.key.now (table_view c.args.tree.now) (table_view c.args.new.now) (table_view c.put.new.new) (table_view c.in-Some-as_table.table.now) (table_view kept) _
    (ap (option_and_then as_table) there ∙ some) (view-Table kept) c.in_ok-kept-in-Some-as_table.ensures.keeps c.in_ok-kept-in-Some-as_table.ensures.shallow)
    c.put.ensures.set

pub returns-in-None : goal.returns-in-None
returns-in-None c =
    let there = sym c.member.ensures ∙ ap (option_map (λ v. view v.now)) c.in-Some.is in
    let none = sym c.as_table.ensures ∙ ap (option_map (λ m. table_view m.now)) c.in-None.is in
    table-none _ c.args.key.now (table_view c.args.tree.now) (table_view c.args.new.now) (ap (option_and_then as_table) there ∙ none)

use Rattle.std.proofs.Common.{◌≡◌, ◌∷◌, ◌++◌, [], map, ap, subst, ◌∙◌}
use Rattle.std.specs.Prelude.{codes}
use Rattle.toml.specs.View.{members_view, view, table_view}
use Rattle.addr_isolate.specs.Document.{asset_names, entry_names, group_names, group_row, variable_names}
use Rattle.addr_isolate.specs.Shallow.{SetsRows}
use Rattle.addr_isolate.proofs.ChainLemmas.{with-entries, with-shallow}
use Rattle.addr_isolate.proofs.document.with_entries.Goals as goal

pub returns-clause-entries : goal.returns-clause-entries
returns-clause-entries c =
    let old = table_view c.args.tree.now in
    let group = c.args.group.now in
    let guids = c.args.guids.now in
    let m2 = table_view c.put_table.new.new in
    let m3 = table_view c.put_rows.new.new in
    let m4 = table_view c.put_rows-2.new.new in
    let m5 = table_view c.put_rows-3.new.new in
    let m6 = table_view c.put_rows-4.new.new in
    let made : map view c.push.new.self.items ≡ group_row group ∷ [] = ap (map view) (c.in_ok-push.ensures.items ∙ ap (λ vs. vs ++ c.in_ok-group_row.field-0 ∷ []) c.new-groups.ensures.items) ∙ ap (λ d. d ∷ []) c.in_ok-group_row.ensures in
    with-entries old (table_view c.new-new.result) (table_view c.copy.new.new) m2 m3 m4 m5 m6 group guids (ap members_view c.new-new.ensures.empty)
    c.in_ok-copy.ensures
    c.in_ok-put_table.ensures
    (subst (λ ds. SetsRows variable_names (codes "variable") old ds m2 m3) (ap (map view) c.new.ensures.items) c.in_ok-put_rows.ensures)
    (subst (λ ds. SetsRows group_names (codes "group") old ds m3 m4) made c.in_ok-put_rows-2.ensures)
    (subst (λ ds. SetsRows asset_names (codes "asset") old ds m4 m5) (ap (map view) c.new-2.ensures.items) c.in_ok-put_rows-3.ensures)
    (subst (λ ds. SetsRows entry_names (codes "entry") old ds m5 m6) c.in_ok-entries.ensures c.in_ok-put_rows-4.ensures)

pub returns-clause-shallow : goal.returns-clause-shallow
returns-clause-shallow c =
    let old = table_view c.args.tree.now in
    let group = c.args.group.now in
    let guids = c.args.guids.now in
    let m2 = table_view c.put_table.new.new in
    let m3 = table_view c.put_rows.new.new in
    let m4 = table_view c.put_rows-2.new.new in
    let m5 = table_view c.put_rows-3.new.new in
    let m6 = table_view c.put_rows-4.new.new in
    let made : map view c.push.new.self.items ≡ group_row group ∷ [] = ap (map view) (c.in_ok-push.ensures.items ∙ ap (λ vs. vs ++ c.in_ok-group_row.field-0 ∷ []) c.new-groups.ensures.items) ∙ ap (λ d. d ∷ []) c.in_ok-group_row.ensures in
    with-shallow old (table_view c.new-new.result) (table_view c.copy.new.new) m2 m3 m4 m5 m6 group guids (ap members_view c.new-new.ensures.empty)
    c.in_ok-copy.ensures
    c.in_ok-put_table.ensures
    (subst (λ ds. SetsRows variable_names (codes "variable") old ds m2 m3) (ap (map view) c.new.ensures.items) c.in_ok-put_rows.ensures)
    (subst (λ ds. SetsRows group_names (codes "group") old ds m3 m4) made c.in_ok-put_rows-2.ensures)
    (subst (λ ds. SetsRows asset_names (codes "asset") old ds m4 m5) (ap (map view) c.new-2.ensures.items) c.in_ok-put_rows-3.ensures)
    (subst (λ ds. SetsRows entry_names (codes "entry") old ds m5 m6) c.in_ok-entries.ensures c.in_ok-put_rows-4.ensures)

use Rattle.std.proofs.Common.{◌≡◌, ◌+◌, ◌++◌, ℕ, map, ap, subst, ◌∙◌}
use Rattle.std.proofs.lemmas.List.{map-append}
use Rattle.std.proofs.lemmas.Result.{on_ok_weaker}
use Rattle.std.specs.List.{AllByRecursion, AllZip}
use Rattle.toml.specs.View.{view, table_view}
use Rattle.addr_isolate.specs.Document.{KeepsRow, rows_member}
use Rattle.addr_isolate.specs.Shallow.{IsSetIf, IsShallow, IsShallowRow}
use Rattle.addr_isolate.proofs.RowsLemmas.{rows-set}
use Rattle.addr_isolate.proofs.document.put_rows.Goals as goal

pub returns : goal.returns
returns c =
    let names = map (λ name. name.now) c.args.names.now in
    let kept = map view c.in_ok-rows.rows.items in
    let added = map view c.args.added.items in
    let before = table_view c.args.new.now in
    let after = table_view c.put_array.new.new in
    let all : map view c.append.new.self.items ≡ kept ++ added = ap (map view) c.in_ok-append.ensures.items ∙ map-append view c.in_ok-rows.rows.items c.args.added.items in
    let keeps = subst (λ ds. AllZip (KeepsRow names) ds kept) c.rows_at.ensures c.in_ok-rows.ensures.keeps in
    let shallow = subst (λ ds. (n : ℕ) → AllByRecursion (IsShallowRow n names) ds → AllByRecursion (IsShallow (n + 1)) kept) c.rows_at.ensures c.in_ok-rows.ensures.shallow in
    on_ok_weaker c.put_array.result
    (λ set. rows-set names c.args.key.now (table_view c.args.tree.now) before after kept added keeps shallow (subst (λ ds. IsSetIf c.args.key.now (rows_member ds) before after) all set))
    c.put_array.ensures

use Rattle.std.proofs.Common.{◌≡◌, ◌≤◌, ◌+◌, ◌++◌, [], ◌∷◌, length, map, take, ap, sym, subst, ◌∙◌}
use Rattle.std.proofs.lemmas.List.{length-map, map-append, take_all}
use Rattle.std.specs.List.{AllByRecursion, AllZip}
use Rattle.toml.specs.View.{view}
use Rattle.addr_project_rows.proofs.RowLemmas.{view-at, views-small}
use Rattle.addr_walks.proofs.Zips.{zip-more}
use Rattle.addr_isolate.specs.Document.{KeepsRow}
use Rattle.addr_isolate.specs.Shallow.{IsShallow, IsShallowRow}
use Rattle.addr_isolate.proofs.RowsLemmas.{shallow-rows}
use Rattle.addr_isolate.proofs.document.kept_rows.Goals as goal

pub loop-row-preserved : goal.loop-row-preserved
loop-row-preserved c =
    let names = map (λ name. name.now) c.args.names.now in
    let vs = c.args.rows.now in
    let ds = map view vs in
    let i = c.loop-row.row-index in
    let v = c.row-item.result in
    let small = views-small vs i c.loop-row-test.true in
    let at = view-at vs i v c.loop-row-test.true c.row-item.is in
    let e = view c.in_ok-kept_row.field-0 in
    let kept = map view c.loop-row.kept.items in
    let pushed : map view c.push.new.self.items ≡ kept ++ e ∷ [] = ap (map view) c.in_ok-push.ensures.items ∙ map-append view c.loop-row.kept.items _ in
    record {
      keeps = subst (AllZip (KeepsRow names) (take (i + 1) ds)) (sym pushed) (zip-more (KeepsRow names) ds kept i (view v) e small (sym at) c.loop-row.invariant.keeps c.in_ok-kept_row.ensures.keeps);
      shallow = λ n all. subst (AllByRecursion (IsShallow (n + 1))) (sym pushed) (shallow-rows names ds i (view v) kept e small at c.loop-row.invariant.shallow c.in_ok-kept_row.ensures.shallow n all);
    }

pub returns-clause-keeps : goal.returns-clause-keeps
returns-clause-keeps c =
    let names = map (λ name. name.now) c.args.names.now in
    let vs = c.args.rows.now in
    let past : length (map view vs) ≤ c.loop-row.row-index = rw (length-map vs view) c.loop-row-test.false in
    subst (λ ds. AllZip (KeepsRow names) ds (map view c.loop-row.kept.items)) (take_all c.loop-row.row-index (map view vs) past) c.loop-row.invariant.keeps

pub returns-clause-shallow : goal.returns-clause-shallow
returns-clause-shallow c =
    let names = map (λ name. name.now) c.args.names.now in
    let vs = c.args.rows.now in
    let past : length (map view vs) ≤ c.loop-row.row-index = rw (length-map vs view) c.loop-row-test.false in
    λ n all. c.loop-row.invariant.shallow n (subst (AllByRecursion (IsShallowRow n names)) (sym (take_all c.loop-row.row-index (map view vs) past)) all)

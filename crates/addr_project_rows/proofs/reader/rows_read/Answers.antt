use Rattle.std.proofs.Common.{◌≡◌, ◌≤◌, [], ◌∷◌, ◌++◌, length, map, take, Some, None, sym, ap, ◌∙◌, arith}
use Rattle.std.proofs.lemmas.List.{take_all, length-map}
use Rattle.std.specs.List.{filter_map}
use Rattle.std.specs.Option.{unwrap_or}
use Rattle.toml.specs.View.{view}
use Rattle.addr_project_rows.specs.Fields.{first_bad}
use Rattle.addr_project_rows.proofs.FirstLemmas.{first_from-none}
use Rattle.addr_project_rows.proofs.RowLemmas.{rows-more, rows-pass, rows-bad, view-at, views-small}
use Rattle.addr_project_rows.proofs.reader.rows_read.Goals as goal

pub loop-i-init : goal.loop-i-init
loop-i-init g c = record { read = c.new-found.ensures; none = first_from-none _ }

pub loop-i-preserved : goal.loop-i-preserved
loop-i-preserved g c =
    let vs = c.args.rows.now in
    let v = c.index-rows-i.result in
    let small = views-small vs c.loop-i.i c.loop-i-test.true in
    let at = view-at vs c.loop-i.i v c.loop-i-test.true c.index-rows-i.is in
    let good : g.T.Row.row_of (view v) ≡ Some c.in-Some.item = sym c.in_ok-item.ensures ∙ c.in-Some.is in
    record {
      read = c.in_ok-push-in-Some.ensures.ok ∙ ap (λ found. found ++ c.in-Some.item ∷ []) c.loop-i.invariant.read ∙ sym (rows-more g.T.Row.row_of (map view vs) c.loop-i.i (view v) small at c.in-Some.item good);
      none = rows-pass g.T.Row.row_of (map view vs) c.loop-i.i (view v) small at c.in-Some.item good c.loop-i.invariant.none;
    }

pub returns-in-None : goal.returns-in-None
returns-in-None g c =
    let vs = c.args.rows.now in
    let v = c.index-rows-i.result in
    let small = views-small vs c.loop-i.i c.loop-i-test.true in
    let at = view-at vs c.loop-i.i v c.loop-i-test.true c.index-rows-i.is in
    let bad : g.T.Row.row_of (view v) ≡ None = sym c.in_ok-item.ensures ∙ c.in-None.is in
    let first = rows-bad g.T.Row.row_of (map view vs) c.loop-i.i (view v) small at bad c.loop-i.invariant.none in
    let number = c.in_ok-bad-in-None.ensures.ok in
    record {
      bad_is = ap Some number ∙ sym first;
      found_is = c.loop-i.invariant.read ∙ ap (λ o. filter_map g.T.Row.row_of (take (unwrap_or o (length (map view vs))) (map view vs))) (sym first);
    }

pub returns : goal.returns
returns g c =
    let ds = map view c.args.rows.now in
    let past : length ds ≤ c.loop-i.i = rw (length-map c.args.rows.now view) c.loop-i-test.false in
    let whole : take c.loop-i.i ds ≡ ds = take_all c.loop-i.i ds past in
    let all : take (length ds) ds ≡ ds = take_all (length ds) ds (omega arith) in
    let none : first_bad g.T.Row.row_of ds ≡ None = ap (first_bad g.T.Row.row_of) (sym whole) ∙ c.loop-i.invariant.none in
    record {
      bad_is = sym none;
      found_is = c.loop-i.invariant.read ∙ ap (filter_map g.T.Row.row_of) (whole ∙ sym all) ∙ ap (λ o. filter_map g.T.Row.row_of (take (unwrap_or o (length ds)) ds)) (sym none);
    }

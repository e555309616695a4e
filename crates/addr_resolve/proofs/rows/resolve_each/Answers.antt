use Rattle.std.proofs.Common.{◌≡◌, ◌+◌, ◌∙◌, List, map, take, Some, subst, sym, arith}
use Rattle.std.specs.List.{AllZip, slice_get}
use Rattle.addr_locate.specs.declared.rows.AssetRow.{AssetRow}
use Rattle.addr_project.specs.Reach.{Row}
use Rattle.addr_release.specs.Resolve.{ResolvesRow}
use Rattle.addr_resolve.specs.Resolving.{row_view}
use Rattle.addr_resolve.specs.within.Steps.{ResolvesRows}
use Rattle.addr_resolve.proofs.RowLemmas.{all-rows, at-index, at-number, err-is, more-shown, number-at, one-more, row-stops}
use Rattle.addr_resolve.proofs.rows.resolve_each.Goals as goal

pub returns-in_err-row : goal.returns-in_err-row
returns-in_err-row c = λ files rows is are. (
    let r = c.args.locator.now in
    let numbers = c.args.numbers.now in
    let k = c.loop-n.n-index in
    let n = number-at numbers k in
    let a : AssetRow = c.index-assets-n.result in
    let e = c.in_err-row.field-0.0 in
    let here : slice_get r.assets n.0 ≡ Some a = at-index c.assets-assets.result.now r.assets n.0 a c.assets-assets.ensures.rows (c.requires.within k (record { 0 = 0 }) c.loop-n-test.true) c.index-assets-n.is in
    subst (ResolvesRows r files rows) (sym (err-is c.from_residual.result e c.from_residual.ensures.1))
    (row-stops r files rows numbers k n a (map row_view c.loop-n.shown) e are (at-number numbers k c.loop-n-test.true) here (c.loop-n.invariant.sofar files rows is are) (c.in_err-row.ensures.resolves files is)))

pub loop-n-preserved : goal.loop-n-preserved
loop-n-preserved c = record {
  usable = record {
    many = c.loop-n.invariant.usable.many;
    lost = c.loop-n.invariant.usable.lost;
    below = c.loop-n.invariant.usable.below;
    size = c.in_ok-row.ensures.size ∙ c.loop-n.invariant.usable.size;
    held = c.loop-n.invariant.usable.held;
    ordered = c.loop-n.invariant.usable.ordered;
    few = c.loop-n.invariant.usable.few;
  };
  sofar = λ files rows is are. (
      let r = c.args.locator.now in
      let numbers = c.args.numbers.now in
      let k = c.loop-n.n-index in
      let n = number-at numbers k in
      let a : AssetRow = c.index-assets-n.result in
      let here : slice_get r.assets n.0 ≡ Some a = at-index c.assets-assets.result.now r.assets n.0 a c.assets-assets.ensures.rows (c.requires.within k (record { 0 = 0 }) c.loop-n-test.true) c.index-assets-n.is in
      subst (λ (xs : List Row). AllZip (ResolvesRow r files) (take (k + 1) rows) xs) (more-shown c.loop-n.shown c.push.new.self c.in_ok-row.row c.in_ok-push.ensures.ok)
      (one-more r files rows numbers k n a (map row_view c.loop-n.shown) (row_view c.in_ok-row.row) are (at-number numbers k c.loop-n-test.true) here (c.loop-n.invariant.sofar files rows is are) (c.in_ok-row.ensures.resolves files is)));
}

pub returns : goal.returns
returns c = λ files rows is are. (
    let out = c.loop-n-test.false in
    all-rows c.args.locator.now files rows c.args.numbers.now c.loop-n.n-index (map row_view c.loop-n.shown) are (omega (arith, out)) (c.loop-n.invariant.sofar files rows is are))

use Rattle.std.proofs.Common.{◌+◌, ap, length, take, subst, sym, ◌∙◌}
use Rattle.std.specs.List.{AllZip}
use Rattle.addr_project.proofs.LoadLemmas.{if-some, if-some-at}
use Rattle.addr_walks.proofs.Zips.{zip-more}
use Rattle.addr_resolve.specs.Opening.{IsOpenedAs, IsRefused}
use Rattle.addr_resolve.proofs.OpenedLemmas.{first-refused, length-snoc, refused-as}
use Rattle.addr_resolve.proofs.opening.open_all.Goals as goal

pub returns-in_err-cab-clause-refused : goal.returns-in_err-cab-clause-refused
returns-in_err-cab-clause-refused g c = if-some (g.D.Depot.now c.args.depot.now).files _ (λ files is.
    let sofar = if-some-at _ (g.D.Depot.now c.args.depot.now).files files is c.loop-row.invariant.opened in
    let here = if-some-at _ (g.D.Depot.now c.loop-row.depot).files files (c.loop-row.invariant.same.files ∙ is) c.in_err-cab.ensures.refused in
    refused-as (IsRefused files c.args.folder.now c.args.rows.now) c.from_residual.result c.in_err-cab.field-0.0 c.from_residual.ensures.1
    (first-refused files c.args.folder.now c.args.rows.now c.loop-row.cabs.items c.loop-row.row-index c.row-item.result c.in_err-cab.field-0.0 c.loop-row-test.true c.row-item.is sofar here))

pub loop-row-preserved : goal.loop-row-preserved
loop-row-preserved g c = record {
  many = ap length c.in_ok-push.ensures ∙ (length-snoc c.loop-row.cabs.items c.in_ok-cab.cab ∙ ap (λ n. n + 1) c.loop-row.invariant.many);
  same = record {
    files = c.in_ok-cab.ensures.same.files ∙ c.loop-row.invariant.same.files;
    past = c.in_ok-cab.ensures.same.past ∙ c.loop-row.invariant.same.past;
  };
  count = c.in_ok-cab.ensures.cause ∙ c.loop-row.invariant.count;
  opened = if-some (g.D.Depot.now c.args.depot.now).files _ (λ files is. (
      let R = IsOpenedAs files c.args.folder.now in
      let sofar = if-some-at _ (g.D.Depot.now c.args.depot.now).files files is c.loop-row.invariant.opened in
      let here = if-some-at _ (g.D.Depot.now c.loop-row.depot).files files (c.loop-row.invariant.same.files ∙ is) c.in_ok-cab.ensures.opened in
      subst (AllZip R (take (c.loop-row.row-index + 1) c.args.rows.now)) (sym c.in_ok-push.ensures) (zip-more R c.args.rows.now c.loop-row.cabs.items c.loop-row.row-index c.row-item.result c.in_ok-cab.cab c.loop-row-test.true c.row-item.is sofar here)));
}

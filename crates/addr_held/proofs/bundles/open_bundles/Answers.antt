use Rattle.std.proofs.Common.{◌+◌, ◌<◌, List, ap, get_or, length, take, subst, sym, refl, ◌≡◌, ◌∙◌}
use Rattle.std.specs.List.{AllZip}
use Rattle.addr_cab.specs.Lookup.{Held}
use Rattle.addr_project.proofs.LoadLemmas.{if-some, if-some-at}
use Rattle.addr_state.specs.declared.model.StateBundle.{StateBundle}
use Rattle.addr_walks.proofs.Zips.{zip-more}
use Rattle.addr_held.specs.Opening.{IsIntactAs}
use Rattle.addr_held.specs.within.Steps.{IsRefused}
use Rattle.addr_held.proofs.OpenedLemmas.{first-refused, length-snoc, refused-as}
use Rattle.addr_held.proofs.bundles.open_bundles.Goals as goal

pub returns-in_err-cab-clause-refused : goal.returns-in_err-cab-clause-refused
returns-in_err-cab-clause-refused g c = if-some (g.D.Depot.now c.args.depot.now).files _ (λ files is.
    let R = IsIntactAs files c.args.folder.now in
    let same : c.as_slice-bundles.result.now ≡ c.args.state.now.bundles = c.as_slice-bundles.ensures in
    let sofar = if-some-at _ (g.D.Depot.now c.args.depot.now).files files is c.loop-bundle.invariant.opened in
    let own : AllZip R (take c.loop-bundle.bundle-index c.args.state.now.bundles) c.loop-bundle.cabs = subst (λ (bs : List StateBundle). AllZip R (take c.loop-bundle.bundle-index bs) c.loop-bundle.cabs) same sofar in
    let within : c.loop-bundle.bundle-index < length c.args.state.now.bundles = subst (λ (bs : List StateBundle). c.loop-bundle.bundle-index < length bs) same c.loop-bundle-test.true in
    let at : c.bundle-item.result ≡ get_or c.args.state.now.bundles c.loop-bundle.bundle-index c.bundle-item.result = subst (λ (bs : List StateBundle). c.bundle-item.result ≡ get_or bs c.loop-bundle.bundle-index c.bundle-item.result) same c.bundle-item.is in
    let here = if-some-at _ (g.D.Depot.now c.loop-bundle.depot).files files (c.loop-bundle.invariant.same.files ∙ is) c.in_err-cab.ensures.refused in
    refused-as (IsRefused files c.args.folder.now c.args.state.now) c.from_residual.result c.in_err-cab.field-0.0 c.from_residual.ensures.1
    (first-refused files c.args.folder.now c.args.state.now c.loop-bundle.cabs c.loop-bundle.bundle-index c.bundle-item.result c.in_err-cab.field-0.0 within at own here))

pub loop-bundle-init : goal.loop-bundle-init
loop-bundle-init g c = record {
  many = ap length c.new-cabs.ensures;
  same = record { files = refl; past = refl };
  count = refl;
  opened = if-some (g.D.Depot.now c.args.depot.now).files _ (λ files is. subst (λ (cs : List Held). AllZip (IsIntactAs files c.args.folder.now) (take 0 c.as_slice-bundles.result.now) cs) (sym c.new-cabs.ensures) tt);
}

pub loop-bundle-preserved : goal.loop-bundle-preserved
loop-bundle-preserved g c = record {
  many = ap length c.in_ok-push.ensures.ok ∙ (length-snoc c.loop-bundle.cabs c.in_ok-cab.cab ∙ ap (λ n. n + 1) c.loop-bundle.invariant.many);
  same = record {
    files = c.in_ok-cab.ensures.same.files ∙ c.loop-bundle.invariant.same.files;
    past = c.in_ok-cab.ensures.same.past ∙ c.loop-bundle.invariant.same.past;
  };
  count = c.in_ok-cab.ensures.cause ∙ c.loop-bundle.invariant.count;
  opened = if-some (g.D.Depot.now c.args.depot.now).files _ (λ files is. (
      let R = IsIntactAs files c.args.folder.now in
      let sofar = if-some-at _ (g.D.Depot.now c.args.depot.now).files files is c.loop-bundle.invariant.opened in
      let here = if-some-at _ (g.D.Depot.now c.loop-bundle.depot).files files (c.loop-bundle.invariant.same.files ∙ is) c.in_ok-cab.ensures.opened in
      subst (AllZip R (take (c.loop-bundle.bundle-index + 1) c.as_slice-bundles.result.now)) (sym c.in_ok-push.ensures.ok) (zip-more R c.as_slice-bundles.result.now c.loop-bundle.cabs c.loop-bundle.bundle-index c.bundle-item.result c.in_ok-cab.cab c.loop-bundle-test.true c.bundle-item.is sofar here)));
}

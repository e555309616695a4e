use Rattle.std.proofs.Common.{◌+◌, length, sym, ap, subst, ◌∙◌}
use Rattle.std.proofs.lemmas.List.{length_push}
use Rattle.addr_walks.specs.Places.{EachAt}
use Rattle.addr_walks.proofs.Lists.{EachAt-push}
use Rattle.addr_layout.specs.Layout.{IsLaid}
use Rattle.addr_layout.proofs.FoundLemmas.{laid-is}
use Rattle.addr_layout.proofs.RankLemmas.{read-at}
use Rattle.addr_layout.proofs.laying.layout.Goals as goal

pub loop-b-preserved : goal.loop-b-preserved
loop-b-preserved c =
    let p = c.args.project.now in
    let plan = c.args.plan.now in
    let fits = IsLaid p plan in
    let lays = c.loop-b.bundles in
    let bundle = c.bundle-item.result in
    let lay = c.in_ok-lay.lay in
    let at = read-at c.as_slice-bundle-items.result.now plan.bundles c.loop-b.b bundle c.as_slice-bundle-items.ensures c.loop-b-test.true c.bundle-item.is in
    let laid = laid-is p plan c.in_ok-graph.graph c.kept.ensures c.requires.shared c.in_ok-graph.ensures.graph c.loop-b.b bundle lay at c.in_ok-lay.ensures.laid in
    let here = subst (λ b. fits b lay) (sym c.loop-b.invariant.as_many) laid in
    record {
      size = c.laid.ensures.size ∙ c.loop-b.invariant.size;
      as_many = ap length c.in_ok-push.ensures.ok ∙ (length_push lays lay ∙ ap (λ n. n + 1) c.loop-b.invariant.as_many);
      laid = subst (EachAt fits) (sym c.in_ok-push.ensures.ok) (EachAt-push fits lays lay c.loop-b.invariant.laid here);
    }

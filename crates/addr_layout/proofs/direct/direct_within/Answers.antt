use Rattle.std.proofs.Common.{◌+◌, length, sym, ap, subst, ◌∙◌}
use Rattle.std.proofs.lemmas.List.{length_push}
use Rattle.addr_walks.specs.Places.{EachAt}
use Rattle.addr_walks.proofs.Lists.{EachAt-push}
use Rattle.addr_layout.specs.Graph.{IsDirect}
use Rattle.addr_layout.proofs.direct.direct_within.Goals as goal

pub loop-b-preserved : goal.loop-b-preserved
loop-b-preserved c =
    let fits = IsDirect c.args.graph.now in
    let rows = c.loop-b.rows in
    let row = c.in_ok-direct.direct in
    let here = subst (λ b. fits b row) (sym c.loop-b.invariant.as_many) c.in_ok-direct.ensures.direct in
    record {
      size = c.direct_at.ensures.size ∙ c.loop-b.invariant.size;
      as_many = ap length c.in_ok-push.ensures.ok ∙ (length_push rows row ∙ ap (λ n. n + 1) c.loop-b.invariant.as_many);
      direct = subst (EachAt fits) (sym c.in_ok-push.ensures.ok) (EachAt-push fits rows row c.loop-b.invariant.direct here);
    }

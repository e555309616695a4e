use Rattle.std.proofs.Common.{◌+◌, length, subst, sym, ap, ◌∙◌}
use Rattle.std.proofs.lemmas.List.{length_push}
use Rattle.addr_walks.specs.Closure.{IsDeps}
use Rattle.addr_walks.specs.Places.{EachAt}
use Rattle.addr_walks.specs.Rows.{Edge}
use Rattle.addr_walks.proofs.Lists.{EachAt-push}
use Rattle.addr_walks.proofs.closure.closed.Goals as goal

pub loop-b-preserved : goal.loop-b-preserved
loop-b-preserved c =
    let all = c.loop-b.all in
    let step = IsDeps (Edge c.args.direct.now) in
    let deps = subst (λ b. step b c.in_ok-deps.deps) (sym c.loop-b.invariant.each_row) c.in_ok-deps.ensures.deps in
    record {
      size = c.deps_of.ensures.size ∙ c.loop-b.invariant.size;
      each_row = ap length c.in_ok-push.ensures.ok ∙ (length_push all c.in_ok-deps.deps ∙ ap (λ n. n + 1) c.loop-b.invariant.each_row);
      deps = subst (EachAt step) (sym c.in_ok-push.ensures.ok) (EachAt-push step all c.in_ok-deps.deps c.loop-b.invariant.deps deps);
    }

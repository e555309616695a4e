use Rattle.std.proofs.Common.{◌++◌, ◌∙◌, List, ap, sym}
use Rattle.std.specs.Prelude.{◌==◌}
use Rattle.std.proofs.lemmas.Bool.{false≢true}
use Rattle.addr_pack.specs.declared.bundles.PlanBundle.{PlanBundle}
use Rattle.addr_moving.proofs.GatheredLemmas.{moved-there}
use Rattle.addr_moving.proofs.moving.add_moved.Goals as goal

pub returns-in_ok-push : goal.returns-in_ok-push
returns-in_ok-push c = c.in_ok-push.ensures.items ∙ ap (λ (xs : List PlanBundle). c.args.bundles.now.items ++ xs) (moved-there c.args.project.now c.args.moved.now c.in_ok-bundle.bundle (λ none. false≢true (sym c.if-not-is_empty.true ∙ (c.is_empty.ensures ∙ ap (λ n. n == 0) none))) c.in_ok-bundle.ensures)

use Rattle.std.proofs.Common.{string_bytes}
use Rattle.addr_texts.proofs.PlanLemmas.{told-more}
use Rattle.addr_texts.proofs.plan.plan_text.Goals as goal

pub loop-b-preserved : goal.loop-b-preserved
loop-b-preserved c = told-more c.args.project.now c.args.plan.now c.loop-b.b (string_bytes c.loop-b.text) (string_bytes c.put_bundle.new.text) c.loop-b.invariant c.in_ok-put_bundle.ensures

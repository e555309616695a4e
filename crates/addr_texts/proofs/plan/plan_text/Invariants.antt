use Rattle.std.proofs.Common.{string_bytes}
use Rattle.addr_texts.specs.PlanText.{TellsFirst}
use Rattle.addr_texts.proofs.plan.plan_text.Given as goal

abbrev pub invariant-loop-b : goal.invariant-loop-b
invariant-loop-b l = TellsFirst l.project l.plan l.b (string_bytes l.text)

use Rattle.std.proofs.Common.{◌∙◌, sym, List, ℕ}
use Rattle.std.proofs.lemmas.Result.{IfOk-weaker}
use Rattle.addr_catalog.proofs.MarkLemmas.{unmarked}
use Rattle.addr_catalog.proofs.internal_ids.whole_id.Goals as goal

pub returns-in_default : goal.returns-in_default
returns-in_default c = IfOk-weaker c.copy_of.result _ _ (λ (x : List ℕ) is. is ∙ sym (unmarked c.args.prefixes.now c.args.id.now c.in_default.ensures)) c.copy_of.ensures

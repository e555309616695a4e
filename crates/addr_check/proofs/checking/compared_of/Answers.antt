use Rattle.addr_check.proofs.CheckLemmas.{plan-told}
use Rattle.addr_check.proofs.checking.compared_of.Goals as goal

pub returns-in_err-now-clause-refused : goal.returns-in_err-now-clause-refused
returns-in_err-now-clause-refused c = plan-told c.args.folder.project c.in_err-now.field-0.0 c.from_residual.result c.in_err-now.ensures.refused c.from_residual.ensures.1

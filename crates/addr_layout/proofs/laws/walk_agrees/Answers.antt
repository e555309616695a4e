use Rattle.addr_layout.proofs.AgreementLemmas.{walk-agrees}
use Rattle.addr_layout.proofs.laws.walk_agrees.Goals as goal

pub returns : goal.returns
returns c = walk-agrees c.args.project.now c.args.plan.now

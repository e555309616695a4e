use Rattle.addr_layout.proofs.DirectLemmas.{as-many, below, closes}
use Rattle.addr_layout.proofs.laws.direct_closes.Goals as goal

pub returns-clause-as_many : goal.returns-clause-as_many
returns-clause-as_many c = as-many c.args.project.now c.args.plan.now c.args.layout.now c.requires

pub returns-clause-below : goal.returns-clause-below
returns-clause-below c = below c.args.project.now c.args.plan.now c.args.layout.now c.requires

pub returns-clause-closes : goal.returns-clause-closes
returns-clause-closes c = closes c.args.project.now c.args.plan.now c.args.layout.now c.requires

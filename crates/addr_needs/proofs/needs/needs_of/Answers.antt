use Rattle.addr_needs.proofs.RowLemmas.{direct-rows, rows-below, rows-needs}
use Rattle.addr_needs.proofs.needs.needs_of.Goals as goal

pub returns-clause-direct : goal.returns-clause-direct
returns-clause-direct c = direct-rows c.args.project.now c.args.plan.now c.args.layout.now c.args.cabs.now c.args.numbers.now c.in_ok-rows.rows c.requires.laid c.requires.many c.in_ok-rows.ensures

pub returns-clause-below : goal.returns-clause-below
returns-clause-below c = rows-below c.args.project.now c.args.plan.now c.args.layout.now c.args.cabs.now c.args.numbers.now c.in_ok-rows.rows c.requires.laid c.requires.many c.in_ok-rows.ensures

pub returns-clause-needs : goal.returns-clause-needs
returns-clause-needs c = λ u of. rows-needs c.args.project.now c.args.plan.now c.args.layout.now c.args.cabs.now c.args.numbers.now c.in_ok-rows.rows c.requires.laid c.requires.many c.in_ok-rows.ensures u of

use Rattle.addr_analyze.proofs.IsolationLemmas.{none-copied, one-isolated, shows-own, shows-same}
use Rattle.addr_analyze.proofs.laws.isolation_laws.Goals as goal

pub returns-clause-none : goal.returns-clause-none
returns-clause-none c = none-copied c.args.project.now c.args.plan.now c.args.layout.now c.kept.ensures c.requires.placed c.requires.laid c.args.found.now c.requires.found

pub returns-clause-one : goal.returns-clause-one
returns-clause-one c = one-isolated c.args.project.now c.args.found.now

pub returns-clause-owns : goal.returns-clause-owns
returns-clause-owns c = shows-own c.args.project.now c.args.plan.now c.args.layout.now c.kept.ensures c.requires.placed c.requires.laid c.args.found.now c.requires.found

pub returns-clause-shows : goal.returns-clause-shows
returns-clause-shows c = shows-same c.args.project.now c.args.plan.now c.args.layout.now c.kept.ensures c.requires.placed c.requires.laid c.args.found.now c.requires.found

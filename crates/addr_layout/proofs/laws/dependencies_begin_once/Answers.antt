use Rattle.addr_walks.proofs.ClosureLemmas.{deps-begin-once}
use Rattle.addr_layout.specs.Needs.{Needs}
use Rattle.addr_layout.proofs.laws.dependencies_begin_once.Goals as goal

pub returns : goal.returns
returns c = deps-begin-once (Needs c.args.project.now c.args.plan.now)

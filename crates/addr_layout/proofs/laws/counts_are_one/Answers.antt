use Rattle.addr_layout.specs.Needs.{Needs}
use Rattle.addr_layout.proofs.UniqueLemmas.{one-deps_count, one-members_count}
use Rattle.addr_layout.proofs.laws.counts_are_one.Goals as goal

pub returns-clause-members : goal.returns-clause-members
returns-clause-members c = one-members_count c.args.project.now c.args.plan.now

pub returns-clause-deps : goal.returns-clause-deps
returns-clause-deps c = one-deps_count (Needs c.args.project.now c.args.plan.now) c.args.plan.now

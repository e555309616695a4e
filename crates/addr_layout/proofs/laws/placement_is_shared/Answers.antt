use Rattle.std.proofs.Common.{arith}
use Rattle.addr_layout.proofs.SharedLemmas.{shared, all-new, few-bundles}
use Rattle.addr_layout.proofs.laws.placement_is_shared.Goals as goal

pub returns-clause-few : goal.returns-clause-few
returns-clause-few c = let few = few-bundles c.args.project.now c.args.plan.now c.requires c.kept.ensures in omega arith

pub returns-clause-shared : goal.returns-clause-shared
returns-clause-shared c = shared c.args.project.now c.args.plan.now c.requires

pub returns-clause-new : goal.returns-clause-new
returns-clause-new c = all-new c.args.project.now c.args.plan.now c.requires

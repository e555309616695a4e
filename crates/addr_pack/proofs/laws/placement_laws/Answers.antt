use Rattle.addr_pack.proofs.SameLemmas.{groups_apart, names_tell}
use Rattle.addr_pack.proofs.UniqueLemmas.{none_twice, one_placement}
use Rattle.addr_pack.proofs.laws.placement_laws.Goals as goal

pub returns-clause-groups : goal.returns-clause-groups
returns-clause-groups c = groups_apart c.args.project.now c.kept.ensures

pub returns-clause-names : goal.returns-clause-names
returns-clause-names c = names_tell c.args.project.now c.kept.ensures

pub returns-clause-entries : goal.returns-clause-entries
returns-clause-entries c = none_twice c.args.project.now

pub returns-clause-unique : goal.returns-clause-unique
returns-clause-unique c = one_placement c.args.project.now

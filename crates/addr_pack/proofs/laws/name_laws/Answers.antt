use Rattle.addr_pack.proofs.BundleLemmas.{few, group_names, beginnings_tell, short_names, digits_follow}
use Rattle.addr_pack.proofs.laws.name_laws.Goals as goal

pub returns-clause-few : goal.returns-clause-few
returns-clause-few c = few c.args.project.now c.kept.ensures

pub returns-clause-begin : goal.returns-clause-begin
returns-clause-begin c = group_names c.args.project.now c.kept.ensures

pub returns-clause-tell : goal.returns-clause-tell
returns-clause-tell c = beginnings_tell c.args.project.now c.kept.ensures

pub returns-clause-short : goal.returns-clause-short
returns-clause-short c = short_names c.args.project.now

pub returns-clause-digits : goal.returns-clause-digits
returns-clause-digits c = digits_follow c.args.project.now

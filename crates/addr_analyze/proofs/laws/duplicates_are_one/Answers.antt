use Rattle.addr_analyze.proofs.DuplicateLemmas.{one-list-of}
use Rattle.addr_analyze.proofs.laws.duplicates_are_one.Goals as goal

pub returns : goal.returns
returns c = one-list-of c.args.project.now c.args.plan.now

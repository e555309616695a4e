use Rattle.addr_layout.proofs.UniqueLemmas.{one-layout}
use Rattle.addr_layout.proofs.laws.layout_is_one.Goals as goal

pub returns : goal.returns
returns c = one-layout c.args.project.now c.args.plan.now c.kept.ensures c.requires
